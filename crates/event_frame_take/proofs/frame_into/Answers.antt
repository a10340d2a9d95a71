-- `event_frame_take::frame_into` meets its contract, by whether a checksum is added. Assumes nothing.
use Rattle.std.proofs.Common.{arith}
use Rattle.state.specs.View.{view, view_of}
use Rattle.event_frame_take.proofs.FrontLaws.{all_put}
use Rattle.event_frame_take.proofs.FrameLaws.{sent_unmarked, sent_part, sent_marked}
use Rattle.event_frame_take.proofs.frame_into.Goals as goal

pub returns-then-redundancy-ne1-clause-puts : goal.returns-then-redundancy-ne1-clause-puts
unfolding view_of
returns-then-redundancy-ne1-clause-puts c few =
    let old = c.args.chip.now in
    sent_unmarked (view old) _ _ _ (all_put c.held.ensures old.slots c.args.buffer.now _ _ c.min-count.ensures c.put_held.ensures few) (omega arith)

pub returns-then-chip-ne0-clause-puts : goal.returns-then-chip-ne0-clause-puts
unfolding view_of
returns-then-chip-ne0-clause-puts c few =
    let old = c.args.chip.now in
    sent_part (view old) _ _ _ (all_put c.held.ensures old.slots c.args.buffer.now _ _ c.min-count.ensures c.put_held.ensures few) (omega arith)

pub returns-clause-puts : goal.returns-clause-puts
unfolding view_of
returns-clause-puts c few =
    let old = c.args.chip.now in
    sent_marked (view old) _ _ _ (all_put c.held.ensures old.slots c.args.buffer.now _ _ c.min-count.ensures c.put_held.ensures few) _ _ (omega arith) (omega arith) c.put_crc.ensures.puts
