-- `event_frame_deliver::received` meets its contract: its callees' turns in order, the frame judged by the registers alone. Assumes nothing.
use mathlib.Core.Path.{refl, ap, ◌∙◌}
use lib.Dec.{lit<}
use lib.ListN.{take}
use Rattle.machine.specs.State.{with_rx_last_bits}
use Rattle.machine.specs.Fifo.{lost_of}
use Rattle.machine.specs.Frames.{received}
use Rattle.state.specs.View.{view, view_of}
use Rattle.state.proofs.StoreLaws.{set_byte}
use Rattle.state.proofs.TurnLaws.{then, becomes}
use Rattle.event_frame_deliver.proofs.DeliverLaws.{frame_received, frame_loses}
use Rattle.event_frame_deliver.proofs.received.Goals as goal

pub returns-clause-turns : goal.returns-clause-turns
unfolding view_of
returns-clause-turns c sizes =
    let a = c.args in
    let old = view a.chip.now in
    let bytes = a.bytes.now in
    let last_bits_lem = a.last_bits in
    let front = take c.passed_length-count.result bytes in
    let marked = c.failed.new.self in
    let first = c.rx_stopped.ensures.turns sizes in
    let second = c.failed.ensures.turns first.sizes in
    let third = set_byte (with_rx_last_bits last_bits_lem) marked.state 3 last_bits_lem marked (lit< tt) refl second.sizes refl (λ bytes. refl) in
    let (fourth, lost) = c.offered_all-lost.ensures.turns third.sizes in
    let fifth = c.requested.ensures.turns fourth.sizes in
    let sixth = c.ended.ensures.turns fifth.sizes in
    let before = then (then first second) third in (
      becomes (received bytes a.parities.now last_bits_lem) (then (then (then before fourth) fifth) sixth)
          (frame_received bytes a.parities.now last_bits_lem old c.frame_errors-errors.result front c.frame_errors-errors.ensures c.passed_length-count.ensures.passes),
      lost ∙ ap (lost_of front) before.machine ∙ frame_loses bytes last_bits_lem old c.frame_errors-errors.result front c.passed_length-count.ensures.passes,
    )
