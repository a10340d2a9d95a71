-- `state_fifo::emptied` meets its contract: from the write position to itself there is none. Assumes nothing.
use Rattle.std.proofs.Common.{ℕ, List, [], refl, ap, arith, lit<}
use Rattle.machine.specs.State.{with_held}
use Rattle.state.specs.View.{at, view, view_of}
use Rattle.state.specs.Parts.{state_part}
use Rattle.state.proofs.RingLaws.{held_none}
use Rattle.state.proofs.StoreLaws.{set_byte}
use Rattle.state_fifo.proofs.emptied.Goals as goal

pub returns-clause-others : goal.returns-clause-others
unfolding view_of
returns-clause-others c chip sizes =
    let old = state_part c.args.chip.now chip in
    let bytes = old.state in
    set_byte (with_held []) bytes 13 (at bytes 14) old (lit< tt) refl sizes
    (ap (λ (h : List ℕ). with_held h (view old)) (held_none old.slots (at bytes 14) _ (omega arith))) (λ formed. refl)

pub returns-clause-turns : goal.returns-clause-turns
unfolding view_of
returns-clause-turns c sizes =
    let old = c.args.chip.now in
    let l = old.state in
    set_byte (with_held []) l 13 (at l 14) old (lit< tt) refl sizes
    (ap (λ (h : List ℕ). with_held h (view old)) (held_none old.slots (at l 14) _ (omega arith))) (λ bytes. refl)
