-- `state_fifo::taken` meets its contract, by whether all leave. Assumes nothing.
use Rattle.std.proofs.Common.{ℕ, ◌+◌, ◌%◌, List, sym, refl, ap, arith, lit<, drop_of_length-le}
use Rattle.machine.specs.State.{with_held}
use Rattle.machine.specs.Commands.{taken}
use Rattle.state.specs.View.{at, held_of, view, view_of}
use Rattle.state.specs.Parts.{state_part}
use Rattle.state.proofs.RingLaws.{count_length, ring_taken}
use Rattle.state.proofs.StoreLaws.{set_byte}
use Rattle.state.proofs.TurnLaws.{becomes}
use Rattle.state_fifo.proofs.taken.Goals as goal

pub returns-then-held-count-clause-others : goal.returns-then-held-count-clause-others
unfolding view_of
returns-then-held-count-clause-others c chip sizes =
    let a = c.args in
    let old = state_part a.chip.now chip in
    let held = held_of (at old.state 13) (at old.state 14) old.slots in
    becomes (taken a.count) (c.emptied.ensures.others chip sizes)
    (ap (λ (h : List ℕ). with_held h (view old)) (sym (drop_of_length-le held {i = a.count} (rw (sym (count_length c.held.ensures old.slots)) (omega arith)))))

pub returns-then-held-count-clause-turns : goal.returns-then-held-count-clause-turns
unfolding view_of
returns-then-held-count-clause-turns c sizes =
    let a = c.args in
    let old = a.chip.now in
    let held = held_of (at old.state 13) (at old.state 14) old.slots in
    becomes (taken a.count) (c.emptied.ensures.turns sizes)
    (ap (λ (h : List ℕ). with_held h (view old)) (sym (drop_of_length-le held {i = a.count} (rw (sym (count_length c.held.ensures old.slots)) (omega arith)))))

pub returns-clause-others : goal.returns-clause-others
unfolding view_of
returns-clause-others c chip sizes =
    let a = c.args in
    let old = state_part a.chip.now chip in
    set_byte (taken a.count) old.state 13 ((at old.state 13 + a.count) % 256) old (lit< tt) refl sizes
    (ap (λ (h : List ℕ). with_held h (view old)) (ring_taken c.held.ensures old.slots a.count ((at old.state 13 + a.count) % 256) (omega arith) refl)) (λ bytes. refl)

pub returns-clause-turns : goal.returns-clause-turns
unfolding view_of
returns-clause-turns c sizes =
    let a = c.args in
    let old = a.chip.now in
    set_byte (taken a.count) old.state 13 ((at old.state 13 + a.count) % 256) old (lit< tt) refl sizes
    (ap (λ (h : List ℕ). with_held h (view old)) (ring_taken c.held.ensures old.slots a.count ((at old.state 13 + a.count) % 256) (omega arith) refl)) (λ bytes. refl)
