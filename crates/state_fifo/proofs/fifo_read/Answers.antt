-- `state_fifo::fifo_read` meets its contract: the first byte leaves, and the alerts are those over that. Assumes nothing.
use Rattle.std.proofs.Common.{ℕ, ◌+◌, ◌%◌, ◌-◌, ◌<◌, List, set, sym, refl, ap, ◌∙◌, arith, lit<}
use Rattle.machine.specs.State.{Machine, with_held}
use Rattle.machine.specs.Fifo.{rest_of, alerted}
use Rattle.state.specs.View.{at, held_of, view, view_of, with_state}
use Rattle.state.specs.Parts.{state_registers_slots}
use Rattle.state.specs.declared.Chip.{Chip}
use Rattle.state.proofs.RingLaws.{count_length, ring_taken}
use Rattle.state.proofs.StoreLaws.{set_byte}
use Rattle.state.proofs.TurnLaws.{stays, then, becomes, here}
use Rattle.state_fifo.proofs.AlertLaws.{alerted_same}
use Rattle.state_fifo.proofs.FifoLaws.{none_first, none_rest, drop_one, length_rest, first_slot, alerts_over}
use Rattle.state_fifo.proofs.fifo_read.Goals as goal

pub returns-then-count-eq0 : goal.returns-then-count-eq0
unfolding view_of
returns-then-count-eq0 c =
    let old = c.args.chip.now in
    let held = held_of (at old.state 13) (at old.state 14) old.slots in
    let empty = sym (count_length c.held-count.ensures old.slots) ∙ c.if-count-eq0.true in record {
      reads = none_first held empty;
      turns = λ sizes.
          becomes (λ m. alerted m (with_held (rest_of m.held) m)) (stays old sizes)
          (sym (alerted_same (view old)) ∙ ap (λ (l : List ℕ). alerted (view old) (with_held l (view old))) (sym (none_rest held empty)));
      others = λ chip sizes.
          let lent = state_registers_slots old chip in
          becomes (λ m. alerted m (with_held (rest_of m.held) m)) (stays lent sizes)
          (sym (alerted_same (view lent)) ∙ ap (λ (l : List ℕ). alerted (view lent) (with_held l (view lent))) (sym (none_rest held empty)));
      rest = refl;
    }

pub returns : goal.returns
unfolding view_of
returns c =
    let level = c.fifo_level-level in
    let old = c.args.chip.now in
    let l = old.state in
    let p = c.held-count.ensures in
    let n = c.held-count.result in
    let some : 0 < n = omega (arith, c.if-count-eq0.false) in
    let x = (at l 13 + 1) % 256 in
    let held = held_of (at l 13) (at l 14) old.slots in
    let rest : Machine → Machine = λ m. with_held (rest_of m.held) m in record {
      reads = first_slot p some old.slots;
      turns = λ sizes.
          let leaves = set_byte rest l 13 x old (lit< tt) refl sizes
          (ap (λ (h : List ℕ). with_held h (view old)) (ring_taken p old.slots 1 x (omega arith) refl ∙ drop_one held)) (λ bytes. refl) in
          becomes (λ m. alerted m (rest m)) (then leaves (c.requested.ensures.turns leaves.sizes))
          (alerts_over (view old) (rest (view old)) n (n - 1) level.result c.alerts.result c.alerts-2.result level.ensures refl (count_length p old.slots)
          (ap (λ (k : ℕ). k - 1) (count_length p old.slots) ∙ sym (length_rest held)) c.alerts.ensures.is c.alerts-2.ensures.is);
      others = λ chip sizes.
          let on : Chip → Chip = λ d. state_registers_slots d chip in
          let lent = on old in
          let leaves = set_byte rest l 13 x lent (lit< tt) refl sizes
          (ap (λ (h : List ℕ). with_held h (view lent)) (ring_taken p old.slots 1 x (omega arith) refl ∙ drop_one held)) (λ bytes. refl) in
          becomes (λ m. alerted m (rest m)) (then leaves (here (ap on c.requested.ensures.rest) (c.requested.ensures.others (with_state (set l 13 x) lent) leaves.sizes)))
          (alerts_over (view lent) (rest (view lent)) n (n - 1) level.result c.alerts.result c.alerts-2.result level.ensures refl (count_length p old.slots)
          (ap (λ (k : ℕ). k - 1) (count_length p old.slots) ∙ sym (length_rest held)) c.alerts.ensures.is c.alerts-2.ensures.is);
      rest = c.requested.ensures.rest;
    }
