-- `register_write::control_written` meets its contract: its steps in order, each by its bit. Assumes nothing.
use Rattle.std.proofs.Common.{ℕ, ◌%◌, ◌≡◌, cond, eqb, refl, ap, ◌∙◌, eq-eqb, ne_eqb, rules}
use native.Mathlib.Nat.{div-one}
use Rattle.bits.specs.Bits.{bit_set}
use Rattle.machine.specs.Fifo.{flushed, alerted}
use Rattle.machine.specs.Timer.{timer_started, timer_stopped}
use Rattle.machine.specs.Registers.{register_written}
use Rattle.state.specs.View.{view}
use Rattle.state.specs.Parts.{clocks_numbers_state, clocks_numbers_state_registers, clocks_state_registers, numbers_state_registers}
use Rattle.state.specs.Turns.{Turned}
use Rattle.state.specs.declared.Chip.{Chip}
use Rattle.state.proofs.TurnLaws.{then, becomes, here, onto, own}
use Rattle.register_write.proofs.WriteLaws.{where_set, where_clear, control_alerted}
use Rattle.register_write.proofs.control_written.Goals as goal
use Rattle.register_write.proofs.control_written.Goals.{then-v-eq1, else-v-eq1, then-v-eq1-2, else-v-eq1-2, then-v-eq1-3, else-v-eq1-3}

pub returns-clause-others : goal.returns-clause-others
returns-clause-others c chip sizes =
    let v = c.args.v in
    let on : Chip → Chip = λ d. clocks_numbers_state_registers d chip in
    let old = on c.args.chip.now in
    let bit-0 : bit_set v 0 ≡ eqb (v % 2) 1 = ap (λ (n : ℕ). eqb (n % 2) 1) (div-one v) in
    let first : Turned (λ m. cond (bit_set v 0) (alerted m (flushed m)) m) old (on c.if-v-eq1.chip) =
    elim c.if-v-eq1.branch [
      | then-v-eq1 w ↦ where_set (bit_set v 0) (bit-0 ∙ eq-eqb _ _ w.if-v-eq1.true) (ap on w.chip-is) (onto numbers_state_registers on w.flushed.ensures.rest refl (w.flushed.ensures.others old sizes))
      | else-v-eq1 w ↦ where_clear (λ m. alerted m (flushed m)) (bit_set v 0) (bit-0 ∙ ne_eqb _ _ w.if-v-eq1.false) (ap on w.chip-is) sizes
    ] in
    let second : Turned (λ m. cond (bit_set v 2) (timer_stopped m) m) (on c.if-v-eq1.chip) (on c.if-v-eq1-2.chip) =
    elim c.if-v-eq1-2.branch [
      | then-v-eq1-2 w ↦ where_set (bit_set v 2) (eq-eqb _ _ w.if-v-eq1-2.true) (ap on w.chip-is)
          (here (ap on w.timer_stopped.ensures.rest) (w.timer_stopped.ensures.others (on c.if-v-eq1.chip) first.sizes))
      | else-v-eq1-2 w ↦ where_clear timer_stopped (bit_set v 2) (ne_eqb _ _ w.if-v-eq1-2.false) (ap on w.chip-is) first.sizes
    ] in
    let third : Turned (λ m. cond (bit_set v 1) (timer_started m) m) (on c.if-v-eq1-2.chip) (on c.if-v-eq1-3.chip) =
    elim c.if-v-eq1-3.branch [
      | then-v-eq1-3 w ↦ where_set (bit_set v 1) (eq-eqb _ _ w.if-v-eq1-3.true) (ap on w.chip-is)
          (onto clocks_state_registers on w.timer_started.ensures.rest refl (w.timer_started.ensures.others (on c.if-v-eq1-2.chip) second.sizes))
      | else-v-eq1-3 w ↦ where_clear timer_started (bit_set v 1) (ne_eqb _ _ w.if-v-eq1-3.false) (ap on w.chip-is) second.sizes
    ] in
    let modes = onto clocks_numbers_state on c.modes_written.ensures.rest refl (c.modes_written.ensures.others (on c.if-v-eq1-3.chip) third.sizes) in
    becomes (λ m. alerted m (register_written 0x09 v m)) (then first (then second (then third modes))) (control_alerted v (view old))

pub returns-clause-rest : goal.returns-clause-rest
returns-clause-rest c = search rules

pub returns-clause-turns : goal.returns-clause-turns
returns-clause-turns c sizes = own clocks_numbers_state_registers (returns-clause-rest c) refl (returns-clause-others c c.args.chip.now sizes)
