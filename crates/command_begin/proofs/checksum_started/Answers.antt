-- `command_begin::checksum_started` meets its contract, by whether the mode is another. Assumes nothing.
use Prim.Native.Nat.{ℕ, ◌-◌}
use mathlib.Core.Path.{refl, ap, ◌∙◌}
use lib.Dec.{lit<}
use lib.ListN.{set}
use Rattle.machine.specs.Commands.{checksum_started}
use Rattle.state.specs.View.{at, view, view_of, with_numbers}
use Rattle.state.specs.Parts.{numbers_state_registers}
use Rattle.state.proofs.StoreLaws.{set_byte}
use Rattle.state.proofs.TurnLaws.{then, becomes}
use Rattle.command_begin.proofs.BeginLaws.{with_register, with_mode, register_stored}
use Rattle.command_begin.proofs.checksum_started.Goals as goal

pub returns-then-chip-mode-clause-others : goal.returns-then-chip-mode-clause-others
unfolding view_of
returns-then-chip-mode-clause-others c chip sizes =
    let old = numbers_state_registers c.args.chip.now chip in
    let x = c.preset.result in
    let stores = register_stored x old sizes in
    let mode = at old.registers (0x22 - 0x10) in
    becomes checksum_started
    (then stores (set_byte (with_mode mode) old.state 5 mode (with_numbers (set old.numbers 0 x) old) (lit< tt) refl stores.sizes refl (λ bytes. refl)))
    (ap (λ (n : ℕ). with_mode mode (with_register n (view old))) c.preset.ensures)

pub returns-then-chip-mode-clause-turns : goal.returns-then-chip-mode-clause-turns
returns-then-chip-mode-clause-turns c sizes = returns-then-chip-mode-clause-others c c.args.chip.now sizes

pub returns-else-chip-mode-clause-others : goal.returns-else-chip-mode-clause-others
unfolding view_of
returns-else-chip-mode-clause-others c chip sizes =
    let old = numbers_state_registers c.args.chip.now chip in
    let x = c.preset.result in
    let mode = at old.registers (0x22 - 0x10) in
    becomes checksum_started (register_stored x old sizes)
    (ap (λ (n : ℕ). with_mode n (with_register x (view old))) c.if-chip-mode.false ∙ ap (λ (n : ℕ). with_mode mode (with_register n (view old))) c.preset.ensures)

pub returns-else-chip-mode-clause-turns : goal.returns-else-chip-mode-clause-turns
returns-else-chip-mode-clause-turns c sizes = returns-else-chip-mode-clause-others c c.args.chip.now sizes
