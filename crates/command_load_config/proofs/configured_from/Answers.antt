-- `command_load_config::configured_from` meets its contract, by the address. Assumes nothing.
use native.Mathlib.Omega.{arith}
use mathlib.Core.Path.{refl, ap}
use lib.Dec.{leb}
use borrow.Author.Tests.{leb-true}
use Rattle.machine.specs.Commands.{configured_from}
use Rattle.machine.proofs.WellFormed.Parts.{each}
use Rattle.state.specs.View.{view, view_of}
use Rattle.state.specs.Parts.{state_registers_eeprom}
use Rattle.state.specs.declared.Chip.{Chip}
use Rattle.state.proofs.TurnLaws.{becomes, here, own}
use Rattle.command_load_config.proofs.ConfigLaws.{registers_loaded, config_loads, config_refuses}
use Rattle.command_load_config.proofs.configured_from.Goals as goal

pub returns-then-address-clause-others : goal.returns-then-address-clause-others
unfolding view_of
returns-then-address-clause-others c chip sizes =
    let a = c.args in
    let on : Chip → Chip = λ d. state_registers_eeprom d chip in
    let old = on a.chip.now in
    let inside = leb-true a.address 0x60 (each (leb 0x10 a.address) (leb a.address 0x60) c.if-address.true).1 in
    becomes (configured_from a.address) (registers_loaded old a.address (omega arith) (ap on c.load_registers.ensures) sizes) (config_loads a.address (view old) c.if-address.true)

pub returns-then-address-clause-turns : goal.returns-then-address-clause-turns
returns-then-address-clause-turns c sizes = own state_registers_eeprom c.load_registers.ensures refl (returns-then-address-clause-others c c.args.chip.now sizes)

pub returns-clause-others : goal.returns-clause-others
unfolding view_of
returns-clause-others c chip sizes =
    let a = c.args in
    let on : Chip → Chip = λ d. state_registers_eeprom d chip in
    let old = on a.chip.now in
    becomes (configured_from a.address) (here (ap on c.failed.ensures.rest) (c.failed.ensures.others old sizes)) (config_refuses a.address (view old) c.if-address.false)

pub returns-clause-turns : goal.returns-clause-turns
returns-clause-turns c sizes = own state_registers_eeprom c.failed.ensures.rest refl (returns-clause-others c c.args.chip.now sizes)
