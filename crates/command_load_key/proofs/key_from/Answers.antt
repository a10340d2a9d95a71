-- `command_load_key::key_from` meets its contract, by the address. Assumes nothing.
use mathlib.Core.Path.{ap}
use Rattle.machine.specs.Commands.{key_from}
use Rattle.state.specs.View.{view, view_of}
use Rattle.state.specs.Parts.{state_key_eeprom}
use Rattle.state.specs.declared.Chip.{Chip}
use Rattle.state.proofs.TurnLaws.{becomes, here}
use Rattle.command_load_key.proofs.KeyLaws.{key_above, key_read}
use Rattle.command_load_key.proofs.key_from.Goals as goal

pub returns-then-address-gt500-clause-turns : goal.returns-then-address-gt500-clause-turns
returns-then-address-gt500-clause-turns c sizes =
    let a = c.args in
    becomes (key_from a.address) (c.key_emptied.ensures.turns sizes) (key_above a.address (view a.chip.now) c.if-address-gt500.true)

pub returns-then-address-gt500-clause-others : goal.returns-then-address-gt500-clause-others
returns-then-address-gt500-clause-others c chip sizes =
    let a = c.args in
    let on : Chip → Chip = λ d. state_key_eeprom d chip in
    let lent = on a.chip.now in
    becomes (key_from a.address) (here (ap on c.key_emptied.ensures.rest) (c.key_emptied.ensures.others lent sizes))
    (key_above a.address (view lent) c.if-address-gt500.true)

pub returns-clause-turns : goal.returns-clause-turns
unfolding view_of
returns-clause-turns c sizes =
    let a = c.args in
    becomes (key_from a.address) (c.key_judged.ensures.turns sizes)
    (key_read a.address (view a.chip.now) (c.stored_key-bytes.ensures sizes.eeprom_count) c.if-address-gt500.false)

pub returns-clause-others : goal.returns-clause-others
unfolding view_of
returns-clause-others c chip sizes =
    let a = c.args in
    let on : Chip → Chip = λ d. state_key_eeprom d chip in
    let lent = on a.chip.now in
    becomes (key_from a.address) (here (ap on c.key_judged.ensures.rest) (c.key_judged.ensures.others lent sizes))
    (key_read a.address (view lent) (c.stored_key-bytes.ensures sizes.eeprom_count) c.if-address-gt500.false)
