-- `command_load_config::load_config` meets its contract, by whether two bytes are held. Assumes nothing.
use mathlib.Core.Path.{refl, ap}
use Rattle.machine.specs.State.{LoadConfig}
use Rattle.machine.specs.Commands.{stepped_as}
use Rattle.state.specs.View.{view, view_of}
use Rattle.state.specs.Parts.{clocks_state_registers_slots_eeprom, state_registers_eeprom}
use Rattle.state.specs.declared.Chip.{Chip}
use Rattle.state.proofs.RingLaws.{count_length}
use Rattle.state.proofs.TurnLaws.{stays, then, becomes, here, own}
use Rattle.command_arguments.proofs.ArgumentLaws.{too_few}
use Rattle.command_load_config.proofs.ConfigLaws.{step_loads}
use Rattle.command_load_config.proofs.load_config.Goals as goal

pub returns-then-held-lt2-clause-turns : goal.returns-then-held-lt2-clause-turns
unfolding view_of
returns-then-held-lt2-clause-turns c sizes =
    let old = c.args.chip.now in
    becomes (stepped_as LoadConfig) (stays old sizes) (too_few 2 (view old) _ _ (count_length c.held.ensures old.slots) c.if-held-lt2.true)

pub returns-then-held-lt2-clause-others : goal.returns-then-held-lt2-clause-others
unfolding view_of
returns-then-held-lt2-clause-others c chip sizes =
    let lent = clocks_state_registers_slots_eeprom c.args.chip.now chip in
    becomes (stepped_as LoadConfig) (stays lent sizes) (too_few 2 (view lent) _ _ (count_length c.held.ensures lent.slots) c.if-held-lt2.true)

pub returns-clause-turns : goal.returns-clause-turns
unfolding view_of
returns-clause-turns c sizes =
    let old = c.args.chip.now in
    let leave = c.taken.ensures.turns sizes in
    let load = c.configured_from.ensures.turns leave.sizes in
    becomes (stepped_as LoadConfig) (then (then leave load) (c.ended.ensures.turns load.sizes))
    (step_loads (view old) (count_length c.held.ensures old.slots) c.if-held-lt2.false _ c.address-from.ensures)

pub returns-clause-others : goal.returns-clause-others
unfolding view_of
returns-clause-others c chip sizes =
    let on : Chip → Chip = λ d. clocks_state_registers_slots_eeprom d chip in
    let lent = on c.args.chip.now in
    let leave = here (ap on c.taken.ensures.rest) (c.taken.ensures.others lent sizes) in
    let load = own state_registers_eeprom (ap on c.configured_from.ensures.rest) refl (c.configured_from.ensures.others (on c.taken.new.chip) leave.sizes) in
    let end = here (ap on c.ended.ensures.rest) (c.ended.ensures.others (on c.configured_from.new.chip) load.sizes) in
    becomes (stepped_as LoadConfig) (then (then leave load) end)
    (step_loads (view lent) (count_length c.held.ensures lent.slots) c.if-held-lt2.false _ c.address-from.ensures)
