-- `command_load_key::load_key_e2` meets its contract, by whether two bytes are held. Assumes nothing.
use borrow.Author.Rules.{rules}
use mathlib.Core.Path.{refl, ap}
use Rattle.machine.specs.State.{LoadKeyE2}
use Rattle.machine.specs.Commands.{stepped_as}
use Rattle.state.specs.View.{view, view_of}
use Rattle.state.specs.Parts.{clocks_state_slots_key_eeprom, state_key_eeprom}
use Rattle.state.specs.declared.Chip.{Chip}
use Rattle.state.proofs.RingLaws.{count_length}
use Rattle.state.proofs.TurnLaws.{stays, then, becomes, here, own}
use Rattle.command_arguments.proofs.ArgumentLaws.{too_few}
use Rattle.command_load_key.proofs.KeyLaws.{step_from}
use Rattle.command_load_key.proofs.load_key_e2.Goals as goal

pub returns-then-held-lt2-clause-others : goal.returns-then-held-lt2-clause-others
unfolding view_of
returns-then-held-lt2-clause-others c chip sizes =
    let old = clocks_state_slots_key_eeprom c.args.chip.now chip in
    becomes (stepped_as LoadKeyE2) (stays old sizes) (too_few 2 (view old) _ _ (count_length c.held.ensures old.slots) c.if-held-lt2.true)

pub returns-then-held-lt2-clause-turns : goal.returns-then-held-lt2-clause-turns
returns-then-held-lt2-clause-turns c sizes = returns-then-held-lt2-clause-others c c.args.chip.now sizes

pub returns-clause-others : goal.returns-clause-others
unfolding view_of
returns-clause-others c chip sizes =
    let on : Chip → Chip = λ d. clocks_state_slots_key_eeprom d chip in
    let old = on c.args.chip.now in
    let leave = here (ap on c.taken.ensures.rest) (c.taken.ensures.others old sizes) in
    let come = own state_key_eeprom (ap on c.key_from.ensures.rest) refl (c.key_from.ensures.others (on c.taken.new.chip) leave.sizes) in
    let end = here (ap on c.ended.ensures.rest) (c.ended.ensures.others (on c.key_from.new.chip) come.sizes) in
    becomes (stepped_as LoadKeyE2) (then (then leave come) end) (step_from (view old) (count_length c.held.ensures old.slots) c.if-held-lt2.false _ c.address-from.ensures)

pub returns-clause-rest : goal.returns-clause-rest
returns-clause-rest c = search rules

pub returns-clause-turns : goal.returns-clause-turns
returns-clause-turns c sizes = own clocks_state_slots_key_eeprom (returns-clause-rest c) refl (returns-clause-others c c.args.chip.now sizes)
