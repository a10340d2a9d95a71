-- `command_read_e2::read_e2` meets its contract, by whether three bytes are held. Assumes nothing.
use borrow.Author.Rules.{rules}
use mathlib.Core.Path.{refl, ap, ◌∙◌}
use Rattle.machine.specs.State.{ReadE2}
use Rattle.machine.specs.Commands.{stepped_as}
use Rattle.state.specs.View.{view, view_of}
use Rattle.state.specs.Parts.{clocks_numbers_state_slots_eeprom, numbers_state_slots_eeprom}
use Rattle.state.specs.declared.Chip.{Chip}
use Rattle.state.proofs.RingLaws.{count_length}
use Rattle.state.proofs.TurnLaws.{stays, then, becomes, here, own}
use Rattle.command_arguments.proofs.ArgumentLaws.{too_few}
use Rattle.command_read_e2.specs.Reading.{lost_reading}
use Rattle.command_read_e2.proofs.ReadLaws.{step_read, step_loses}
use Rattle.command_read_e2.proofs.read_e2.Goals as goal

pub returns-then-held-lt3-clause-others : goal.returns-then-held-lt3-clause-others
unfolding view_of
returns-then-held-lt3-clause-others c chip sizes =
    let old = clocks_numbers_state_slots_eeprom c.args.chip.now chip in
    let count = count_length c.held.ensures old.slots in
    (becomes (stepped_as ReadE2) (stays old sizes) (too_few 3 (view old) _ _ count c.if-held-lt3.true), too_few 3 (view old) 0 _ count c.if-held-lt3.true)

pub returns-then-held-lt3-clause-turns : goal.returns-then-held-lt3-clause-turns
returns-then-held-lt3-clause-turns c sizes = returns-then-held-lt3-clause-others c c.args.chip.now sizes

pub returns-clause-others : goal.returns-clause-others
unfolding view_of
returns-clause-others c chip sizes =
    let on : Chip → Chip = λ d. clocks_numbers_state_slots_eeprom d chip in
    let old = on c.args.chip.now in
    let held = count_length c.held.ensures old.slots in
    let leave = here (ap on c.taken.ensures.rest) (c.taken.ensures.others old sizes) in
    let (turned, lost) = c.read_from-lost.ensures.others (on c.taken.new.chip) leave.sizes in
    let come = own numbers_state_slots_eeprom (ap on c.read_from-lost.ensures.rest) refl turned in
    let end = here (ap on c.ended.ensures.rest) (c.ended.ensures.others (on c.read_from-lost.new.chip) come.sizes) in (
      becomes (stepped_as ReadE2) (then (then leave come) end)
          (step_read (view old) held c.if-held-lt3.false _ _ c.address-from.ensures c.argument-count.ensures),
      lost ∙ ap (lost_reading c.address-from.result c.argument-count.result) leave.machine
          ∙ step_loses (view old) held c.if-held-lt3.false _ _ c.address-from.ensures c.argument-count.ensures,
    )

pub returns-clause-rest : goal.returns-clause-rest
returns-clause-rest c = search rules

pub returns-clause-turns : goal.returns-clause-turns
returns-clause-turns c sizes =
    let (turned, lost) = returns-clause-others c c.args.chip.now sizes in
    (own clocks_numbers_state_slots_eeprom (returns-clause-rest c) refl turned, lost)
