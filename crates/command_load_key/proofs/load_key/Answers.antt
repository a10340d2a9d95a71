-- `command_load_key::load_key` meets its contract, by whether twelve bytes are held. Assumes nothing.
use mathlib.Core.Path.{ap}
use Rattle.machine.specs.State.{LoadKey}
use Rattle.machine.specs.Commands.{stepped_as}
use Rattle.state.specs.View.{view, view_of}
use Rattle.state.specs.Parts.{clocks_state_slots_key}
use Rattle.state.specs.declared.Chip.{Chip}
use Rattle.state.proofs.RingLaws.{count_length}
use Rattle.state.proofs.TurnLaws.{stays, then, becomes, here}
use Rattle.command_arguments.proofs.ArgumentLaws.{too_few}
use Rattle.command_load_key.proofs.KeyLaws.{step_copied}
use Rattle.command_load_key.proofs.load_key.Goals as goal

pub returns-then-held-lt12-clause-turns : goal.returns-then-held-lt12-clause-turns
unfolding view_of
returns-then-held-lt12-clause-turns c sizes =
    let old = c.args.chip.now in
    becomes (stepped_as LoadKey) (stays old sizes) (too_few 12 (view old) _ _ (count_length c.held.ensures old.slots) c.if-held-lt12.true)

pub returns-then-held-lt12-clause-others : goal.returns-then-held-lt12-clause-others
unfolding view_of
returns-then-held-lt12-clause-others c chip sizes =
    let lent = clocks_state_slots_key c.args.chip.now chip in
    becomes (stepped_as LoadKey) (stays lent sizes) (too_few 12 (view lent) _ _ (count_length c.held.ensures lent.slots) c.if-held-lt12.true)

pub returns-clause-turns : goal.returns-clause-turns
returns-clause-turns c sizes =
    let old = c.args.chip.now in
    let leave = c.taken.ensures.turns sizes in
    let come = c.key_judged.ensures.turns leave.sizes in
    becomes (stepped_as LoadKey) (then (then leave come) (c.ended.ensures.turns come.sizes))
    (step_copied old c.held.ensures c.if-held-lt12.false c.held_key-bytes.ensures)

pub returns-clause-others : goal.returns-clause-others
returns-clause-others c chip sizes =
    let on : Chip → Chip = λ d. clocks_state_slots_key d chip in
    let lent = on c.args.chip.now in
    let leave = here (ap on c.taken.ensures.rest) (c.taken.ensures.others lent sizes) in
    let come = here (ap on c.key_judged.ensures.rest) (c.key_judged.ensures.others (on c.taken.new.chip) leave.sizes) in
    let end = here (ap on c.ended.ensures.rest) (c.ended.ensures.others (on c.key_judged.new.chip) come.sizes) in
    becomes (stepped_as LoadKey) (then (then leave come) end)
    (step_copied lent c.held.ensures c.if-held-lt12.false c.held_key-bytes.ensures)
