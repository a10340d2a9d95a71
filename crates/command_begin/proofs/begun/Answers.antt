-- `command_begin::begun` meets its contract: what a code's command does first, and the stage that follows; an unknown code ends. Assumes nothing.
use Rattle.std.proofs.Common.{refl, ap}
use Rattle.machine.specs.Commands.{command_started}
use Rattle.state.specs.View.{view}
use Rattle.state.specs.Parts.{numbers_state_registers, clocks_numbers_state_registers}
use Rattle.state.specs.declared.Chip.{Chip}
use Rattle.state.proofs.TurnLaws.{then, becomes, here, onto}
use Rattle.command_begin.proofs.begun.Goals as goal

pub returns-in-Some-clause-turns : goal.returns-in-Some-clause-turns
returns-in-Some-clause-turns c sizes =
    let first = c.prepared.ensures.turns sizes in
    becomes (command_started c.args.code) (then first (c.switched.ensures.turns c.in-Some.ensures.begins_lem first.sizes)) (c.in-Some.ensures.starts (view c.args.chip.now))

pub returns-in-Some-clause-others : goal.returns-in-Some-clause-others
returns-in-Some-clause-others c chip sizes =
    let on : Chip → Chip = λ d. clocks_numbers_state_registers d chip in
    let old = on c.args.chip.now in
    let first = onto numbers_state_registers on c.prepared.ensures.rest refl (c.prepared.ensures.others old sizes) in
    let second = here (ap on c.switched.ensures.rest) (c.switched.ensures.others c.in-Some.ensures.begins_lem (on c.prepared.new.chip) first.sizes) in
    becomes (command_started c.args.code) (then first second) (c.in-Some.ensures.starts (view old))

pub returns-in-None-clause-others : goal.returns-in-None-clause-others
returns-in-None-clause-others c chip sizes =
    let on : Chip → Chip = λ d. clocks_numbers_state_registers d chip in
    let old = on c.args.chip.now in
    becomes (command_started c.args.code) (here (ap on c.ended.ensures.rest) (c.ended.ensures.others old sizes)) (c.in-None.ensures (view old))
