-- `command_begin::command_written` meets its contract, by whether programming runs. Assumes nothing.
use Rattle.std.proofs.Common.{refl, sym, ap, ◌∙◌, rules}
use Rattle.machine.specs.Commands.{command_written}
use Rattle.state.specs.View.{view}
use Rattle.state.specs.Parts.{clocks_numbers_state_registers}
use Rattle.state.specs.declared.Chip.{Chip}
use Rattle.state.proofs.StageLaws.{programs_any}
use Rattle.state.proofs.TurnLaws.{stays, then, becomes, here, onto, own}
use Rattle.command_begin.proofs.BeginLaws.{write_ignored, write_starts}
use Rattle.command_begin.proofs.command_written.Goals as goal

pub returns-then-programs-clause-others : goal.returns-then-programs-clause-others
returns-then-programs-clause-others c chip sizes =
    let old = clocks_numbers_state_registers c.args.chip.now chip in
    becomes (command_written c.args.v) (stays old sizes)
    (write_ignored c.args.v (view old) (sym (c.programs.ensures ∙ programs_any c.args.chip.now old) ∙ c.if-programs.true))

pub returns-then-programs-clause-turns : goal.returns-then-programs-clause-turns
returns-then-programs-clause-turns c sizes = returns-then-programs-clause-others c c.args.chip.now sizes

pub returns-clause-others : goal.returns-clause-others
returns-clause-others c chip sizes =
    let on : Chip → Chip = λ d. clocks_numbers_state_registers d chip in
    let old = on c.args.chip.now in
    let first = here (ap on c.cleared.ensures.rest) (c.cleared.ensures.others old sizes) in
    becomes (command_written c.args.v) (then first (onto clocks_numbers_state_registers on c.begun.ensures.rest refl (c.begun.ensures.others (on c.cleared.new.self) first.sizes)))
    (write_starts c.args.v (view old) (sym (c.programs.ensures ∙ programs_any c.args.chip.now old) ∙ c.if-programs.false))

pub returns-clause-rest : goal.returns-clause-rest
returns-clause-rest c = search rules

pub returns-clause-turns : goal.returns-clause-turns
returns-clause-turns c sizes = own clocks_numbers_state_registers (returns-clause-rest c) refl (returns-clause-others c c.args.chip.now sizes)
