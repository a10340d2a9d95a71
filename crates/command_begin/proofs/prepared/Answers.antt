-- `command_begin::prepared` meets its contract, where the code has a key: the flag is cleared. Assumes nothing.
use Rattle.std.proofs.Common.{⊎_elim, refl, ap}
use Rattle.state.specs.Parts.{numbers_state_registers}
use Rattle.state.specs.declared.Chip.{Chip}
use Rattle.state.proofs.TurnLaws.{becomes, here}
use Rattle.command_begin.specs.Begins.{prepared}
use Rattle.command_begin.proofs.prepared.Goals as goal

pub returns-in-11-clause-others : goal.returns-in-11-clause-others
returns-in-11-clause-others c chip sizes =
    let on : Chip → Chip = λ d. numbers_state_registers d chip in
    let old = on c.args.chip.now in
    becomes (prepared c.args.code) (here (ap on c.cleared.ensures.rest) (c.cleared.ensures.others old sizes))
    (⊎_elim (λ e. rw e refl) (λ e. rw e refl) c.in-11.is)
