-- `command_load_key::key_emptied` meets its contract: no key is stored, and then KeyErr is set. Assumes nothing.
use mathlib.Core.Path.{refl, ap}
use Rattle.key.specs.Key.{empty_key}
use Rattle.state.specs.Parts.{state_key}
use Rattle.state.specs.declared.Chip.{Chip}
use Rattle.state.specs.View.{with_key}
use Rattle.state.proofs.TurnLaws.{then, here, own}
use Rattle.command_load_key.proofs.KeyLaws.{key_stored}
use Rattle.command_load_key.proofs.key_emptied.Goals as goal

pub returns-clause-others : goal.returns-clause-others
returns-clause-others c chip sizes =
    let on : Chip → Chip = λ d. state_key d chip in
    let old = on c.args.chip.now in
    let empties = key_stored old empty_key 0 refl refl sizes in
    then empties (here (ap on c.failed.ensures.rest) (c.failed.ensures.others (with_key empty_key old) empties.sizes))

pub returns-clause-turns : goal.returns-clause-turns
returns-clause-turns c sizes = own state_key c.failed.ensures.rest refl (returns-clause-others c c.args.chip.now sizes)
