-- `command_load_key::key_judged` meets its contract where the bytes are in the stored form. Assumes nothing.
use borrow.Author.Rules.{rules}
use mathlib.Core.Path.{refl, sym}
use Rattle.machine.specs.Commands.{key_judged}
use Rattle.state.specs.View.{view}
use Rattle.state.specs.Parts.{state_key}
use Rattle.state.proofs.TurnLaws.{becomes}
use Rattle.command_load_key.proofs.KeyLaws.{key_stored, judged_loaded}
use Rattle.command_load_key.proofs.key_judged.Goals as goal

pub returns-in-Some-clause-others : goal.returns-in-Some-clause-others
returns-in-Some-clause-others c chip sizes =
    let old = state_key c.args.chip.now chip in
    let bytes = c.args.bytes in
    let some = c.in-Some in
    becomes (key_judged bytes) (key_stored old some.made 1 refl (search rules) sizes) (judged_loaded (view old) bytes some.made (sym some.ensures.loaded) some.ensures.bytes)

pub returns-in-Some-clause-turns : goal.returns-in-Some-clause-turns
returns-in-Some-clause-turns c sizes = returns-in-Some-clause-others c c.args.chip.now sizes
