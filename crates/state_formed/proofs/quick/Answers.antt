-- `state_formed::quick` meets its contract: the numbers that it passes on. Assumes nothing.
use mathlib.Core.Path.{ap, ◌∙◌}
use mathlib.Core.Bool.{Bool}
use Rattle.state.specs.View.{core}
use Rattle.state.proofs.PowerLaws.{word_none}
use Rattle.state_formed.specs.Judged.{usual_with}
use Rattle.state_formed.proofs.quick.Goals as goal

pub returns : goal.returns
returns c =
    let k = core c.args.chip.now in
    c.passes.ensures ∙ ap (λ (t : Bool). usual_with k.next t k) (word_none _ k.stand_by k.power_down c.modes_word-modes.ensures)
