-- `state_formed::well_formed` meets its contract: what the two quick tests pass is well formed. Assumes nothing.
use mathlib.Core.Path.{sym, ◌∙◌}
use mathlib.Core.Bool.{false≢true}
use Rattle.state_formed.proofs.ClauseLaws.{usual_formed}
use Rattle.state_formed.proofs.well_formed.Goals as goal
use Rattle.state_formed.proofs.well_formed.Goals.{then-quick, else-quick}

pub returns-then-of_own_edition : goal.returns-then-of_own_edition
returns-then-of_own_edition c sizes =
    let passed = c.if-of_own_edition.true in
    elim c.if-quick.branch [
      | then-quick w ↦
          passed ∙ sym (usual_formed c.args.chip.now sizes (sym c.quick.ensures ∙ w.if-quick.true) (sym w.of_own_edition.ensures ∙ sym w.value-is ∙ passed))
      | else-quick w ↦ absurd (false≢true (sym w.if-quick.false ∙ sym w.value-is ∙ passed))
    ]
