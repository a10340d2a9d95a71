-- `register_mapping::mapped` meets its contract, by UsePageSelect. Assumes nothing.
use borrow.Author.Tests.{eq-eqb, ne_eqb}
use Rattle.register_mapping.proofs.mapped.Goals as goal

pub returns-then-page-eq1 : goal.returns-then-page-eq1
returns-then-page-eq1 c = simp (eq-eqb _ _ c.if-page-eq1.true)

pub returns-else-page-eq1 : goal.returns-else-page-eq1
returns-else-page-eq1 c = simp (ne_eqb _ _ c.if-page-eq1.false)
