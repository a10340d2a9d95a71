-- `state_clauses::bits_formed` meets its contract. Assumes nothing.
use native.Mathlib.Omega.{arith}
use Rattle.state_clauses.proofs.ByteLaws.{bits_judged}
use Rattle.state_clauses.proofs.bits_formed.Goals as goal

pub returns : goal.returns
returns c = let a = c.args in bits_judged a.page a.control a.last (omega arith) (omega arith) (omega arith)
