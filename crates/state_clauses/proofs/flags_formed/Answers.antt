-- `state_clauses::flags_formed` meets its contract. Assumes nothing.
use native.Mathlib.Omega.{arith}
use Rattle.state_clauses.proofs.ByteLaws.{flags_judged}
use Rattle.state_clauses.proofs.flags_formed.Goals as goal

pub returns : goal.returns
returns c = let a = c.args in flags_judged a.loaded a.enables a.requests a.errors (omega arith) (omega arith) (omega arith) (omega arith)
