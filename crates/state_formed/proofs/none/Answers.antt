-- `state_formed::none` meets its contract. Assumes nothing.
use mathlib.Core.Path.{ap, ◌∙◌}
use mathlib.Core.Bool.{Bool, ◌&&◌}
use native.Mathlib.Omega.{arith}
use lib.Bits.{bit_or, or_add_and}
use lib.Dec.{eqb}
use Rattle.state_clauses.proofs.ByteLaws.{or_none}
use Rattle.state_formed.proofs.none.Goals as goal

pub overflow_cast-result : goal.overflow_cast-result
overflow_cast-result c = let a = c.args in record { fits = omega (arith, or_add_and a.left a.modes) }

pub returns : goal.returns
returns c = let a = c.args in or_none a.word (bit_or a.left a.modes) ∙ ap (λ (t : Bool). eqb a.word 0 && t) (or_none a.left a.modes)
