-- The errors of a find, by the numbers of its refusals.
-- Assumes nothing.
use Rattle.std.specs.Prelude.{ℕ, cond, eqb}
use Rattle.pack_find.specs.declared.FindError.{FindError}
use Rattle.pack_find.specs.declared.FindError.TheVariants.{NotAPack, NotFound}

-- 14 is that the bytes are no pack; each other, which is 15, that no profile has the name.
abbrev pub error_of : ℕ → FindError
error_of number = cond (eqb number 14) NotAPack NotFound

-- The number of each.
abbrev pub number_of : FindError → ℕ
number_of NotAPack = 14
number_of NotFound = 15
