-- The errors of a write, by the numbers of its refusals.
-- Assumes nothing.
use Rattle.std.specs.Prelude.{ℕ, cond, eqb}
use Rattle.pack_write.specs.declared.WriteError.{WriteError}
use Rattle.pack_write.specs.declared.WriteError.TheVariants.{NotPaired, TooMany, NotAscending, TooShort}

-- 16, 17, 18, and each other, which is 19.
abbrev pub error_of : ℕ → WriteError
error_of number = cond (eqb number 16) NotPaired (cond (eqb number 17) TooMany (cond (eqb number 18) NotAscending TooShort))

-- The number of each.
abbrev pub number_of : WriteError → ℕ
number_of NotPaired = 16
number_of TooMany = 17
number_of NotAscending = 18
number_of TooShort = 19
