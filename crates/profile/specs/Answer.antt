-- What a check answers: a pass, or a refusal's number, with the register's address for 10 to 13 and the bit for 10. Manual 10.1
-- and 11.3.
-- Assumes nothing.
use Rattle.std.specs.Prelude.{ℕ, Bool, true, false, cond}
use Rattle.std.specs.declared.result.Result.{Result}
use Rattle.std.specs.declared.result.Result.TheVariants.{Ok, Err}
use Rattle.profile.specs.declared.Refusal.{Refusal}
use Rattle.profile.specs.declared.Refusal.TheVariants.{Length, FixedBit, PreScaler, Reload, WaterLevel}

pub data Answer : Type 0 where
  pass : Answer
  -- the number
  refuse : ℕ → Answer
  -- the number and the register address
  refuse_at : ℕ → ℕ → Answer
  -- the number, the register address and the bit
  refuse_bit : ℕ → ℕ → ℕ → Answer

abbrev pub is_pass : Answer → Bool
is_pass pass = true
is_pass (refuse n) = false
is_pass (refuse_at n register) = false
is_pass (refuse_bit n register bit) = false

-- The first of two answers that is a refusal; pass where neither is.
abbrev pub or_else : Answer → Answer → Answer
or_else a b = cond (is_pass a) b a

-- The number and values of the manual for each case of the program's enums.
abbrev pub refusal_answer : Refusal → Answer
refusal_answer Length = refuse 9
refusal_answer (FixedBit register bit) = refuse_bit 10 register bit
refusal_answer (PreScaler register) = refuse_at 11 register
refusal_answer (Reload register) = refuse_at 12 register
refusal_answer (WaterLevel register) = refuse_at 13 register

abbrev pub answer_of : Result Unit Refusal → Answer
answer_of (Ok done) = pass
answer_of (Err refusal) = refusal_answer refusal
