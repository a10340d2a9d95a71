-- What a function of packs answers: what it is for, or the number of a refusal; and as one number.
-- Assumes nothing.
use Rattle.std.specs.Prelude.{ℕ, ◌*◌, Bool, cond}
use Rattle.std.specs.declared.result.Result.{Result}
use Rattle.std.specs.declared.result.Result.TheVariants.{Ok, Err}

pub data Outcome (A : Type 0) : Type 0 where
  done : A → Outcome A
  refused : ℕ → Outcome A

-- Tests in turn: refused with the number where the test holds, else what follows.
abbrev pub refuse_if : {A : Type 0} → Bool → ℕ → Outcome A → Outcome A
refuse_if test number else = cond test (refused number) else

-- As one number: bits 7-0 the refusal, 0 for none; the bits above them the value.
abbrev pub numbered : {A : Type 0} → (A → ℕ) → Outcome A → ℕ
numbered value (done a) = 0x100 * value a
numbered value (refused number) = number

-- As what a function hands back: the value, or the error that stands for the number of the refusal.
abbrev pub answered : {A B E : Type 0} → (A → B) → (ℕ → E) → Outcome A → Result B E
answered value error (done a) = Ok (value a)
answered value error (refused number) = Err (error number)
