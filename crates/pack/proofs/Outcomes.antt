-- Laws of what is tested in turn: what is done has passed every test.
-- Assumes nothing.
use mathlib.Core.Path.{◌≡◌, refl}
use mathlib.Core.Bool.{Bool, true, false}
use Prim.Native.Nat.{ℕ}
use native.Mathlib.Omega.{arith}
use Rattle.pack.specs.Outcome.{Outcome, done, refused, refuse_if}

-- What is done is not refused.
pub done_not_refused : {A : Type 0} {o : Outcome A} {a : A} {number : ℕ} → o ≡ done a → o ≡ refused number → ⊥
done_not_refused d r = let z : ◌≡◌ {A = ℕ} 0 1 = cc in omega arith

pub passed : {A : Type 0} (test : Bool) (number : ℕ) (else : Outcome A) {a : A} → refuse_if test number else ≡ done a → (test ≡ false) × (else ≡ done a)
passed true number else e = absurd (done_not_refused e refl)
passed false number else e = (refl, e)
