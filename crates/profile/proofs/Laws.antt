-- Laws of the search for the first refusal, for the loops over bits and registers alike.
-- Assumes nothing.
use mathlib.Core.Path.{◌≡◌, refl, ap, sym, ◌∙◌}
use Prim.Native.Nat.{ℕ, zero, suc, ◌+◌, ◌<◌, ◌≤◌}
use native.Mathlib.Nat.{not-suc-le-zero}
use mathlib.Core.Bool.{Bool, true, false, cond, true≢false}
use Rattle.std.specs.Prelude.{⊤, Result, Ok, Err, is_err}
use Rattle.profile.specs.Answer.{Answer, pass, is_pass, or_else, refusal_answer, answer_of}
use Rattle.profile.specs.Check.{first_refusal}
use Rattle.profile.specs.declared.Refusal.{Refusal}
use Rattle.profile.specs.declared.Refusal.TheVariants.{Length, FixedBit, PreScaler, Reload, WaterLevel}

-- Nothing is left to judge.
pub none_left : (judge : ℕ → Answer) (n from : ℕ) → n ≤ 0 → first_refusal judge n from ≡ pass
unfolding first_refusal
none_left judge zero from h = refl
none_left judge (suc n) from h = absurd (not-suc-le-zero h)

-- A number that passes is left behind.
pub passes : (judge : ℕ → Answer) {n left from next : ℕ} → n ≡ suc left → next ≡ from + 1 → judge from ≡ pass → first_refusal judge left next ≡ first_refusal judge n from
unfolding first_refusal
passes judge {n} {left} {from} {next} one_less one_more ok =
    ap (first_refusal judge left) one_more
    ∙ sym (ap (λ (a : Answer). or_else a (first_refusal judge left (from + 1))) ok)
    ∙ sym (ap (λ (m : ℕ). first_refusal judge m from) one_less)

-- A refusal ends the search.
pub stops : (judge : ℕ → Answer) (n from : ℕ) (a : Answer) → 0 < n → judge from ≡ a → is_pass a ≡ false → first_refusal judge n from ≡ a
unfolding first_refusal
stops judge zero from a h is refuses = absurd (not-suc-le-zero h)
stops judge (suc n) from a h is refuses =
    ap (λ (b : Answer). or_else b (first_refusal judge n (from + 1))) is
    ∙ ap (λ (t : Bool). cond t (first_refusal judge n (from + 1)) a) refuses

-- No refusal of the check is a pass.
pub refusal_fails : (x : Refusal) → is_pass (refusal_answer x) ≡ false
refusal_fails Length = refl
refusal_fails (FixedBit register bit) = refl
refusal_fails (PreScaler register) = refl
refusal_fails (Reload register) = refl
refusal_fails (WaterLevel register) = refl

-- A verdict that is no error passes, and one that is fails.
pub taken_passes : (r : Result ⊤ Refusal) → is_err r ≡ false → answer_of r ≡ pass
taken_passes (Ok done) e = refl
taken_passes (Err refusal) e = absurd (true≢false e)

pub taken_fails : (r : Result ⊤ Refusal) → is_err r ≡ true → is_pass (answer_of r) ≡ false
taken_fails (Ok done) e = absurd (true≢false (sym e))
taken_fails (Err refusal) e = refusal_fails refusal
