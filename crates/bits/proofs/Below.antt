-- A rule of all numbers below a bound, from one test that the checker computes.
-- Assumes nothing.
use mathlib.Core.Path.{◌≡◌, subst, sym}
use mathlib.Core.Bool.{Bool, true, false, ◌&&◌}
use mathlib.Core.Logic.{⊎_elim}
use Prim.Native.Nat.{ℕ, zero, suc, ◌<◌}
use native.Mathlib.Nat.{le_of_suc-le-suc, not-suc-le-zero, eq-or-lt_of_le}
use lib.Dec.{T, eqb, eqb→eq}

pub and_left : (a b : Bool) → T (a && b) → T a
and_left true b t = tt
and_left false b t = t

pub and_right : (a b : Bool) → T (a && b) → T b
and_right true b t = t
and_right false b t = absurd t

-- The test passes at each number below n.
abbrev pub all : (ℕ → Bool) → ℕ → Bool
all test zero = true
all test (suc n) = test n && all test n

pub each : (test : ℕ → Bool) (n : ℕ) → T (all test n) → (k : ℕ) → k < n → T (test k)
each test zero t k h = absurd (not-suc-le-zero h)
each test (suc n) t k h =
    ⊎_elim (λ e. subst (λ (m : ℕ). T (test m)) (sym e) (and_left (test n) (all test n) t)) (λ l. each test n (and_right (test n) (all test n) t) k l)
    (eq-or-lt_of_le (le_of_suc-le-suc h))

-- Two functions agree at each number below n.
pub agree : (f g : ℕ → ℕ) (n : ℕ) → T (all (λ k. eqb (f k) (g k)) n) → (k : ℕ) → k < n → f k ≡ g k
agree f g n t k h = eqb→eq (f k) (g k) (each (λ m. eqb (f m) (g m)) n t k h)
