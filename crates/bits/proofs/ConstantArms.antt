-- A `match` on a number x whose arms are constants: one for each of 0, 1, 2, .. in order, and a last one, `_`. Where each is f of its number, the
-- `match` gives f x. What the prover asks of such a `match` computes to `Asked`, and a function's proof gives `answered` for it: the checker, as it
-- compares the two types, computes f at every number and holds the arms' constants to it. `crc::table::entry` is proved so.
-- Assumes nothing.
use mathlib.Core.Path.{◌≡◌, subst}
use Prim.Native.Nat.{ℕ, zero, suc, ◌+◌, ◌<◌, ◌≤◌}
use native.Mathlib.Omega.{arith}

-- What is asked of the n arms for k, k + 1, .. and of the last arm, P being what an answer owes: each arm owes P of its constant where x is its
-- number, and the last arm where x is none of these and none before k, which N says.
abbrev pub Asked : (ℕ → Type 0) → (ℕ → ℕ) → ℕ → ℕ → ℕ → Type 0 → Type 0
Asked P f x k zero N = N → P (f k)
Asked P f x k (suc n) N = (x ≡ k → P (f k)) × Asked P f x (suc k) n (N × (x ≡ k → ⊥))

-- It is enough that P holds of f x, and that the arms reach up to x.
pub answered : (P : ℕ → Type 0) (f : ℕ → ℕ) (x : ℕ) → P (f x) → (n k : ℕ) (N : Type 0) → (N → k ≤ x) → x < k + suc n → Asked P f x k n N
answered P f x p zero k N least below = λ none.
    let from = least none in
    let last : x ≡ k = omega arith in
    subst (λ (i : ℕ). P (f i)) last p
answered P f x p (suc n) k N least below = (
  λ e. subst (λ (i : ℕ). P (f i)) e p,
  answered P f x p n (suc k) (N × (x ≡ k → ⊥)) (λ none. let from = least none.0 in omega (arith, none.1)) (omega arith),
)
