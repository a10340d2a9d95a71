-- How many profiles bytes of a length have.
-- Assumes nothing.
use mathlib.Core.Path.{◌≡◌, refl, ap, ◌∙◌}
use mathlib.Core.Bool.{Bool, true, false, cond, ◌&&◌}
use mathlib.Core.List.{List}
use Prim.Native.Nat.{ℕ, ◌+◌, ◌-◌, ◌*◌, ◌/◌, ◌<◌, ◌≤◌}
use native.Mathlib.Omega.{arith}
use lib.Dec.{eqb, leb}
use lib.ListN.{length}
use borrow.Author.Tests.{leb-true, eqb-true, le-leb, eq-eqb}
use Rattle.pack.specs.Read.{count_in}

-- The length is that of a pack of `number` profiles, or none are counted.
abbrev pub by_length : List ℕ → ℕ → ℕ
by_length bytes number = cond (leb number 256 && eqb (length bytes) (52 * number + 12)) number 0

counted : (bytes : List ℕ) (number : ℕ) → (by_length bytes number ≤ 256) × ((i : ℕ) → i < by_length bytes number → length bytes ≡ 52 * by_length bytes number + 12)
counted bytes number = go (leb number 256) refl (eqb (length bytes) (52 * number + 12)) refl
  where
    go : (t : Bool) → leb number 256 ≡ t → (u : Bool) → eqb (length bytes) (52 * number + 12) ≡ u →
        (cond (t && u) number 0 ≤ 256) × ((i : ℕ) → i < cond (t && u) number 0 → length bytes ≡ 52 * cond (t && u) number 0 + 12)
    go true et true eu = (leb-true number 256 et, λ i h. eqb-true (length bytes) (52 * number + 12) eu)
    go true et false eu = (omega arith, λ i h. absurd (omega arith))
    go false et u eu = (omega arith, λ i h. absurd (omega arith))

pub count_small : (bytes : List ℕ) → count_in bytes ≤ 256
unfolding count_in
count_small bytes = (counted bytes ((length bytes - 12) / 52)).0

-- Where there is a profile, the length is that of a pack.
pub count_size : (bytes : List ℕ) (i : ℕ) → i < count_in bytes → length bytes ≡ 52 * count_in bytes + 12
unfolding count_in
count_size bytes = (counted bytes ((length bytes - 12) / 52)).1

-- Bytes as long as a pack of n profiles have n.
pub count_of : (bytes : List ℕ) (n : ℕ) → n ≤ 256 → length bytes ≡ 52 * n + 12 → count_in bytes ≡ n
unfolding count_in
count_of bytes n few size =
    let e : (length bytes - 12) / 52 ≡ n = omega arith in
    ap (by_length bytes) e ∙ simp (le-leb n 256 few, eq-eqb (length bytes) (52 * n + 12) size)

-- Fewer than twelve bytes have none.
pub count_short : (bytes : List ℕ) → length bytes < 12 → count_in bytes ≡ 0
unfolding count_in
count_short bytes short =
    let e : (length bytes - 12) / 52 ≡ 0 = omega arith in
    ap (by_length bytes) e ∙ none (eqb (length bytes) 12)
  where
    none : (t : Bool) → ◌≡◌ {A = ℕ} (cond t 0 0) 0
    none true = refl
    none false = refl
