-- Laws of the first held bytes: how many there are, and where they stand once they are copied.
-- Assumes nothing.
use Rattle.std.proofs.Common.{◌≡◌, ℕ, zero, suc, ◌+◌, ◌%◌, ◌<◌, ◌≤◌, min, List, [], ◌∷◌, ◌++◌, length, get_or, take, drop, set, sym, ap, ◌∙◌, arith}
use native.Mathlib.Nat.{zero-min, min-zero, suc-min-suc}
use native.Mathlib.Numerals.{add-one}
use lib.ListN.{length-append, length-drop}
use lib.Seq.{take-suc-set, take-append_seam}
use Rattle.state.specs.View.{held_from}
use Rattle.state.proofs.RingLaws.{held_length, held_last}

-- The first k of n bytes, or all of them, and those behind.
pub held_first : (slots : List ℕ) (p n k : ℕ) → take k (held_from slots p n) ≡ held_from slots p (min n k)
unfolding held_from
held_first slots p n zero = ap (held_from slots p) (sym (min-zero n))
held_first slots p zero (suc k) = ap (held_from slots p) (sym (zero-min (suc k)))
held_first slots p (suc n) (suc k) = ap (λ (l : List ℕ). get_or slots (p % 64) 0 ∷ l) (held_first slots (p + 1) n k) ∙ ap (held_from slots p) (sym (suc-min-suc n k))

pub held_behind : (slots : List ℕ) (p n k : ℕ) → drop k (held_from slots p n) ≡ drop (min n k) (held_from slots p n)
unfolding held_from
held_behind slots p n zero = ap (λ (j : ℕ). drop j (held_from slots p n)) (sym (min-zero n))
held_behind slots p zero (suc k) = ap (λ (j : ℕ). drop j []) (sym (zero-min (suc k)))
held_behind slots p (suc n) (suc k) = held_behind slots (p + 1) n k ∙ ap (λ (j : ℕ). drop j (held_from slots p (suc n))) (sym (suc-min-suc n k))

module _ (slots : List ℕ) (p : ℕ) where
  -- One byte more is copied behind i of them.
  pub copied_next : (bytes : List ℕ) (i : ℕ) → take i bytes ≡ held_from slots p i → i < length bytes → take (i + 1) (set bytes i (get_or slots ((p + i) % 64) 0)) ≡ held_from slots p (i + 1)
  copied_next bytes i so_far room =
      let b = get_or slots ((p + i) % 64) 0 in
      ap (λ (n : ℕ). take n (set bytes i b)) (add-one i)
      ∙ take-suc-set bytes i b room
      ∙ ap (λ (l : List ℕ). l ++ b ∷ []) so_far
      ∙ sym (held_last slots p i)
      ∙ ap (held_from slots p) (sym (add-one i))

  -- So many bytes stand at the front of an array, over what was there.
  pub front_length : (n : ℕ) (array : List ℕ) {size : ℕ} → length array ≡ size → n ≤ size → length (held_from slots p n ++ drop n array) ≡ size
  front_length n array whole few = simp (length-append, held_length slots p n, length-drop) (omega arith)

  pub front_taken : (n : ℕ) (l : List ℕ) → take n (held_from slots p n ++ l) ≡ held_from slots p n
  front_taken n l = ap (λ (k : ℕ). take k (held_from slots p n ++ l)) (sym (held_length slots p n)) ∙ take-append_seam (held_from slots p n) l
