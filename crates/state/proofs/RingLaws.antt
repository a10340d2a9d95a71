-- Laws of the FIFO as a ring: what the bytes from a position on are, and what a byte stored behind them, or some taken before them, leaves.
-- Assumes nothing.
use Rattle.std.proofs.Common.{◌≡◌, ℕ, zero, suc, ◌+◌, ◌-◌, ◌%◌, ◌<◌, ◌≤◌, List, [], ◌∷◌, ◌++◌, length, get_or, drop, set, sym, refl, ap, ◌∙◌, le_of_suc-le-suc, not-suc-le-zero, add-one, arith, get_or-set_other, get_or-set_same, ext_get_or}
use native.Mathlib.Numerals.{unary_clauses}
use Rattle.machine.specs.Fifo.{first_of}
use Rattle.state.specs.View.{held_count, held_from, held_of}
use Rattle.state.specs.Turns.{Counts}

-- So many bytes are held.
pub held_length : (slots : List ℕ) (p n : ℕ) → length (held_from slots p n) ≡ n
unfolding held_from
held_length slots p zero = refl
held_length slots p (suc n) = ap suc (held_length slots (p + 1) n)

-- Each is in the slot so far from the first.
pub held_at : (slots : List ℕ) (p n k : ℕ) → k < n → get_or (held_from slots p n) k 0 ≡ get_or slots ((p + k) % 64) 0
unfolding held_from
held_at slots p zero k h = absurd (not-suc-le-zero h)
held_at slots p (suc n) zero h = ap (λ (q : ℕ). get_or slots (q % 64) 0) (omega arith)
held_at slots p (suc n) (suc k) h = held_at slots (p + 1) n k (le_of_suc-le-suc h) ∙ ap (λ (q : ℕ). get_or slots (q % 64) 0) (omega arith)

-- The same position and count, as other terms.
held_same : (slots : List ℕ) (p q n m : ℕ) → p ≡ q → n ≡ m → held_from slots p n ≡ held_from slots q m
held_same slots p q n m same-position same_count = cc

-- Some are taken.
pub held_dropped : (slots : List ℕ) (p n k : ℕ) → k ≤ n → drop k (held_from slots p n) ≡ held_from slots (p + k) (n - k)
unfolding held_from
held_dropped slots p n zero h = simp unary_clauses
held_dropped slots p zero (suc k) h = absurd (not-suc-le-zero h)
held_dropped slots p (suc n) (suc k) h = held_dropped slots (p + 1) n k (le_of_suc-le-suc h) ∙ held_same slots (p + 1 + k) (p + suc k) (n - k) (suc n - suc k) (omega arith) (omega arith)

-- Where the slots that are read have the same bytes, so are the bytes held.
pub held_alike : (slots slots' : List ℕ) (p q n : ℕ) → ((i : ℕ) → i < n → get_or slots ((p + i) % 64) 0 ≡ get_or slots' ((q + i) % 64) 0) → held_from slots p n ≡ held_from slots' q n
held_alike slots slots' p q n same =
    ext_get_or 0 (held_from slots p n) (held_from slots' q n) (held_length slots p n ∙ sym (held_length slots' q n))
    (λ i h. let within : i < n = omega (arith, held_length slots p n) in held_at slots p n i within ∙ same i within ∙ sym (held_at slots' q n i within))

-- Positions only matter mod 64.
pub held_mod : (slots : List ℕ) (p q n : ℕ) → p % 64 ≡ q % 64 → held_from slots p n ≡ held_from slots q n
held_mod slots p q n same = held_alike slots slots p q n (λ i h. ap (λ (k : ℕ). get_or slots k 0) (omega arith))

-- The last of them, by itself.
pub held_last : (slots : List ℕ) (p n : ℕ) → held_from slots p (suc n) ≡ held_from slots p n ++ (get_or slots ((p + n) % 64) 0 ∷ [])
unfolding held_from
held_last slots p zero = ap (λ (q : ℕ). get_or slots (q % 64) 0 ∷ []) (omega arith)
held_last slots p (suc n) =
    ap (λ (l : List ℕ). get_or slots (p % 64) 0 ∷ l) (held_last slots (p + 1) n)
    ∙ ap (λ (q : ℕ). get_or slots (p % 64) 0 ∷ (held_from slots (p + 1) n ++ (get_or slots (q % 64) 0 ∷ []))) (omega arith)

-- A byte is stored behind them.
pub held_more : (slots : List ℕ) (p n b : ℕ) → n < 64 → length slots ≡ 64 → held_from (set slots ((p + n) % 64) b) p (n + 1) ≡ held_from slots p n ++ (b ∷ [])
held_more slots p n b room whole =
    ap (held_from (set slots ((p + n) % 64) b) p) (add-one n)
    ∙ held_last (set slots ((p + n) % 64) b) p n
    ∙ ap (λ (l : List ℕ). l ++ (get_or (set slots ((p + n) % 64) b) ((p + n) % 64) 0 ∷ []))
    (held_alike (set slots ((p + n) % 64) b) slots p p n (λ i h. get_or-set_other slots ((p + n) % 64) ((p + i) % 64) b 0 (λ e. omega arith)))
    ∙ ap (λ (x : ℕ). held_from slots p n ++ (x ∷ [])) (get_or-set_same slots ((p + n) % 64) b 0 (omega arith))

-- The first of a list is the one at 0.
pub first_at : (l : List ℕ) → get_or l 0 0 ≡ first_of l
first_at [] = refl
first_at (x ∷ l) = refl

-- None is held between two positions that are the same.
pub held_none : (slots : List ℕ) (p n : ℕ) → n ≡ 0 → held_from slots p n ≡ []
unfolding held_from
held_none slots p n none = ap (held_from slots p) none

-- The wrapped difference is the count that leads from one position to the other.
count_leads : (read write : ℕ) → read < 256 → write < 256 → (read + (write + 256 - read) % 256) % 256 ≡ write
count_leads read write low high = omega arith

count_is : (read write n : ℕ) → read < 256 → n < 256 → (read + n) % 256 ≡ write → (write + 256 - read) % 256 ≡ n
count_is read write n low below leads = omega arith

-- A wrapped position has the same slot, and the same next one.
wrap_slot : (p : ℕ) → p % 256 % 64 ≡ p % 64
wrap_slot p = omega arith

wrap_more : (p n : ℕ) → (p + (n + 1)) % 256 ≡ ((p + n) % 256 + 1) % 256
wrap_more p n = omega arith

-- From one position to the other are n bytes: those held after the read or the write position has moved.
module _ (slots : List ℕ) (read write n : ℕ) (low : read < 256) (below : n < 256) (leads : (read + n) % 256 ≡ write) where
  taken_from : (k read' : ℕ) → k ≤ n → read' ≡ (read + k) % 256 → held_from slots read' ((write + 256 - read') % 256) ≡ drop k (held_from slots read n)
  taken_from k read' more moved =
      held_same slots read' read' ((write + 256 - read') % 256) (n - k) refl (count_is read' write (n - k) (omega arith) (omega arith) (omega arith))
      ∙ held_mod slots read' (read + k) (n - k) (omega arith)
      ∙ sym (held_dropped slots read n k more)

  stored_behind : (b write' : ℕ) → n < 64 → length slots ≡ 64 → write' ≡ (write + 1) % 256 →
      held_from (set slots (write % 64) b) read ((write' + 256 - read) % 256) ≡ held_from slots read n ++ (b ∷ [])
  stored_behind b write' room whole moved =
      ap (λ (k : ℕ). held_from (set slots (k % 64) b) read ((write' + 256 - read) % 256)) (sym leads)
      ∙ ap (λ (k : ℕ). held_from (set slots k b) read ((write' + 256 - read) % 256)) (wrap_slot (read + n))
      ∙ ap (held_from (set slots ((read + n) % 64) b) read) (count_is read write' (n + 1) low (omega arith) (wrap_more read n ∙ ap (λ (k : ℕ). (k + 1) % 256) leads ∙ sym moved))
      ∙ held_more slots read n b room whole

-- What is held between two positions, and after one of them has moved.
module _ {read write n : ℕ} (p : Counts read write n) (slots : List ℕ) where
  pub count_length : n ≡ length (held_of read write slots)
  count_length = p.counted ∙ sym (held_length slots read (held_count read write))

  pub ring_taken : (k read' : ℕ) → k ≤ n → read' ≡ (read + k) % 256 → held_of read' write slots ≡ drop k (held_of read write slots)
  ring_taken k read' few moved =
      taken_from slots read write (held_count read write) p.read_fits (omega arith) (count_leads read write p.read_fits p.write_fits) k read' (omega (arith, p.counted)) moved

  pub ring_stored : (b write' : ℕ) → n < 64 → length slots ≡ 64 → write' ≡ (write + 1) % 256 → held_of read write' (set slots (write % 64) b) ≡ held_of read write slots ++ (b ∷ [])
  ring_stored b write' room =
      stored_behind slots read write (held_count read write) p.read_fits (omega arith) (count_leads read write p.read_fits p.write_fits) b write' (omega (arith, p.counted))
