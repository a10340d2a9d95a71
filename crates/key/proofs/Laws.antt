-- Laws of the key format: reading what was stored gives the key, and storing what was read gives the bytes.
-- Assumes nothing.
use mathlib.Core.Path.{◌≡◌, refl, sym, ap, ◌∙◌}
use mathlib.Core.Bool.{Bool, true, false, ◌&&◌, and_assoc}
use mathlib.Core.List.{List, [], ◌∷◌, ◌++◌, append_assoc, append-nil}
use Prim.Native.Nat.{ℕ, suc, ◌+◌, ◌-◌, ◌*◌, ◌/◌, ◌%◌, ◌<◌, ◌≤◌}
use native.Mathlib.Omega.{arith}
use native.Mathlib.Numerals.{add-one}
use lib.ListN.{length, take, drop, get_or, set, length-set, drop_of_length-le}
use lib.Seq.{drop-cons, take-suc-set, take_all}
use borrow.Author.Tests.{eq-eqb, eqb-true}
use Rattle.bits.specs.Bits.{Bytes}
use Rattle.bits.proofs.Both.{each}
use Rattle.key.specs.Key.{stored_nibble, stored, paired, format_holds, key_of}

nibble_paired : (n : ℕ) → n < 16 → paired (stored_nibble n) ≡ true
nibble_paired n h = eq-eqb (stored_nibble n) (stored_nibble (stored_nibble n % 16)) (omega arith)

-- What was stored has the format.
pub stored_holds : (key : List ℕ) → Bytes key → format_holds (stored key) ≡ true
unfolding format_holds stored Bytes
stored_holds [] w = refl
stored_holds (k ∷ ks) (h, w) = simp (nibble_paired (k / 16) (omega arith), nibble_paired (k % 16) (omega arith), stored_holds ks w)

-- Reading what was stored gives the key.
pub read_stored : (key : List ℕ) → Bytes key → key_of (stored key) ≡ key
unfolding key_of stored Bytes
read_stored [] w = refl
read_stored (k ∷ ks) (h, w) =
    let e : stored_nibble (k / 16) % 16 * 16 + stored_nibble (k % 16) % 16 ≡ k = omega arith in
    ap (λ (b : ℕ). b ∷ key_of (stored ks)) e ∙ ap (λ (bs : List ℕ). k ∷ bs) (read_stored ks w)

-- Storing what was read gives the bytes: where the format holds, the bytes are a stored key.
pub store_read : (n : ℕ) (bs : List ℕ) → length bs ≡ 2 * n → format_holds bs ≡ true → stored (key_of bs) ≡ bs
unfolding format_holds key_of stored
store_read n [] even h = refl
store_read n (u ∷ []) even h = absurd (omega (arith, even))
store_read n (u ∷ l ∷ bs) even h =
    let first = each (paired u) (paired l && format_holds bs) h in
    let second = each (paired l) (format_holds bs) first.1 in
    let upper = eqb-true u (stored_nibble (u % 16)) first.0 in
    let lower = eqb-true l (stored_nibble (l % 16)) second.0 in
    let u-back : stored_nibble ((u % 16 * 16 + l % 16) / 16) ≡ u = omega (arith, upper) in
    let l-back : stored_nibble ((u % 16 * 16 + l % 16) % 16) ≡ l = omega (arith, lower) in
    let fewer : length bs ≡ 2 * (n - 1) = omega (arith, even) in
    ap (λ (x : ℕ). x ∷ stored_nibble ((u % 16 * 16 + l % 16) % 16) ∷ stored (key_of bs)) u-back
    ∙ ap (λ (x : ℕ). u ∷ x ∷ stored (key_of bs)) l-back
    ∙ ap (λ (xs : List ℕ). u ∷ l ∷ xs) (store_read (n - 1) bs fewer second.1)

-- The pair at 2 i is taken off the bytes that are left.
pub next_pair : (bs : List ℕ) (i : ℕ) → 2 * i + 1 < length bs → drop (2 * i) bs ≡ get_or bs (2 * i) 0 ∷ get_or bs (2 * i + 1) 0 ∷ drop (2 * (i + 1)) bs
next_pair bs i h =
    let e : suc (suc (2 * i)) ≡ 2 * (i + 1) = omega arith in
    drop-cons bs (2 * i) 0 (omega arith)
    ∙ ap (λ (l : List ℕ). get_or bs (2 * i) 0 ∷ l) (drop-cons bs (suc (2 * i)) 0 (omega arith))
    ∙ ap (λ (n : ℕ). get_or bs (2 * i) 0 ∷ get_or bs (suc (2 * i)) 0 ∷ drop n bs) e
    ∙ ap (λ (n : ℕ). get_or bs (2 * i) 0 ∷ get_or bs n 0 ∷ drop (2 * (i + 1)) bs) (sym (add-one (2 * i)))

-- The first i pairs hold and have been read into bytes; what is left of the format and of the key is that of the other pairs.
pub record ReadTo (i : ℕ) (bs bytes : List ℕ) : Type 0 where
  pub fits : i ≤ 6
  pub whole : length bytes ≡ 6
  pub holds : format_holds (drop (2 * i) bs) ≡ format_holds bs
  pub so_far : take i bytes ++ key_of (drop (2 * i) bs) ≡ key_of bs

-- A pair that holds is read.
pub read_next : (i : ℕ) (bs bytes : List ℕ) → i < 6 → length bs ≡ 12 → ReadTo i bs bytes → paired (get_or bs (2 * i) 0) ≡ true → paired (get_or bs (2 * i + 1) 0) ≡ true →
    ReadTo (i + 1) bs (set bytes i (get_or bs (2 * i) 0 % 16 * 16 + get_or bs (2 * i + 1) 0 % 16))
unfolding format_holds key_of
read_next i bs bytes h twelve r upper lower =
    let next = next_pair bs i (omega arith) in
    let v = get_or bs (2 * i) 0 % 16 * 16 + get_or bs (2 * i + 1) 0 % 16 in
    let left = key_of (drop (2 * (i + 1)) bs) in
    let room : i < length bytes = omega (arith, r.whole) in
    record {
      fits = omega arith;
      whole = length-set bytes i _ ∙ r.whole;
      holds = sym (ap format_holds next ∙ simp (upper, lower)) ∙ r.holds;
      so_far =
          ap (λ (n : ℕ). take n (set bytes i v) ++ left) (add-one i)
          ∙ ap (λ (l : List ℕ). l ++ left) (take-suc-set bytes i v room)
          ∙ append_assoc (take i bytes) (v ∷ []) left
          ∙ sym (ap (λ (l : List ℕ). take i bytes ++ key_of l) next)
          ∙ r.so_far;
    }

-- A pair of which one byte does not hold breaks the format.
pub read_bad : (i : ℕ) (bs bytes : List ℕ) → i < 6 → length bs ≡ 12 → ReadTo i bs bytes → (paired (get_or bs (2 * i) 0) && paired (get_or bs (2 * i + 1) 0)) ≡ false →
    format_holds bs ≡ false
unfolding format_holds
read_bad i bs bytes h twelve r bad =
    let rest = format_holds (drop (2 * (i + 1)) bs) in
    sym r.holds ∙ ap format_holds (next_pair bs i (omega arith)) ∙ sym (and_assoc _ _ rest) ∙ ap (λ (t : Bool). t && rest) bad

-- All six pairs are read.
pub read_all : (bs bytes : List ℕ) → length bs ≡ 12 → ReadTo 6 bs bytes → (format_holds bs ≡ true) × (key_of bs ≡ bytes)
unfolding format_holds key_of
read_all bs bytes twelve r =
    let none : drop 12 bs ≡ [] = drop_of_length-le bs {i = 12} (omega arith) in (
      sym r.holds ∙ ap format_holds none,
      sym r.so_far ∙ ap (λ (l : List ℕ). take 6 bytes ++ key_of l) none ∙ append-nil (take 6 bytes) ∙ take_all 6 bytes (omega (arith, r.whole)),
    )
