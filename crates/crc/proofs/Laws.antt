-- Laws of the checksum's definitions, which callers cite in place of unfolding them.
-- Assumes nothing.
use mathlib.Core.Path.{◌≡◌, refl, ap, sym, ◌∙◌}
use mathlib.Core.Bool.{Bool, true, false, cond}
use mathlib.Core.List.{List, [], ◌∷◌, ◌++◌}
use Prim.Native.Nat.{ℕ, zero, suc, ◌+◌, ◌-◌, ◌*◌, ◌/◌, ◌%◌, ◌^◌, ◌<◌, ◌≤◌}
use native.Mathlib.Nat.{mul-one, div-add-mod', mod-lt}
use native.Mathlib.Numerals.{add-one}
use native.Mathlib.Omega.{arith}
use lib.Bits.{bit_xor, xor_lt, xor_shr, xor_add_and, xor_shifted, shifted_half, shifted_even}
use lib.Dec.{eqb}
use lib.ListN.{length, drop, get_or, drop_of_length-le}
use lib.Pow.{pow_pos}
use lib.Seq.{drop-cons}
use Rattle.std.specs.Int.Bits.{xor_assoc}
use Rattle.crc.specs.Checksum.{after_bit, after_bits, after_byte, after_bytes}

-- The bit after k of n is taken off the bits that are left.
pub first_bit : (t n k c : ℕ) → k < n → after_bits t (n - (k + 1)) (after_bit t c) ≡ after_bits t (n - k) c
unfolding after_bits
first_bit t n k c h = let left : n - k ≡ suc (n - (k + 1)) = omega arith in rw left

-- No bit is left.
pub no_bit : (t n k c : ℕ) → n ≤ k → after_bits t (n - k) c ≡ c
unfolding after_bits
no_bit t n k c h = let left : n - k ≡ 0 = omega arith in rw left

-- One bit falls out of a register with bits h above its n + 1 lowest: the least bit decides whether the taps are added, and h only moves down.
bit_out : (t n h c : ℕ) → after_bit t (bit_xor (h * 2 ^ suc n) c) ≡ bit_xor (h * 2 ^ n) (after_bit t c)
unfolding after_bit
bit_out t n h c =
    let whole = bit_xor (h * 2 ^ suc n) c in
    let least : whole % 2 ≡ c % 2 = omega (arith, xor_add_and (h * 2 ^ suc n) c, shifted_even h n) in
    let half : whole / 2 ≡ bit_xor (h * 2 ^ n) (c / 2) = xor_shr (h * 2 ^ suc n) c 1 ∙ ap (λ (x : ℕ). bit_xor x (c / 2)) (shifted_half h n) in
    ap (λ (x : ℕ). cond (eqb x 1) (bit_xor (whole / 2) t) (whole / 2)) least
    ∙ ap (λ (x : ℕ). cond (eqb (c % 2) 1) (bit_xor x t) x) half
    ∙ go (eqb (c % 2) 1)
  where
    go : (odd : Bool) → cond odd (bit_xor (bit_xor (h * 2 ^ n) (c / 2)) t) (bit_xor (h * 2 ^ n) (c / 2)) ≡ bit_xor (h * 2 ^ n) (cond odd (bit_xor (c / 2) t) (c / 2))
    go true = xor_assoc (h * 2 ^ n) (c / 2) t
    go false = refl

-- n bits fall out.
bits_out : (t n h c : ℕ) → after_bits t n (bit_xor (h * 2 ^ n) c) ≡ bit_xor h (after_bits t n c)
unfolding after_bits
bits_out t zero h c = ap (λ (x : ℕ). bit_xor x c) (mul-one h)
bits_out t (suc n) h c = ap (after_bits t n) (bit_out t n h c) ∙ bits_out t n h (after_bit t c)

-- n bits at once, at every n and every taps: the bits above them move down, and what the n lowest become by themselves is added.
pub bits_at_once : (t n c : ℕ) → after_bits t n c ≡ bit_xor (c / 2 ^ n) (after_bits t n (c % 2 ^ n))
bits_at_once t n c =
    ap (after_bits t n) (sym (xor_shifted (c / 2 ^ n) n (c % 2 ^ n) (mod-lt c (pow_pos n)) ∙ div-add-mod' c (2 ^ n))) ∙ bits_out t n (c / 2 ^ n) (c % 2 ^ n)

-- The byte at i is taken off the bytes that are left.
pub next_byte : (t c : ℕ) (bs : List ℕ) (i : ℕ) → i < length bs → after_bytes t (after_byte t c (get_or bs i 0)) (drop (i + 1) bs) ≡ after_bytes t c (drop i bs)
unfolding after_bytes
next_byte t c bs i h = rw (add-one, drop-cons bs i 0)

-- No byte is left.
pub no_byte : (t c : ℕ) (bs : List ℕ) (i : ℕ) → length bs ≤ i → after_bytes t c (drop i bs) ≡ c
unfolding after_bytes
no_byte t c bs i h = rw (drop_of_length-le bs {i = i} h)

-- Bytes in two parts are absorbed one part after the other.
pub in_parts : (t c : ℕ) (xs ys : List ℕ) → after_bytes t c (xs ++ ys) ≡ after_bytes t (after_bytes t c xs) ys
unfolding after_bytes
in_parts t c [] ys = refl
in_parts t c (x ∷ xs) ys = in_parts t (after_byte t c x) xs ys

-- A register of k bits keeps k bits, at every width k.
module _ (t k : ℕ) (small : t < 2 ^ k) where
  bit_below : (c : ℕ) → c < 2 ^ k → after_bit t c < 2 ^ k
  unfolding after_bit
  bit_below c h = go (eqb (c % 2) 1)
    where
      half : c / 2 < 2 ^ k
      half = omega arith

      go : (odd : Bool) → cond odd (bit_xor (c / 2) t) (c / 2) < 2 ^ k
      go true = xor_lt k (c / 2) t half small
      go false = half

  bits_below : (n c : ℕ) → c < 2 ^ k → after_bits t n c < 2 ^ k
  unfolding after_bits
  bits_below zero c h = h
  bits_below (suc n) c h = bits_below n (after_bit t c) (bit_below c h)

  pub byte_below : (c b : ℕ) → c < 2 ^ k → b < 2 ^ k → after_byte t c b < 2 ^ k
  unfolding after_byte
  byte_below c b h l = bits_below 8 (bit_xor c b) (xor_lt k c b h l)
