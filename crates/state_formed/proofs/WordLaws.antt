-- A word has none of a mask's bits exactly where each of its bytes has none of its own mask's bits.
-- Assumes nothing.
use Prim.Native.Nat.{ℕ, ◌+◌, ◌*◌, ◌^◌, ◌<◌}
use native.Mathlib.Nat.{le-mul_of_pos_right}
use native.Mathlib.Omega.{arith}
use mathlib.Core.Path.{◌≡◌, ap, ◌∙◌}
use mathlib.Core.Bool.{Bool, and_assoc, and_comm, ◌&&◌}
use lib.Bits.{bit_and, and_block}
use lib.Dec.{eqb}
use Rattle.state_formed.specs.Judged.{first_clear}
use Rattle.state_clauses.proofs.ByteLaws.{joined, and_left_comm, none_of, whole_byte, named_judged, flags_judged, mode_bit}

-- Two parts that are side by side.
split : (k a b r s : ℕ) → r < 2 ^ k → s < 2 ^ k → eqb (bit_and (a * 2 ^ k + r) (b * 2 ^ k + s)) 0 ≡ (eqb (bit_and a b) 0 && eqb (bit_and r s) 0)
split k a b r s hr hs =
    let parts = and_block k a b r s hr hs in
    let high = le-mul_of_pos_right {m = 2 ^ k} (bit_and a b) (omega (arith, hr)) in
    none_of (bit_and a b) (bit_and r s) _ (λ none. (omega (arith, parts, high, none), omega (arith, parts, none))) (λ h l. parts ∙ rw (h, l) (omega arith))

-- The bytes' tests from the last to the first, as the clauses have them.
by_field : (h g f e d c b a : Bool) → (((h && g) && (f && e)) && ((d && c) && (b && a))) ≡ ((a && (b && d)) && ((h && (g && (e && c))) && f))
by_field h g f e d c b a = simp (and_assoc, and_comm, and_left_comm)

-- The first eight bytes of state.
module _ (a b c d e f g h : ℕ) (ha : a < 256) (hb : b < 256) (hc : c < 256) (hd : d < 256) (he : e < 256) (hf : f < 256) (hg : g < 256) (hh : h < 256) where
  pub word_clear : (w : ℕ) → w ≡ ((h * 2 ^ 8 + g) * 2 ^ 16 + (f * 2 ^ 8 + e)) * 2 ^ 32 + ((d * 2 ^ 8 + c) * 2 ^ 16 + (b * 2 ^ 8 + a)) →
      eqb (bit_and w 0x85C0_10C0_F8FE_FF78) 0 ≡ first_clear a b c d e f g h
  word_clear w is =
      ap (λ (n : ℕ). eqb (bit_and n 0x85C0_10C0_F8FE_FF78) 0) is
      ∙ split 32 ((h * 2 ^ 8 + g) * 2 ^ 16 + (f * 2 ^ 8 + e)) 0x85C0_10C0 ((d * 2 ^ 8 + c) * 2 ^ 16 + (b * 2 ^ 8 + a)) 0xF8FE_FF78 (omega arith) (omega arith)
      ∙ joined
      (split 16 (h * 2 ^ 8 + g) 0x85C0 (f * 2 ^ 8 + e) 0x10C0 (omega arith) (omega arith)
      ∙ joined (split 8 h 0x85 g 0xC0 (omega arith) (omega arith)) (split 8 f 0x10 e 0xC0 (omega arith) (omega arith)))
      (split 16 (d * 2 ^ 8 + c) 0xF8FE (b * 2 ^ 8 + a) 0xFF78 (omega arith) (omega arith)
      ∙ joined (split 8 d 0xF8 c 0xFE (omega arith) (omega arith)) (split 8 b 0xFF a 0x78 (omega arith) (omega arith)))
      ∙ by_field (eqb (bit_and h 0x85) 0) (eqb (bit_and g 0xC0) 0) (eqb (bit_and f 0x10) 0) (eqb (bit_and e 0xC0) 0)
      (eqb (bit_and d 0xF8) 0) (eqb (bit_and c 0xFE) 0) (eqb (bit_and b 0xFF) 0) (eqb (bit_and a 0x78) 0)
      ∙ joined (named_judged a (bit_and b 0xFF) d _ ha hd (whole_byte b hb)) (joined (flags_judged c e g h hc he hg hh) (mode_bit f hf))
