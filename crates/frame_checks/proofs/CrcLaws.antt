-- Laws of the checksum of a frame received, and of the bytes before it, which pass.
-- Assumes nothing.
use borrow.Author.Tests.{eqb-true, eqb-false, eq-eqb, ne_eqb, lt-ltb, le-ltb}
use mathlib.Core.Path.{◌≡◌, refl, sym, ap, ◌∙◌}
use mathlib.Core.Bool.{Bool, true, false, cond, not, ◌&&◌, and-true}
use mathlib.Core.List.{List, [], ◌∷◌}
use Prim.Native.Nat.{ℕ, suc, ◌+◌, ◌-◌, ◌%◌, ◌/◌, ◌<◌}
use native.Mathlib.Numerals.{add-one}
use native.Mathlib.Omega.{arith}
use lib.Dec.{ltb, eqb}
use lib.ListN.{length, get_or, take, drop, drop_of_length-le}
use lib.Seq.{take_all, drop-cons}
use Rattle.bits.specs.Bits.{bit}
use Rattle.crc.specs.Checksum.{crc8_bit}
use Rattle.machine.specs.State.{Machine}
use Rattle.machine.specs.Fifo.{register_at}
use Rattle.machine.specs.Frames.{crc_width, crc_value, crc_bytes, has_crc, passed, same_bytes, crc_fails}
use Rattle.frame_checks.specs.Trailing.{trailing_crc}

-- How many bytes a checksum has, by a difference.
width_is : (m : Machine) → crc_width m ≡ 2 - register_at m 0x22 / 16 % 2
width_is m = go (crc8_bit (register_at m 0x22)) refl
  where
    go : (t : Bool) → crc8_bit (register_at m 0x22) ≡ t → cond t 1 2 ≡ 2 - register_at m 0x22 / 16 % 2
    go true is = let set : register_at m 0x22 / 16 % 2 ≡ 1 = eqb-true (bit (register_at m 0x22) 4) 1 is in omega arith
    go false is = let clear : register_at m 0x22 / 16 % 2 ≡ 1 → ⊥ = eqb-false (bit (register_at m 0x22) 4) 1 is in omega arith

-- The last byte, compared.
same_one : (bytes : List ℕ) (n v : ℕ) → n + 1 ≡ length bytes → same_bytes (drop n bytes) (v ∷ []) ≡ eqb (get_or bytes n 0) v
unfolding same_bytes
same_one bytes n v ends =
    ap (λ (l : List ℕ). same_bytes l (v ∷ [])) (drop-cons bytes n 0 (omega arith))
    ∙ ap (λ (l : List ℕ). eqb (get_or bytes n 0) v && same_bytes l []) (drop_of_length-le bytes {i = suc n} (omega arith))
    ∙ and-true (eqb (get_or bytes n 0) v)

-- The last two bytes, compared.
same_two : (bytes : List ℕ) (n v w : ℕ) → n + 2 ≡ length bytes → same_bytes (drop n bytes) (v ∷ w ∷ []) ≡ (eqb (get_or bytes n 0) v && eqb (get_or bytes (n + 1) 0) w)
unfolding same_bytes
same_two bytes n v w ends =
    ap (λ (l : List ℕ). same_bytes l (v ∷ w ∷ [])) (drop-cons bytes n 0 (omega arith))
    ∙ ap (λ (i : ℕ). eqb (get_or bytes n 0) v && same_bytes (drop i bytes) (w ∷ [])) (sym (add-one n))
    ∙ ap (λ (t : Bool). eqb (get_or bytes n 0) v && t) (same_one bytes (n + 1) w (omega arith))

module _ (m : Machine) (bytes : List ℕ) (last_bits : ℕ) where
  -- The last bytes are not the checksum of those before.
  abbrev differs : Bool
  differs = not (same_bytes (drop (length bytes - crc_width m) bytes) (crc_bytes m (passed m bytes last_bits)))

  -- Where no checksum is checked, there is no error.
  pub crc_unchecked : register_at m 0x22 / 8 % 2 ≡ 0 → false ≡ crc_fails m bytes last_bits
  crc_unchecked off = ap (λ (t : Bool). t && cond (has_crc m bytes last_bits) differs true) (sym (ne_eqb (bit (register_at m 0x22) 3) 1 (λ e. omega arith)))

  -- The frame has so many trailing bytes.
  module _ (width : ℕ) (is : width ≡ trailing_crc m bytes last_bits) where
    -- Those before them pass.
    pub passed_front : take (length bytes - width) bytes ≡ passed m bytes last_bits
    passed_front = ap (λ (n : ℕ). take (length bytes - n) bytes) is ∙ go (has_crc m bytes last_bits)
      where
        go : (t : Bool) → take (length bytes - cond t (crc_width m) 0) bytes ≡ cond t (take (length bytes - crc_width m) bytes) bytes
        go true = refl
        go false = take_all (length bytes - 0) bytes (omega arith)

    -- It has a checksum where there are any.
    has_by : has_crc m bytes last_bits ≡ ltb 0 width
    has_by = go (has_crc m bytes last_bits) is
      where
        go : (t : Bool) → width ≡ cond t (crc_width m) 0 → t ≡ ltb 0 width
        go true e = sym (lt-ltb 0 width (omega (arith, width_is m)))
        go false e = sym (le-ltb 0 width (omega arith))

    module _ (on : register_at m 0x22 / 8 % 2 ≡ 1) where
      -- Where a checksum is checked, the error is by whether the frame has it.
      crc_by : (t : Bool) → ltb 0 width ≡ t → cond t differs true ≡ crc_fails m bytes last_bits
      crc_by t has =
          ap (λ (h : Bool). cond h differs true) (sym (has_by ∙ has))
          ∙ ap (λ (h : Bool). h && cond (has_crc m bytes last_bits) differs true) (sym (eq-eqb (bit (register_at m 0x22) 3) 1 on))

      -- A frame that has not the checksum that is checked is an error.
      pub crc_missing : width ≡ 0 → true ≡ crc_fails m bytes last_bits
      crc_missing none = crc_by false (le-ltb 0 width (omega arith))

      -- The checksum starts at n, and `sum` is that of the bytes before.
      module _ (some : 0 < width) (n sum : ℕ) (ends : n + width ≡ length bytes) (sum_is_lem : sum ≡ crc_value m (take n bytes)) where
        -- It is whole.
        width_whole : width ≡ crc_width m
        width_whole = is ∙ ap (λ (t : Bool). cond t (crc_width m) 0) (has_by ∙ lt-ltb 0 width some)

        -- The bytes before are those that pass.
        front_is : take n bytes ≡ passed m bytes last_bits
        front_is = let start : n ≡ length bytes - width = omega arith in ap (λ (k : ℕ). take k bytes) start ∙ passed_front

        -- It is compared with the sum's one byte, or two.
        crc_compared : (t : Bool) → crc8_bit (register_at m 0x22) ≡ t → not (same_bytes (drop n bytes) (cond t (sum ∷ []) (sum % 256 ∷ sum / 256 ∷ []))) ≡ crc_fails m bytes last_bits
        crc_compared t crc8 =
            let start : n ≡ length bytes - crc_width m = omega (arith, width_whole) in
            ap (λ (h : Bool). not (same_bytes (drop n bytes) (cond h (sum ∷ []) (sum % 256 ∷ sum / 256 ∷ [])))) (sym crc8)
            ∙ ap (λ (v : ℕ). not (same_bytes (drop n bytes) (cond (crc8_bit (register_at m 0x22)) (v ∷ []) (v % 256 ∷ v / 256 ∷ [])))) (sum_is_lem ∙ ap (crc_value m) front_is)
            ∙ ap (λ (k : ℕ). not (same_bytes (drop k bytes) (crc_bytes m (passed m bytes last_bits)))) start
            ∙ crc_by true (lt-ltb 0 width some)

        -- A checksum of one byte.
        pub one_compared : width ≡ 1 → not (eqb (get_or bytes n 0) sum) ≡ crc_fails m bytes last_bits
        one_compared one =
            ap not (sym (same_one bytes n sum (omega arith)))
            ∙ crc_compared true (eq-eqb (bit (register_at m 0x22) 4) 1 (omega (arith, width_whole, width_is m)))

        -- A checksum of two bytes.
        pub two_compared : 1 < width → not (eqb (get_or bytes n 0) (sum % 256) && eqb (get_or bytes (n + 1) 0) (sum / 256)) ≡ crc_fails m bytes last_bits
        two_compared two =
            ap not (sym (same_two bytes n (sum % 256) (sum / 256) (omega (arith, width_whole, width_is m))))
            ∙ crc_compared false (ne_eqb (bit (register_at m 0x22) 4) 1 (λ e. omega (arith, width_whole, width_is m)))
