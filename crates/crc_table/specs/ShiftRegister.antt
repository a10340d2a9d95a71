-- The checksum's register (manual 8.3): a polynomial's taps, and what one bit and several bits make of it, least bit first.
-- Assumes nothing.
use Rattle.std.specs.Prelude.{ℕ, zero, suc, ◌+◌, ◌-◌, ◌/◌, ◌%◌, ◌^◌, cond, List, [], ◌∷◌, eqb}
use Rattle.std.specs.Int.Bits.{bit_xor}

-- The taps of a polynomial of the given width, from the exponents of its terms below x^width. The register shifts towards its
-- least bit, so the term x^e stands at bit width - 1 - e.
abbrev pub taps : ℕ → List ℕ → ℕ
taps width [] = 0
taps width (e ∷ es) = 2 ^ (width - 1 - e) + taps width es

-- x^16 + x^12 + x^5 + 1, of the 16-bit checksum.
abbrev pub taps16 : ℕ
taps16 = taps 16 (12 ∷ 5 ∷ 0 ∷ [])

-- x^8 + x^4 + x^3 + x^2 + 1, of CRC8.
abbrev pub taps8 : ℕ
taps8 = taps 8 (4 ∷ 3 ∷ 2 ∷ 0 ∷ [])

-- The register after one bit: the least bit falls out, and where it was 1 the taps are added, bit by bit.
unfoldable pub after_bit : ℕ → ℕ → ℕ
after_bit t c = cond (eqb (c % 2) 1) (bit_xor (c / 2) t) (c / 2)

-- The register after n bits.
unfoldable pub after_bits : ℕ → ℕ → ℕ → ℕ
after_bits t zero c = c
after_bits t (suc n) c = after_bits t n (after_bit t c)
