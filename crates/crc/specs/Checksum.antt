-- The checksum (manual 8.3, and 7.6 for CalcCRC): bytes into the register, and the mode bits of ChannelRedundancy (22h).
-- The CRC register holds what has been absorbed; what is shown or sent of it goes by the mode. The polynomials and what a bit makes of the register
-- are `ShiftRegister` of `crc_table`.
-- Assumes nothing.
use Rattle.std.specs.Prelude.{ℕ, ◌+◌, ◌-◌, ◌*◌, Bool, cond, List, [], ◌∷◌}
use Rattle.std.specs.Int.Bits.{bit_xor}
use Rattle.bits.specs.Bits.{bit_set}
pub use Rattle.crc_table.specs.ShiftRegister.{taps, taps8, taps16}
unfoldable pub use Rattle.crc_table.specs.ShiftRegister.{after_bit, after_bits}

-- The register after a byte: the byte is added to its low eight bits, and eight bits fall out.
unfoldable pub after_byte : ℕ → ℕ → ℕ → ℕ
after_byte t c b = after_bits t 8 (bit_xor c b)

-- The register after a list of bytes, in order.
unfoldable pub after_bytes : ℕ → ℕ → List ℕ → ℕ
after_bytes t c [] = c
after_bytes t c (b ∷ bs) = after_bytes t (after_byte t c b) bs

-- ChannelRedundancy bit 4, CRC8, and bit 5, CRC3309.
abbrev pub crc8_bit : ℕ → Bool
crc8_bit redundancy = bit_set redundancy 4

abbrev pub crc3309_bit : ℕ → Bool
crc3309_bit redundancy = bit_set redundancy 5

abbrev pub taps_of : ℕ → ℕ
taps_of redundancy = cond (crc8_bit redundancy) taps8 taps16

-- The register at the start: CRCPresetLSB (23h) and CRCPresetMSB (24h); CRC8 starts from the first of them alone.
abbrev pub preset_of : ℕ → ℕ → ℕ → ℕ
preset_of redundancy lsb msb = cond (crc8_bit redundancy) lsb (lsb + 256 * msb)

-- The register after one byte, and after a list of bytes, in the given mode.
abbrev pub absorbed : ℕ → ℕ → ℕ → ℕ
absorbed redundancy c b = after_byte (taps_of redundancy) c b

abbrev pub absorbed_all : ℕ → ℕ → List ℕ → ℕ
absorbed_all redundancy c bs = after_bytes (taps_of redundancy) c bs

-- The result that the register stands for: by CRC3309 every bit of it flipped, but not with CRC8.
abbrev pub result_of : ℕ → ℕ → ℕ
result_of redundancy c = cond (crc8_bit redundancy) c (cond (crc3309_bit redundancy) (0xFFFF - c) c)

-- The checksum of a list of bytes: low byte at 0Dh, high byte at 0Eh. With CRC8 the high byte is 0.
abbrev pub checksum : ℕ → ℕ → ℕ → List ℕ → ℕ
checksum redundancy lsb msb bs = result_of redundancy (absorbed_all redundancy (preset_of redundancy lsb msb) bs)
