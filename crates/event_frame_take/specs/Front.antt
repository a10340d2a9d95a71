-- Bytes at the front of a buffer, and a checksum as bytes.
-- Assumes nothing.
use Rattle.std.specs.Prelude.{ℕ, ◌%◌, ◌/◌, cond, List, [], ◌∷◌, ◌++◌, ◌≡◌, length, drop}
use Rattle.crc.specs.Checksum.{crc8_bit, checksum}

-- A buffer with bytes at its front; those behind them stay.
abbrev pub at_front : List ℕ → List ℕ → List ℕ
at_front bytes buffer = bytes ++ drop (length bytes) buffer

-- Bytes were put at the front of a buffer, so many of them.
pub record Put (bytes buffer : List ℕ) (count : ℕ) (filled : List ℕ) : Type 0 where
  pub counted : count ≡ length bytes
  pub fills : filled ≡ at_front bytes buffer

-- A checksum by the bytes of ChannelRedundancy and the two presets: the low byte first, and one byte for CRC8.
abbrev pub checksum_bytes : ℕ → ℕ → ℕ → List ℕ → List ℕ
checksum_bytes redundancy lsb msb bytes =
    let sum = checksum redundancy lsb msb bytes in
    cond (crc8_bit redundancy) (sum ∷ []) (sum % 256 ∷ sum / 256 ∷ [])
