-- What is judged of a frame received, as bits of ErrorFlag.
-- Assumes nothing.
use Rattle.std.specs.Prelude.{ℕ, ◌+◌, ◌*◌, Bool, List}
use Rattle.machine.specs.State.{Machine}
use Rattle.machine.specs.Registers.{flag}
use Rattle.machine.specs.Frames.{crc_fails, parity_fails}

-- CRCErr in bit 3 and ParityErr in bit 1.
abbrev pub error_bits : Bool → Bool → ℕ
error_bits crc parity = 0x08 * flag crc + 0x02 * flag parity

-- Those of a frame, from its bytes, their parity bits, and the last-bit count.
abbrev pub frame_errors : List ℕ → List ℕ → ℕ → Machine → ℕ
frame_errors bytes parities last_bits m = error_bits (crc_fails m bytes last_bits) (parity_fails m bytes parities last_bits)
