-- The checksum at a frame's end, as a number of bytes.
-- Assumes nothing.
use Rattle.std.specs.Prelude.{ℕ, cond, List}
use Rattle.machine.specs.State.{Machine}
use Rattle.machine.specs.Frames.{crc_width, has_crc}

-- How many bytes at the end are compared and left out (manual 8.3): none where the frame has no checksum.
abbrev pub trailing_crc : Machine → List ℕ → ℕ → ℕ
trailing_crc m bytes last_bits = cond (has_crc m bytes last_bits) (crc_width m) 0
