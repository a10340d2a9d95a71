-- A CRC8 checksum stays below 100h: from its preset, and with every byte.
-- Assumes nothing.
use Prim.Native.Nat.{ℕ, ◌+◌, ◌*◌, ◌<◌}
use mathlib.Core.Path.{◌≡◌, refl}
use mathlib.Core.Bool.{Bool, true, false, cond}
use mathlib.Core.List.{List, [], ◌∷◌}
use native.Mathlib.Omega.{arith}
use lib.Dec.{ltb}
use borrow.Author.Tests.{ltb-true, lt-ltb}
use Rattle.bits.specs.Bits.{Bytes}
use Rattle.crc.specs.Checksum.{taps8, taps16, after_byte, after_bytes}
use Rattle.crc.proofs.Laws.{byte_below}

-- A list of bytes keeps the register of the 8-bit polynomial below 100h.
bytes_below : (c : ℕ) (bs : List ℕ) → c < 256 → Bytes bs → after_bytes taps8 c bs < 256
unfolding after_bytes Bytes
bytes_below c [] h w = h
bytes_below c (b ∷ bs) h (k, ks) = bytes_below (after_byte taps8 c b) bs (byte_below taps8 8 (omega arith) c b h k) ks

-- With CRC8 or without it.
pub started_below : (crc8 : Bool) (lsb msb : ℕ) → lsb < 256 → cond crc8 (ltb (cond crc8 lsb (lsb + 256 * msb)) 0x100) true ≡ true
started_below true lsb msb h = lt-ltb lsb 256 h
started_below false lsb msb h = refl

pub absorbed_below : (crc8 : Bool) (c : ℕ) (bs : List ℕ) → Bytes bs → cond crc8 (ltb c 0x100) true ≡ true → cond crc8 (ltb (after_bytes (cond crc8 taps8 taps16) c bs) 0x100) true ≡ true
absorbed_below true c bs w h = lt-ltb (after_bytes taps8 c bs) 256 (bytes_below c bs (ltb-true c 256 h) w)
absorbed_below false c bs w h = refl
