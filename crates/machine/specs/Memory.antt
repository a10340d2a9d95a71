-- Manual 6: EEPROM addresses and blocks.
-- Assumes nothing.
use Rattle.std.specs.Prelude.{ℕ, zero, suc, ◌+◌, ◌-◌, ◌*◌, ◌%◌, cond, List, [], ◌∷◌, eqb, take, drop, set}

-- An address from its two bytes, the low one first; nine bits of it count (manual 6.2).
abbrev pub address_of : ℕ → ℕ → ℕ
address_of low high = (low + 256 * high) % 0x200

-- The bytes from an address on.
abbrev pub bytes_from : List ℕ → ℕ → ℕ → List ℕ
bytes_from eeprom address count = take count (drop address eeprom)

-- Bytes stored from an address on.
unfoldable pub stored_from : List ℕ → ℕ → List ℕ → List ℕ
stored_from eeprom address [] = eeprom
stored_from eeprom address (b ∷ bs) = stored_from (set eeprom address b) (address + 1) bs

-- How many bytes fit before the end of a 16-byte block.
abbrev pub room_in_block : ℕ → ℕ
room_in_block address = 16 - address % 16

-- 5.8 ms at 13.56 MHz (manual 6.3).
abbrev pub programming_clocks : ℕ
programming_clocks = 78_648

-- Thirty-two bytes over registers 10h-2Fh, but for the Page positions: every eighth one, from the first on.
unfoldable pub over_registers : ℕ → List ℕ → List ℕ → List ℕ
over_registers position [] bytes = []
over_registers position (r ∷ rs) [] = r ∷ rs
over_registers position (r ∷ rs) (b ∷ bs) = cond (eqb (position % 8) 0) r b ∷ over_registers (position + 1) rs bs
