-- The bytes that a load takes from the EEPROM, whatever the address is.
-- Assumes nothing.
use Rattle.std.specs.Prelude.{ℕ, zero, suc, ◌+◌, ◌%◌, List, [], ◌∷◌, ◌++◌, get_or}

-- So many bytes from an address on, 000h after 1FFh. proofs/LoadLaws.antt has where they are the machine's `bytes_from`.
unfoldable pub wrapped_from : List ℕ → ℕ → ℕ → List ℕ
wrapped_from eeprom address zero = []
wrapped_from eeprom address (suc n) = wrapped_from eeprom address n ++ (get_or eeprom ((address + n) % 0x200) 0 ∷ [])
