-- Memories stay lists of bytes of their sizes: EEPROM when bytes are stored, registers when they are configured.
-- Assumes nothing.
use Prim.Native.Nat.{ℕ, zero, suc, ◌+◌, ◌%◌, ◌≤◌, ◌<◌}
use mathlib.Core.Path.{◌≡◌, refl, ap, ◌∙◌}
use mathlib.Core.List.{List, [], ◌∷◌}
use native.Mathlib.Omega.{arith}
use lib.Dec.{eqb}
use lib.ListN.{length, take, drop, set, length-set}
use Rattle.bits.specs.Bits.{Bytes}
use Rattle.bits.proofs.Bytes.{bytes_take, bytes_drop, bytes_set}
use Rattle.machine.specs.Memory.{bytes_from, stored_from, over_registers}
use Rattle.machine.proofs.Cases.{by_cond}

-- Bytes read from EEPROM.
pub from_bytes : (eeprom : List ℕ) (address count : ℕ) → Bytes eeprom → Bytes (bytes_from eeprom address count)
from_bytes eeprom address count h = bytes_take count (drop address eeprom) (bytes_drop address eeprom h)

-- EEPROM after bytes are stored.
pub stored_bytes_lem : (eeprom : List ℕ) (address : ℕ) (bs : List ℕ) → Bytes eeprom → Bytes bs → Bytes (stored_from eeprom address bs)
unfolding stored_from Bytes
stored_bytes_lem eeprom address [] h k = h
stored_bytes_lem eeprom address (b ∷ bs) h (k, ks) = stored_bytes_lem (set eeprom address b) (address + 1) bs (bytes_set eeprom address b h k) ks

pub stored_length : (eeprom : List ℕ) (address : ℕ) (bs : List ℕ) → length (stored_from eeprom address bs) ≡ length eeprom
unfolding stored_from
stored_length eeprom address [] = refl
stored_length eeprom address (b ∷ bs) = stored_length (set eeprom address b) (address + 1) bs ∙ length-set eeprom address b

-- Registers after bytes are laid over them.
pub over_bytes : (position : ℕ) (rs bs : List ℕ) → Bytes rs → Bytes bs → Bytes (over_registers position rs bs)
unfolding over_registers Bytes
over_bytes position [] bs h k = tt
over_bytes position (r ∷ rs) [] h k = h
over_bytes position (r ∷ rs) (b ∷ bs) (h, hs) (k, ks) =
    (by_cond (λ x. x < 256) (eqb (position % 8) 0) r b (λ e. h) (λ e. k), over_bytes (position + 1) rs bs hs ks)

pub over_length : (position : ℕ) (rs bs : List ℕ) → length (over_registers position rs bs) ≡ length rs
unfolding over_registers
over_length position [] bs = refl
over_length position (r ∷ rs) [] = refl
over_length position (r ∷ rs) (b ∷ bs) = ap suc (over_length (position + 1) rs bs)

-- The bytes that fit: no more than there is room for, and one at least where one waits.
pub take_fits : (n : ℕ) (xs : List ℕ) → length (take n xs) ≤ n
take_fits zero xs = omega arith
take_fits (suc n) [] = omega arith
take_fits (suc n) (x ∷ xs) = omega (arith, take_fits n xs)

pub take_some : (n : ℕ) (xs : List ℕ) → 1 ≤ n → 1 ≤ length xs → 1 ≤ length (take n xs)
take_some zero xs h k = h
take_some (suc n) [] h k = k
take_some (suc n) (x ∷ xs) h k = omega arith
