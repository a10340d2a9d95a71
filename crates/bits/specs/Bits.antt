-- The bits of a number, by division and remainder, and lists of bytes. Bit 0 is the least.
-- Assumes nothing.
use Rattle.std.specs.Prelude.{ℕ, ◌/◌, ◌%◌, ◌^◌, ◌<◌, List, [], ◌∷◌, Bool, eqb}

-- Bit k of x: 0 or 1.
abbrev pub bit : ℕ → ℕ → ℕ
bit x k = x / 2 ^ k % 2

-- Every number of a list is a byte.
unfoldable pub Bytes : List ℕ → Type 0
Bytes [] = Unit {0}
Bytes (b ∷ bs) = (b < 256) × Bytes bs

-- Bit k of x is 1.
abbrev pub bit_set : ℕ → ℕ → Bool
bit_set x k = eqb (bit x k) 1
