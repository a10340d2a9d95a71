-- ASCII text as bytes: what a program writes.
-- Assumes nothing.
use Rattle.std.specs.Prelude.{ℕ, zero, suc, ◌+◌, ◌/◌, ◌%◌, cond, List, [], ◌∷◌, ◌++◌, ltb}
use Prim.Native.String as Str
use Prim.Native.Char.{code}

-- The bytes of a text whose characters are ASCII.
abbrev pub ascii : Str.String → List ℕ
ascii Str.[] = []
ascii (Str.◌∷◌ c s) = code c ∷ ascii s

-- The digit for a number below 16: 0 to 9, then A to F.
abbrev pub digit : ℕ → ℕ
digit n = cond (ltb n 10) (48 + n) (55 + n)

-- A byte as two hexadecimal digits.
abbrev pub hex_byte : ℕ → List ℕ
hex_byte n = digit (n / 16) ∷ digit (n % 16) ∷ []

-- n in decimal with no leading zero, where n has at most 1 + places digits.
abbrev pub decimal_within : ℕ → ℕ → List ℕ
decimal_within zero n = digit n ∷ []
decimal_within (suc places) n = cond (ltb n 10) (digit n ∷ []) (decimal_within places (n / 10) ++ digit (n % 10) ∷ [])

-- A byte in decimal with no leading zero.
abbrev pub decimal_byte : ℕ → List ℕ
decimal_byte n = decimal_within 2 n
