-- The key format of LoadKeyE2 and LoadKey (manual 7.5): a byte for every nibble of the key, which has the nibble below and its complement above.
-- Assumes nothing.
use Rattle.std.specs.Prelude.{ℕ, ◌+◌, ◌-◌, ◌*◌, ◌/◌, ◌%◌, Bool, true, ◌&&◌, cond, List, [], ◌∷◌, eqb, replicate}

-- A nibble as it is stored: complemented in the upper half, true in the lower.
abbrev pub stored_nibble : ℕ → ℕ
stored_nibble n = (15 - n) * 16 + n

-- A key as it is stored: two bytes for each of its bytes, the upper nibble's first.
unfoldable pub stored : List ℕ → List ℕ
stored [] = []
stored (k ∷ ks) = stored_nibble (k / 16) ∷ stored_nibble (k % 16) ∷ stored ks

-- A byte holds a nibble in the stored form: its upper half is the complement of its lower.
abbrev pub paired : ℕ → Bool
paired b = eqb b (stored_nibble (b % 16))

-- Every byte does.
unfoldable pub format_holds : List ℕ → Bool
format_holds [] = true
format_holds (b ∷ bs) = paired b && format_holds bs

-- The key that pairs of bytes stand for, read from their lower halves; a last byte without its pair stands for nothing.
unfoldable pub key_of : List ℕ → List ℕ
key_of [] = []
key_of (u ∷ []) = []
key_of (u ∷ l ∷ bs) = (u % 16 * 16 + l % 16) ∷ key_of bs

-- The empty key: no byte of a key is kept.
abbrev pub empty_key : List ℕ
empty_key = replicate 6 0

-- The key that the bytes stand for; where the format does not hold, none.
abbrev pub judged_key : List ℕ → List ℕ
judged_key bs = cond (format_holds bs) (key_of bs) empty_key
