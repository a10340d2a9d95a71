-- The order of byte strings, as of words in a dictionary: the first byte that differs decides, and a string comes before its continuations. Bytes are
-- compared as unsigned numbers.
-- Assumes nothing.
use Rattle.std.specs.Prelude.{ℕ, Bool, true, false, List, [], ◌∷◌, ltb}
use Rattle.std.specs.declared.cmp.Ordering.{Ordering}
use Rattle.std.specs.declared.cmp.Ordering.TheVariants.{Less, Equal, Greater}
use Rattle.std.specs.Ordering.{is_lt, is_eq}

-- By the first bytes, where they differ; else by what follows them.
abbrev pub by_first : Bool → Bool → Ordering → Ordering
by_first true above rest = Less
by_first false true rest = Greater
by_first false false rest = rest

unfoldable pub compared : List ℕ → List ℕ → Ordering
compared [] [] = Equal
compared [] (y ∷ ys) = Less
compared (x ∷ xs) [] = Greater
compared (x ∷ xs) (y ∷ ys) = by_first (ltb x y) (ltb y x) (compared xs ys)

-- One byte string comes before another.
abbrev pub before : List ℕ → List ℕ → Bool
before xs ys = is_lt (compared xs ys)

-- Two byte strings are the same.
abbrev pub same : List ℕ → List ℕ → Bool
same xs ys = is_eq (compared xs ys)
