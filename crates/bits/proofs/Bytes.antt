-- Lists of bytes: their parts, and what is made of them, are lists of bytes.
-- Assumes nothing.
use mathlib.Core.List.{List, [], ◌∷◌, ◌++◌}
use Prim.Native.Nat.{ℕ, zero, suc, ◌<◌}
use native.Mathlib.Omega.{arith}
use lib.ListN.{get_or, take, drop, set, replicate}
use Rattle.bits.specs.Bits.{Bytes}

pub bytes_append : (xs ys : List ℕ) → Bytes xs → Bytes ys → Bytes (xs ++ ys)
unfolding Bytes
bytes_append [] ys h k = k
bytes_append (x ∷ xs) ys (h, hs) k = (h, bytes_append xs ys hs k)

pub bytes_take : (n : ℕ) (xs : List ℕ) → Bytes xs → Bytes (take n xs)
unfolding Bytes
bytes_take zero xs h = tt
bytes_take (suc n) [] h = tt
bytes_take (suc n) (x ∷ xs) (h, hs) = (h, bytes_take n xs hs)

pub bytes_drop : (n : ℕ) (xs : List ℕ) → Bytes xs → Bytes (drop n xs)
unfolding Bytes
bytes_drop zero xs h = h
bytes_drop (suc n) [] h = tt
bytes_drop (suc n) (x ∷ xs) (h, hs) = bytes_drop n xs hs

pub bytes_set : (xs : List ℕ) (i v : ℕ) → Bytes xs → v < 256 → Bytes (set xs i v)
unfolding Bytes
bytes_set [] i v h k = tt
bytes_set (x ∷ xs) zero v (h, hs) k = (k, hs)
bytes_set (x ∷ xs) (suc i) v (h, hs) k = (h, bytes_set xs i v hs k)

pub bytes_zeros : (n : ℕ) → Bytes (replicate n 0)
unfolding Bytes
bytes_zeros zero = tt
bytes_zeros (suc n) = (omega arith, bytes_zeros n)

-- A byte that is read is one, and 0 past the end.
pub byte_at : (xs : List ℕ) (i : ℕ) → Bytes xs → get_or xs i 0 < 256
unfolding Bytes
byte_at [] i h = omega arith
byte_at (x ∷ xs) zero (h, hs) = h
byte_at (x ∷ xs) (suc i) (h, hs) = byte_at xs i hs
