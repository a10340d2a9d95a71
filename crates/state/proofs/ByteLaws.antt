-- The elements of a slice of bytes, which the language knows to fit, are bytes. Assumes nothing.
use Rattle.std.proofs.Common.{ℕ, suc, List, [], ◌∷◌, get_or, w8, Fits}
use Rattle.bits.specs.Bits.{Bytes}

pub known_bytes : (xs : List ℕ) → ((i : ℕ) → Fits w8 (get_or xs i 0)) → Bytes xs
unfolding Bytes
known_bytes [] k = tt
known_bytes (x ∷ xs) k = ((k 0).fits, known_bytes xs (λ i. k (suc i)))
