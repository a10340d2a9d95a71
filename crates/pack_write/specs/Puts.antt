-- What the parts of the writer promise to each other: a piece is stored in a buffer.
-- Assumes nothing.
use Rattle.std.specs.Prelude.{ℕ, ◌+◌, ◌≡◌, List, length}
use Rattle.std.proofs.lemmas.List.Edits.{sets}

-- The piece stands in the buffer from `at` on, all else is as it was, and `next` is the place behind it.
pub record Puts (piece entry : List ℕ) (at : ℕ) (exit : List ℕ) (next : ℕ) : Type 0 where
  pub bytes : exit ≡ sets entry at piece
  pub end : next ≡ at + length piece
