-- Laws of writing a text into a buffer, piece by piece.
-- Assumes nothing.
use Rattle.std.proofs.Common.{◌≡◌, ℕ, ◌+◌, ◌≤◌, Bool, true, false, cond, List, ◌++◌, arith, length, drop, ap, ◌∙◌, length-append}
use lib.Dec.{ltb}
use Rattle.profile.specs.Answer.{Answer}
use Rattle.profile_line.specs.Line.{LineMeets, line_of}

-- The line stands within the buffer.
pub line_within : {a : Answer} {entry exit : List ℕ} {r : ℕ} → LineMeets a entry exit r → r ≤ length exit
line_within {a} {entry} {exit} {r} meets = go (ltb (length entry) 32) meets.count meets.bytes
  where
    go : (short : Bool) → r ≡ cond short 0 (length (line_of a)) → exit ≡ cond short entry (line_of a ++ drop (length (line_of a)) entry) → r ≤ length exit
    go true none same = omega arith
    go false count bytes =
        let sizes : length exit ≡ length (line_of a) + length (drop (length (line_of a)) entry) = ap length bytes ∙ length-append (line_of a) (drop (length (line_of a)) entry) in
        omega arith
