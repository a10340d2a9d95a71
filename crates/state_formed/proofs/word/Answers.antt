-- `state_formed::word` meets its contract, part by part. Assumes nothing.
use native.Mathlib.Omega.{arith}
use Rattle.state_formed.proofs.WordLaws.{word_clear}
use Rattle.state_formed.proofs.word.Goals as goal

pub returns : goal.returns
returns c =
    let x = c.args in
    word_clear x.a x.b x.c x.d x.e x.f x.g x.h (omega arith) (omega arith) (omega arith) (omega arith) (omega arith) (omega arith) (omega arith) (omega arith)
    c.from_le_bytes.result (omega (arith, c.from_le_bytes.ensures))
