use Rattle.key.proofs.Laws.{ReadTo}
use Rattle.key.proofs.key_of.Given as goal

abbrev pub invariant-loop-i : goal.invariant-loop-i
invariant-loop-i l = ReadTo l.i l.stored l.bytes
