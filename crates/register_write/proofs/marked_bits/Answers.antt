-- `register_write::marked_bits` meets its contract. The marked bits are set or cleared, by bit 7. Assumes nothing.
use borrow.Author.Rules.{rules}
use borrow.Author.Tests.{eq-eqb, ne_eqb}
use native.Mathlib.Omega.{arith}
use Prim.Native.Nat.{◌%◌}
use Rattle.register_write.proofs.MarkLaws.{marks_set, marks_cleared, high_set, high_cleared}
use Rattle.register_write.proofs.marked_bits.Goals as goal

pub returns-then-v-eq1 : goal.returns-then-v-eq1
returns-then-v-eq1 c =
    let a = c.args in record {
      written = marks_set a.old a.v (search rules) (eq-eqb _ _ c.if-v-eq1.true);
      kept = high_set a.old (a.v % 64) (search rules) (omega arith);
    }

pub returns-else-v-eq1 : goal.returns-else-v-eq1
returns-else-v-eq1 c =
    let a = c.args in record {
      written = marks_cleared a.old a.v (search rules) (ne_eqb _ _ c.if-v-eq1.false);
      kept = high_cleared a.old (a.v % 64) (search rules) (omega arith);
    }
