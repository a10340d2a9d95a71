-- `pack_write::put` meets its contract. Assumes nothing.
use borrow.Author.Rules.{rules}
use borrow.Rule.Slice.PartMut.{put_mid}
use mathlib.Core.Path.{ap, ◌∙◌}
use Prim.Native.Nat.{◌+◌, ◌-◌}
use native.Mathlib.Omega.{arith}
use lib.ListN.{length}
use Rattle.pack_write.proofs.Laws.{stored}
use Rattle.pack_write.proofs.put.Goals as goal

pub returns : goal.returns
returns c =
    let a = c.args in
    let buffer = a.buffer.now in
    record {
      bytes = ap (put_mid a.at (a.at + length a.piece.now - a.at) buffer) c.copy_from_slice.ensures.after ∙ stored buffer a.at a.piece.now (omega arith);
      end = search rules;
    }
