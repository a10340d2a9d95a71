-- `pack_write::put_trailer` meets its contract. Assumes nothing.
use borrow.Author.Rules.{rules}
use mathlib.Core.List.{◌++◌}
use Rattle.bits.specs.Text.{ascii}
use Rattle.pack.specs.Layout.{trailer}
use Rattle.pack_write.proofs.Laws.{put_both, as_piece}
use Rattle.pack_write.proofs.put_trailer.Goals as goal

pub returns : goal.returns
unfolding trailer
returns c =
    let count = c.four_bytes-2.ensures in
    let index_at = c.four_bytes.ensures in (
      search rules,
      as_piece (λ k. index_at k ++ (count k ++ ascii "RC53")) (put_both c.put-number_at.ensures (put_both c.put-mark_at.ensures c.put.ensures)),
    )
