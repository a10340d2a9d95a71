-- `pack_write::put_index` meets its contract: before turn i the index of the first i profiles has been put. Assumes nothing.
use borrow.Author.Rules.{rules}
use mathlib.Core.Path.{◌≡◌, refl, ap}
use Prim.Native.Nat.{ℕ}
use native.Mathlib.Omega.{arith}
use Rattle.pack.specs.Layout.{index}
use Rattle.pack.specs.Write.{profiles_of}
use Rattle.pack_write.proofs.Laws.{put_both, as_piece, entry_next}
use Rattle.pack_write.proofs.put_index.Goals as goal

pub loop-i-init : goal.loop-i-init
unfolding profiles_of index
loop-i-init c = (search rules, refl, λ bodies. record { bytes = refl; end = search rules })

pub loop-i-preserved : goal.loop-i-preserved
loop-i-preserved c =
    let a = c.args in (
      search rules,
      search rules,
      λ bodies.
          as_piece (entry_next c.loop-i.i a.names.now bodies c.four_bytes.ensures)
          (put_both (c.loop-i.invariant.2 bodies) (put_both c.put-place.ensures c.put-place-in-loop-i.ensures)),
    )

pub returns : goal.returns
returns c =
    let a = c.args in
    let all : c.loop-i.i ≡ a.number = omega arith in
    record {
      value = search rules;
      by_index = λ bodies. as_piece (ap (λ (n : ℕ). index 0 (profiles_of 16 n a.names.now bodies)) all) (c.loop-i.invariant.2 bodies);
    }
