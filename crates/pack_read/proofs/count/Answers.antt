-- `pack_read::count` meets its contract. Assumes nothing.
use borrow.Author.Rules.{rules}
use borrow.Author.Tests.{le-leb, lt-leb, eq-eqb, ne_eqb}
use mathlib.Core.Path.{sym}
use Prim.Native.Nat.{◌-◌, ◌/◌, ◌<◌, ◌≤◌}
use lib.ListN.{length}
use native.Mathlib.Omega.{arith}
use Rattle.pack.specs.Read.{count_in}
use Rattle.pack.proofs.Count.{count_short}
use Rattle.pack_read.proofs.count.Goals as goal

pub returns-then-pack-lt12 : goal.returns-then-pack-lt12
returns-then-pack-lt12 c = sym (count_short c.args.pack.now (search rules))

pub returns-then-number-gt-MOST : goal.returns-then-number-gt-MOST
unfolding count_in
returns-then-number-gt-MOST c =
    let many : 256 < (length c.args.pack.now - 12) / 52 = omega arith in
    sym (simp (lt-leb _ _ many))

pub returns-then-pack-number : goal.returns-then-pack-number
unfolding count_in
returns-then-pack-number c =
    let few : (length c.args.pack.now - 12) / 52 ≤ 256 = omega arith in
    sym (simp (le-leb _ _ few, ne_eqb _ _ c.if-pack-number.true))

pub returns : goal.returns
unfolding count_in
returns c =
    let few : (length c.args.pack.now - 12) / 52 ≤ 256 = omega arith in
    sym (simp (le-leb _ _ few, eq-eqb _ _ c.if-pack-number.false))
