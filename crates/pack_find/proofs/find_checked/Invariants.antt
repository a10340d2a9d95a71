use mathlib.Core.Path.{◌≡◌}
use Prim.Native.Nat.{◌-◌, ◌≤◌}
use Rattle.pack.specs.Read.{count_in}
use Rattle.pack.specs.Find.{halving, halved}
use Rattle.pack_find.proofs.find_checked.Given as goal

abbrev pub invariant-loop-comparisons : goal.invariant-loop-comparisons
invariant-loop-comparisons l = (l.high ≤ count_in l.pack) × (halved l.pack l.name ≡ halving (9 - l.comparisons) l.pack l.name l.low l.high)
