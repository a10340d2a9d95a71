use mathlib.Core.Path.{◌≡◌}
use Prim.Native.Nat.{◌-◌, ◌*◌}
use lib.ListN.{drop}
use Rattle.pack_read.specs.Offsets.{offsets_from}
use Rattle.pack_read.proofs.has_offsets.Given as goal

abbrev pub invariant-loop-i : goal.invariant-loop-i
invariant-loop-i l = offsets_from 0 l.number l.index ≡ offsets_from (32 * l.i) (l.number - l.i) (drop (20 * l.i) l.index)
