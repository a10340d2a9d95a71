use Rattle.std.proofs.Common.{◌≡◌, ℕ, length}
use mir.Syntax.{w8}
use mir.Val.{Fits}
use lib.ListN.{get_or}
use Rattle.pack_order.specs.Order.{compared}
use Rattle.pack_order.proofs.compare.Given as goal

abbrev pub invariant-loop-x : goal.invariant-loop-x
invariant-loop-x l =
    (compared l.left l.right ≡ compared l.a l.b) × ((i : ℕ) → Fits w8 (get_or l.left i 0)) × ((i : ℕ) → Fits w8 (get_or l.right i 0))

abbrev pub decreases-loop-x : goal.decreases-loop-x
decreases-loop-x l = length l.left
