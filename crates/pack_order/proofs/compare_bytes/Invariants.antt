use Rattle.std.proofs.Common.{◌≡◌, length, drop}
use Rattle.pack_order.specs.Order.{compared}
use Rattle.pack_order.proofs.compare_bytes.Given as goal

abbrev pub invariant-loop-x : goal.invariant-loop-x
invariant-loop-x l = compared (drop (length l.yielded) l.a) (drop (length l.yielded) l.b) ≡ compared l.a l.b
