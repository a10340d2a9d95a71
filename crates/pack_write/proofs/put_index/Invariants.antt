use mathlib.Core.Path.{◌≡◌}
use mathlib.Core.List.{List}
use Prim.Native.Nat.{ℕ, ◌+◌, ◌*◌}
use lib.ListN.{length}
use Rattle.pack.specs.Layout.{index}
use Rattle.pack.specs.Write.{profiles_of}
use Rattle.pack_write.specs.Puts.{Puts}
use Rattle.pack_write.proofs.put_index.Given as goal

abbrev pub invariant-loop-i : goal.invariant-loop-i
invariant-loop-i l = (l.place ≡ l.at + 20 * l.i) × (length l.buffer ≡ length l.initial.buffer)
    × ((bodies : List ℕ) → Puts (index 0 (profiles_of 16 l.i l.names bodies)) l.initial.buffer l.at l.buffer l.place)
