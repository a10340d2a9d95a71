-- The FIFO stays within 64 bytes: when bytes are offered, taken and flushed.
-- Assumes nothing.
use Prim.Native.Nat.{ℕ, ◌≤◌, ◌<◌}
use mathlib.Core.Path.{refl}
use mathlib.Core.List.{List, [], ◌∷◌, ◌++◌}
use native.Mathlib.Omega.{arith}
use lib.Dec.{ltb}
use lib.ListN.{length, drop, length-append, length-drop}
use borrow.Author.Tests.{ltb-true}
use Rattle.bits.specs.Bits.{Bytes}
use Rattle.bits.proofs.Bytes.{bytes_append, bytes_drop}
use Rattle.machine.specs.State.{Machine, Idle, with_held}
use Rattle.machine.specs.Fifo.{offered, offered_all, rest_of}
use Rattle.machine.specs.Commands.{taken, ended}
use Rattle.machine.proofs.Cases.{by_cond}
use Rattle.machine.proofs.WellFormed.Parts.{Almost, Rests, Good, new_held, new_command}

-- No byte at all.
pub no_bytes : Bytes []
unfolding Bytes
no_bytes = tt

-- All bytes leave, and the first n.
pub emptied : (m : Machine) → Almost m → Almost (with_held [] m)
emptied m a = new_held a [] (omega arith) no_bytes

pub taken_almost : (n : ℕ) (m : Machine) → Almost m → Almost (taken n m)
taken_almost n m a = new_held a (drop n m.held) (simp length-drop (omega (arith, a.held.fits))) (bytes_drop n m.held a.held.bytes)

-- One byte is offered, and bytes in order.
pub offered_almost : (b : ℕ) (m : Machine) → b < 256 → Almost m → Almost (offered b m)
unfolding offered Bytes
offered_almost b m small a =
    let bytes = bytes_append m.held (b ∷ []) a.held.bytes (small, tt) in
    by_cond Almost (ltb (length m.held) 64) _ _
    (λ e. let room = ltb-true (length m.held) 64 e in new_held a (m.held ++ b ∷ []) (simp length-append (omega (arith, room))) bytes)
    (λ e. a)

pub all_offered : (bs : List ℕ) (m : Machine) → Bytes bs → Almost m → Almost (offered_all bs m)
unfolding offered_all Bytes
all_offered [] m w a = a
all_offered (b ∷ bs) m (h, hs) a = all_offered bs (offered b m) hs (offered_almost b m h a)

-- A command that ends leaves its waiting bytes to nobody.
pub ended_good : (m : Machine) → Almost m → Good (ended m)
ended_good m a = (new_command a Idle refl no_bytes, a.held.fits)

-- A byte is read: fewer wait.
pub read_good : (m : Machine) → Good m → Good (with_held (rest_of m.held) m)
unfolding Bytes
read_good m (a, r) = go m.held a.held.fits a.held.bytes r
  where
    go : (bs : List ℕ) → length bs ≤ 64 → Bytes bs → Rests (with_held bs m) → Good (with_held (rest_of bs) m)
    go [] h w k = (new_held a [] h w, k)
    go (b ∷ bs) h (w, ws) k = (new_held a bs (omega arith) ws, omega arith)
