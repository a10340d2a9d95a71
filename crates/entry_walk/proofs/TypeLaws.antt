-- What is made of arrays of bytes is bytes: those held, and those latched.
-- Assumes nothing.
use Prim.Native.Nat.{ℕ, zero, suc, ◌+◌, ◌%◌, ◌<◌}
use mathlib.Core.List.{List, [], ◌∷◌}
use lib.Dec.{eqb}
use Rattle.std.specs.List.{slice_index_or}
use Rattle.bits.specs.Bits.{Bytes}
use Rattle.bits.proofs.Bytes.{byte_at, bytes_take}
use Rattle.machine.specs.State.{Writing, WriteE2, addressing, ready}
use Rattle.machine.specs.WellFormed.{latched_bytes}
use Rattle.machine.proofs.Cases.{either}
use Rattle.machine.proofs.WellFormed.Fifo.{no_bytes}
use Rattle.state.specs.View.{Core, held_from, writing_of, command_of}
use Rattle.state.proofs.StageLaws.{by_stage}

-- Elements that are bytes at every place.
pub each_byte : (xs : List ℕ) → ((k : ℕ) → slice_index_or xs k 0 < 256) → Bytes xs
unfolding Bytes
each_byte [] h = tt
each_byte (x ∷ xs) h = (h 0, each_byte xs (λ k. h (suc k)))

pub held_are_bytes : (slots : List ℕ) (p n : ℕ) → Bytes slots → Bytes (held_from slots p n)
unfolding held_from Bytes
held_are_bytes slots p zero h = tt
held_are_bytes slots p (suc n) h = (byte_at slots (p % 64) h, held_are_bytes slots (p + 1) n h)

pub latched_are_bytes : (k : Core) (latch : List ℕ) → Bytes latch → Bytes (latched_bytes (command_of k latch))
latched_are_bytes k latch h =
    by_stage (λ s c. Bytes (latched_bytes c)) k latch (writing addressing no_bytes) (writing (ready (k.next % 0x200)) no_bytes)
    no_bytes no_bytes no_bytes no_bytes no_bytes no_bytes no_bytes no_bytes no_bytes (λ other. no_bytes)
  where
    writing : (resting : Writing) → Bytes (latched_bytes (WriteE2 resting)) → Bytes (latched_bytes (WriteE2 (writing_of k latch resting)))
    writing resting none = either (λ (w : Writing). Bytes (latched_bytes (WriteE2 w))) (eqb k.left 0) _ _ none (bytes_take k.latched latch h)
