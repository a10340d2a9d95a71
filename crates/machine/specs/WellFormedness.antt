-- What holds of every event of the machine: a well-formed machine stays well formed, and what a refusal and a plain read leave alone.
-- Assumes nothing.
use Rattle.std.specs.Prelude.{ℕ, suc, ◌≤◌, ◌≡◌, true, false, List, [], ◌∷◌, eqb, length}
use Rattle.bits.specs.Bits.{Bytes}
use Rattle.edition.specs.Edition.{of_either}
use Rattle.machine.specs.State.{Machine}
use Rattle.machine.specs.WellFormed.{well_formed, Sized}
use Rattle.machine.specs.Registers.{mapped}
use Rattle.machine.specs.Refusals.{Call, host_read, refusal, ByteCall}
use Rattle.machine.specs.Events.{started, perform, after_calls, buffer_of, refused}

-- Every call of a list is one that a program can make: its bytes are bytes.
unfoldable pub EachByteCall : List Call → Type 0
EachByteCall [] = Unit {0}
EachByteCall (c ∷ cs) = ByteCall c × EachByteCall cs

-- What an event keeps.
pub record Formed (m : Machine) : Type 0 where
  -- the machine is well formed, as refusal 7 judges it
  pub well : well_formed m ≡ true
  -- its bytes are bytes, and its memories have their sizes
  pub sized : Sized m

pub record WellFormedness : Type 0 where
  -- a start, from an image that it does not refuse, gives a well-formed machine
  pub starts : (image : List ℕ) → Bytes image → length image ≡ 512 → of_either image ≡ true → Formed (started image)
  -- every call leads from a well-formed machine to a well-formed one, refused or not
  pub kept : (m : Machine) (c : Call) → ByteCall c → Formed m → Formed (perform m c).next
  -- after every list of calls
  pub always : (m : Machine) (cs : List Call) → EachByteCall cs → Formed m → Formed (after_calls m cs)
  -- a refused call changes neither the machine nor the buffer, and answers its number
  pub refused_changes_nothing : (m : Machine) (c : Call) (n : ℕ) → refusal m c ≡ suc n →
      ((perform m c).next ≡ m) × ((perform m c).buffer ≡ buffer_of c) × ((perform m c).answer ≡ refused (suc n))
  -- a read of another register than FIFOData has no effect
  pub plain_read : (m : Machine) (address : ℕ) → eqb (mapped m.page address) 0x02 ≡ false → (perform m (host_read address)).next ≡ m
  -- a well-formed machine's FIFO holds at most 64 bytes
  pub held_at_most_64 : (m : Machine) → well_formed m ≡ true → length m.held ≤ 64
