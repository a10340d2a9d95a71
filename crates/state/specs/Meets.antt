-- What every event promises, on a chip lent, by value or in place: one relation between the chip, the call, the next chip, the number answered and
-- the buffer lent. It says, for every input: refused, so the number, and chip and buffer exactly as before; else the answer, the next machine
-- and every byte lent are what the definition gives, and the next chip is well formed again. What no definition decides is free where a call is
-- accepted, and as before where it is refused: ring positions, slots beyond the held bytes, latch bytes beyond the count, the latched count where
-- nothing is programmed, WriteE2's next address where it has none (below 200h), bit 6 of its stage while it programs, and the elements that are kept
-- for later fields.
-- Assumes nothing.
use Rattle.std.specs.Prelude.{◌≡◌, ℕ, suc, ◌+◌, ◌*◌, true, cond, List}
use Rattle.machine.specs.WellFormed.{Sized}
use Rattle.machine.specs.Refusals.{Call, start, host_read, host_write, advance, take_frame, deliver, refusal}
use Rattle.machine.specs.Events.{Answer, refused, done, lost, byte, frame, accepted, buffer_of}
use Rattle.state.specs.View.{view}
use Rattle.state.specs.Formed.{chip_formed}
use Rattle.state.specs.Turns.{Sizes}
use Rattle.state.specs.declared.Chip.{Chip}

-- The number that stands for an answer (manual 9.8): bits 7-0 the refusal, 0 for none; bits 15-8 the byte read or the number of bytes written; bits
-- 23-16 the last bits; bits 31-24 the number of bytes lost. A call's own kind says which of these it has.
abbrev pub coded : Answer → ℕ
coded (refused n) = n
coded done = 0
coded (lost n) = 0x100_0000 * n
coded (byte b) = 0x100 * b
coded (frame count last_bits) = 0x100 * count + 0x1_0000 * last_bits

-- The number that a call on a chip is refused with, 0 for none: 7 ahead of all others, but for a start, which may find any chip (manual 10.2).
unfoldable pub chip_refusal : Chip → Call → ℕ
chip_refusal c (start image) = refusal (view c) (start image)
chip_refusal c (host_read address) = cond (chip_formed c) (refusal (view c) (host_read address)) 7
chip_refusal c (host_write address v) = cond (chip_formed c) (refusal (view c) (host_write address v)) 7
chip_refusal c (advance clocks) = cond (chip_formed c) (refusal (view c) (advance clocks)) 7
chip_refusal c (take_frame buffer) = cond (chip_formed c) (refusal (view c) (take_frame buffer)) 7
chip_refusal c (deliver bytes parities last_bits) = cond (chip_formed c) (refusal (view c) (deliver bytes parities last_bits)) 7

-- Every call.
pub record Meets (c : Chip) (call : Call) (next : Chip) (answer : ℕ) (buffer : List ℕ) : Type 0 where
  -- a refused call: its number, and nothing has changed
  pub refuses : (n : ℕ) → chip_refusal c call ≡ suc n → (answer ≡ coded (refused (suc n))) × (next ≡ c) × (buffer ≡ buffer_of call)
  -- every other call
  pub accepts :
      chip_refusal c call ≡ 0 →
      (answer ≡ coded (accepted (view c) call).answer) × (view next ≡ (accepted (view c) call).next) × (buffer ≡ (accepted (view c) call).buffer) × (chip_formed next ≡ true)

-- What every chip is by the types of its arrays: they have their lengths, and bytes are bytes. It is no part of refusal 7.
pub record Whole (c : Chip) : Type 0 where
  pub sizes : Sizes c
  pub sized : Sized (view c)

-- What an event on a chip lent promises. A contract doesn't see how long a lent array is, so this takes it from the caller, and says it of the
-- next chip too. A function that has the chip by value knows it by the type, and promises `Meets` with nothing before it.
abbrev pub Promises : Chip → Call → Chip → ℕ → List ℕ → Type 0
Promises c call next answer buffer = Whole c → Meets c call next answer buffer × Whole next
