-- Manual 10: which call is refused with which number. A call's tests come one after the other, 7 ahead of all others and 4 behind them; of a start
-- only the image is judged, its length first. A frame is refused while a power mode has hold. The number 0 stands for no refusal, and 3 is never given: an
-- advance is by any number of clocks.
-- Assumes nothing.
use Rattle.std.specs.Prelude.{ℕ, ◌<◌, Bool, true, cond, not, ◌&&◌, ◌||◌, List, [], ◌∷◌, ltb, leb, eqb, length}
use Rattle.bits.specs.Bits.{Bytes}
use Rattle.edition.specs.Edition.{of_either}
use Rattle.machine.specs.State.{Machine}
use Rattle.machine.specs.Frames.{sending, receiving}
use Rattle.machine.specs.Power.{stands_still}
use Rattle.machine.specs.WellFormed.{well_formed}

-- A call: one of the six events (manual 9), with all that it is given but the chip.
pub data Call : Type 0 where
  -- from an EEPROM image
  start : List ℕ → Call
  -- of an address
  host_read : ℕ → Call
  -- of an address and a byte
  host_write : ℕ → ℕ → Call
  -- by clocks
  advance : ℕ → Call
  -- into a buffer
  take_frame : List ℕ → Call
  -- of bytes, their parity bits, and the last-bit count
  deliver : List ℕ → List ℕ → ℕ → Call

unfoldable pub all_bits : List ℕ → Bool
all_bits [] = true
all_bits (p ∷ ps) = leb p 1 && all_bits ps

-- What a delivery may bring; anything else is refused with 5 (manual 9.6): 1 to 64 bytes, as many parity values of 0 or 1, and at most 7 last bits.
abbrev pub frame_formed : List ℕ → List ℕ → ℕ → Bool
frame_formed bytes parities last_bits =
    leb 1 (length bytes) && (leb (length bytes) 64 && (eqb (length parities) (length bytes) && (all_bits parities && leb last_bits 7)))

-- Tests in turn: the number where the test holds, else what follows.
abbrev pub refuse_if : Bool → ℕ → ℕ → ℕ
refuse_if test number else = cond test number else

unfoldable pub refusal : Machine → Call → ℕ
refusal m (start image) = refuse_if (not (eqb (length image) 512)) 2 (refuse_if (not (of_either image)) 22 0)
refusal m (host_read address) = refuse_if (not (well_formed m)) 7 (refuse_if (ltb 63 address) 1 0)
refusal m (host_write address v) = refuse_if (not (well_formed m)) 7 (refuse_if (ltb 63 address) 1 0)
refusal m (advance clocks) = refuse_if (not (well_formed m)) 7 0
refusal m (take_frame buffer) =
    refuse_if (not (well_formed m)) 7
    (refuse_if (ltb (length buffer) 66) 6
    (refuse_if (not (sending m.command) || eqb (length m.held) 0) 4
    (refuse_if (stands_still m) 4 0)))
refusal m (deliver bytes parities last_bits) =
    refuse_if (not (well_formed m)) 7
    (refuse_if (not (frame_formed bytes parities last_bits)) 5
    (refuse_if (not (receiving m.command)) 4
    (refuse_if (stands_still m) 4 0)))

-- A call as a program makes it: its bytes are bytes.
abbrev pub ByteCall : Call → Type 0
ByteCall (start image) = Bytes image
ByteCall (host_read address) = Unit {0}
ByteCall (host_write address v) = v < 256
ByteCall (advance clocks) = Unit {0}
ByteCall (take_frame buffer) = Bytes buffer
ByteCall (deliver bytes parities last_bits) = Bytes bytes
