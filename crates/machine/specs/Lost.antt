-- Manual 3.4: how many bytes are lost, by calls on a chip that was started from the shipped image, and of any machine.
-- Assumes nothing.
use Rattle.std.specs.Prelude.{ℕ, ◌+◌, ◌-◌, ◌≤◌, min, List, [], ◌∷◌, ◌++◌, ◌≡◌, length, replicate}
use Rattle.machine.specs.State.{Machine, with_lost_sum}
use Rattle.machine.specs.Fifo.{offered_all, lost_of}
use Rattle.machine.specs.Refusals.{Call, start, host_read, host_write, take_frame, deliver}
use Rattle.machine.specs.Events.{Answer, lost, perform}
use Rattle.machine.specs.Numbers.{after_start, offers}
use Rattle.profile.specs.Shipped.{shipped_image}

-- The calls of an example begin with paging turned off, so that addresses are linear.
abbrev pub on_linear : List Call → Machine
on_linear calls = after_start (host_write 0x00 0x00 ∷ calls)

abbrev pub answered : List Call → Call → Answer
answered calls c = (perform (on_linear calls) c).answer

abbrev pub sum : List Call → ℕ
sum calls = (on_linear calls).lost_sum

-- ReadE2's arguments are held, 128 bytes from 000h, with 61 bytes behind them. Its code makes it run: 3 of the 128 find room.
abbrev pub full_for_reading : List Call
full_for_reading = host_write 0x02 0x00 ∷ host_write 0x02 0x00 ∷ host_write 0x02 0x80 ∷ offers 61

abbrev pub read_e2 : Call
read_e2 = host_write 0x01 0x03

-- 63 bytes are held and a frame is awaited, whose checksum is compared (RxCRCEn). One of the three bytes before the checksum finds room.
abbrev pub full_for_receiving : List Call
full_for_receiving = host_write 0x22 0x08 ∷ (offers 63 ++ (host_write 0x01 0x16 ∷ []))

abbrev pub five_bytes : Call
five_bytes = deliver (replicate 5 0x00) (replicate 5 0) 0

-- One byte too many, and then calls.
abbrev pub overflowed_by : List Call → List Call
overflowed_by calls = offers 65 ++ calls

pub record LostBytes : Type 0 where
  -- the 64th byte is held, the 65th lost
  pub byte_64 : answered (offers 63) (host_write 0x02 0x00) ≡ lost 0
  pub byte_65 : answered (offers 64) (host_write 0x02 0x00) ≡ lost 1
  -- ReadE2 passes its number on by the write that makes it run: that of its code, or of its last argument
  pub read_by_code : answered full_for_reading read_e2 ≡ lost 125
  pub read_by_argument : answered (read_e2 ∷ host_write 0x02 0x00 ∷ host_write 0x02 0x00 ∷ []) (host_write 0x02 0x80) ≡ lost 64
  pub read_forbidden : answered (read_e2 ∷ host_write 0x02 0x00 ∷ host_write 0x02 0x00 ∷ []) (host_write 0x02 0x81) ≡ lost 0
  -- of a frame of five bytes, the last two its checksum, two are lost and not four
  pub frame_with_checksum : answered full_for_receiving five_bytes ≡ lost 2
  -- the sum adds up over calls, and is 0 after a flush and after a start
  pub sums : sum (full_for_reading ++ (read_e2 ∷ host_write 0x02 0x00 ∷ [])) ≡ 126
  pub flushed : sum (overflowed_by (host_write 0x09 0x01 ∷ [])) ≡ 0
  pub started_again : sum (overflowed_by (start shipped_image ∷ [])) ≡ 0
  -- but not after a take, a read, a write to Command, or a start that is refused
  pub taken : sum (overflowed_by (host_write 0x01 0x1A ∷ take_frame (replicate 66 0x00) ∷ [])) ≡ 1
  pub read : sum (overflowed_by (host_read 0x02 ∷ [])) ≡ 1
  pub command_written_lem : sum (overflowed_by (host_write 0x01 0x00 ∷ [])) ≡ 1
  pub start_refused : sum (overflowed_by (start [] ∷ [])) ≡ 1
  -- it stays at 65,535, and the call that passes this answers its whole number
  pub most_answered : (perform (with_lost_sum 65_500 (on_linear full_for_reading)) read_e2).answer ≡ lost 125
  pub most_summed : (perform (with_lost_sum 65_500 (on_linear full_for_reading)) read_e2).next.lost_sum ≡ 65_535
  -- of any machine: lost are those bytes for which there is no room
  pub beyond_room : (bs : List ℕ) (m : Machine) → lost_of bs m ≡ length bs - (64 - length m.held)
  -- and they are added to the sum
  pub added : (bs : List ℕ) (m : Machine) → m.lost_sum ≤ 65_535 → (offered_all bs m).lost_sum ≡ min 65_535 (m.lost_sum + lost_of bs m)
