-- Manual 2.3: what a host reads of ModemState, by accesses to a chip that was started from the shipped image, and of any machine.
-- Assumes nothing.
use Rattle.std.specs.Prelude.{ℕ, ◌/◌, false, List, [], ◌∷◌, ◌++◌, ◌≡◌, replicate}
use Rattle.machine.specs.State.{Machine}
use Rattle.machine.specs.Frames.{sending, receiving}
use Rattle.machine.specs.Registers.{modem_state, primary_status}
use Rattle.machine.specs.Refusals.{Call, host_read, host_write, take_frame, deliver}
use Rattle.machine.specs.Events.{Answer, perform, byte}
use Rattle.machine.specs.Numbers.{after_start}

-- PrimaryStatus after calls on a started chip, whose paging is turned off first. Without ModemState it is 05h throughout: Err by KeyErr, and LoAlert.
abbrev pub status : List Call → Answer
status calls = (perform (after_start (host_write 0x00 0x00 ∷ calls)) (host_read 0x03)).answer

-- A byte is written to FIFOData, and then a code to Command.
abbrev pub byte_and : ℕ → List Call
byte_and code = host_write 0x02 0x26 ∷ host_write 0x01 code ∷ []

abbrev pub take : Call
take = take_frame (replicate 66 0x00)

pub record ModemStates : Type 0 where
  -- Transceive sends, awaits the answer once its frame is taken, and is over when a frame came
  pub transceive : status (byte_and 0x1E) ≡ byte 0x25
  pub transceive_taken : status (byte_and 0x1E ++ (take ∷ [])) ≡ byte 0x65
  pub transceive_over : status (byte_and 0x1E ++ (take ∷ deliver (0x04 ∷ []) (0 ∷ []) 0 ∷ [])) ≡ byte 0x05
  -- nothing is left to send where the host has read the last byte out, or flushed it; with another byte there is again
  pub transceive_read_out : status (byte_and 0x1E ++ (host_read 0x02 ∷ [])) ≡ byte 0x05
  pub transceive_flushed : status (byte_and 0x1E ++ (host_write 0x09 0x01 ∷ [])) ≡ byte 0x05
  pub transceive_again : status (byte_and 0x1E ++ (host_read 0x02 ∷ host_write 0x02 0x52 ∷ [])) ≡ byte 0x25
  -- Transmit sends a byte that came after it, and is over when its frame is taken
  pub transmit_empty : status (host_write 0x01 0x1A ∷ []) ≡ byte 0x05
  pub transmit : status (host_write 0x01 0x1A ∷ host_write 0x02 0x26 ∷ []) ≡ byte 0x25
  pub transmit_taken : status (byte_and 0x1A ++ (take ∷ [])) ≡ byte 0x05
  -- Receive awaits a frame with nothing held and with a byte, and so does a Transceive that has sent
  pub receive_empty : status (host_write 0x01 0x16 ∷ []) ≡ byte 0x65
  pub receive : status (byte_and 0x16) ≡ byte 0x65
  pub transceive_taken_and_written : status (byte_and 0x1E ++ (take ∷ host_write 0x02 0x52 ∷ [])) ≡ byte 0x65
  -- bits 7-4 are ModemState's code, which is 0 under every command that neither sends nor receives
  pub place : (m : Machine) → primary_status m / 16 ≡ modem_state m
  pub others : (m : Machine) → sending m.command ≡ false → receiving m.command ≡ false → primary_status m / 16 ≡ 0
