-- The six events (manual 9), each with its answer, the next machine and the buffer lent.
-- Assumes nothing.
use Rattle.std.specs.Prelude.{ℕ, zero, suc, ◌+◌, ◌-◌, ◌%◌, Bool, true, false, cond, List, [], ◌∷◌, ◌++◌, eqb, leb, length, drop, replicate}
use Rattle.edition.specs.Edition.{edition_of}
use Rattle.key.specs.Key.{empty_key}
use Rattle.machine.specs.State.{Machine, Command, Interrupts, Idle, WriteE2, off, ready, programming, while_programming, with_command, with_held, with_eeprom, with_modes}
use Rattle.machine.specs.Refusals.{Call, start, host_read, host_write, advance, take_frame, deliver, refusal}
use Rattle.machine.specs.Registers.{mapped, register_read, register_written, lost_at_register}
use Rattle.machine.specs.Fifo.{rest_of, alerted}
use Rattle.machine.specs.Timer.{stopped_at, timer_clock}
use Rattle.machine.specs.Memory.{stored_from, over_registers, bytes_from}
use Rattle.machine.specs.Commands.{raised_tx, settled, lost_settling}
use Rattle.machine.specs.Frames.{frame_sent, tx_last_bits, sent, received, lost_receiving}
use Rattle.machine.specs.Power.{modes_clocked, stands_still}

abbrev pub no_interrupts : Interrupts
no_interrupts = record { timer = false; tx = false; rx = false; idle = false; hi_alert = false; lo_alert = false }

-- A start (manual 9.1): all is 0 or empty but Page, which is 80h, KeyErr, which is set, and registers 10h-2Fh, which are loaded from the image's bytes
-- 010h-02Fh. The edition is the image's.
unfoldable pub started : List ℕ → Machine
started image =
    record {
      page = 0x80;
      command = Idle;
      held = [];
      lost_sum = 0;
      status =
          record {
            enables = no_interrupts;
            requests = no_interrupts;
            errors = record { key_err = true; access_err = false; fifo_ovfl = false; crc_err = false; parity_err = false };
            modes = record { stand_by = off; power_down = off };
            rx_last_bits = 0;
          };
      timer = stopped_at 0;
      checksum = record { register = 0; mode = 0 };
      key = record { loaded = false; bytes = empty_key };
      bit_framing = 0;
      registers = over_registers 0 (replicate 32 0) (bytes_from image 0x10 32);
      eeprom = image;
      edition = edition_of image;
    }

-- A host write changes its register, and the active command then does what it can.
unfoldable pub written : ℕ → ℕ → Machine → Machine
written address v m = alerted m (settled (register_written (mapped m.page address) v m))

-- How many bytes it loses (manual 3.4): the one for FIFOData, and those that ReadE2 then offers.
unfoldable pub lost_writing : ℕ → ℕ → Machine → ℕ
lost_writing address v m = let r = mapped m.page address in lost_at_register r m + lost_settling (register_written r v m)

-- A host read of FIFOData removes the byte that it answers; no other read changes anything.
unfoldable pub read_byte : ℕ → Machine → ℕ
read_byte address m = register_read (mapped m.page address) m

unfoldable pub after_read : ℕ → Machine → Machine
after_read address m = cond (eqb (mapped m.page address) 0x02) (alerted m (with_held (rest_of m.held) m)) m

-- The latched bytes are in EEPROM, and the next byte goes behind them, at 000h after 1FFh (manual 6.2).
abbrev pub batch_stored : ℕ → List ℕ → Machine → Machine
batch_stored a bs m = with_command (WriteE2 (ready ((a + length bs) % 0x200))) (with_eeprom (stored_from m.eeprom a bs) m)

-- The end of a programming (manual 7.2): with no byte waiting Tx is requested; waiting bytes are latched in the same clock.
abbrev pub programmed : ℕ → List ℕ → Machine → Machine
programmed a bs m = cond (eqb (length m.held) 0) (raised_tx (batch_stored a bs m)) (settled (batch_stored a bs m))

-- One clock of a programming: it has one clock less to go, or ends.
abbrev pub programming_clocked : ℕ → List ℕ → ℕ → Machine → Machine
programming_clocked a bs left m = cond (leb left 1) (programmed a bs m) (with_command (WriteE2 (programming a bs (left - 1))) m)

-- One clock of the active command, which does nothing but program by clocks.
abbrev pub command_clocked : Command → Machine → Machine
command_clocked c m = while_programming programming_clocked (λ n. n) c m

-- Whether the next clock that reaches a programming is its last one; and what a clock does that reaches timer and programming.
abbrev pub ends_programming : Command → Bool
ends_programming c = while_programming (λ a bs left. leb left 1) false c

unfoldable pub reached : Machine → Machine
reached m = command_clocked m.command (timer_clock m)

-- One clock (manual 9.10): it reaches timer and programming unless a power mode has hold as it begins; leavings go on by every clock.
unfoldable pub clock : Machine → Machine
clock m =
    cond (stands_still m)
    (with_modes (modes_clocked false m.status.modes) m)
    (with_modes (modes_clocked (ends_programming m.command) m.status.modes) (reached m))

unfoldable pub clocks : ℕ → Machine → Machine
clocks zero m = m
clocks (suc n) m = clocks n (clock m)

unfoldable pub advanced : ℕ → Machine → Machine
advanced n m = alerted m (clocks n m)

-- A take (manual 8.1): nothing is held any more, and the buffer begins with the frame; what stood behind it there stays.
unfoldable pub taken : Machine → Machine
taken m = alerted m (sent m)

unfoldable pub buffer_taken : List ℕ → Machine → List ℕ
buffer_taken buffer m = frame_sent m ++ drop (length (frame_sent m)) buffer

unfoldable pub delivered : List ℕ → List ℕ → ℕ → Machine → Machine
delivered bytes parities last_bits m = alerted m (received bytes parities last_bits m)

-- What a call answers.
pub data Answer : Type 0 where
  refused : ℕ → Answer
  done : Answer
  -- done, and how many bytes the FIFO lost in the call
  lost : ℕ → Answer
  byte : ℕ → Answer
  -- how many bytes the frame has, and how many bits of its last byte are sent
  frame : ℕ → ℕ → Answer

-- What a call leaves: its answer, the next machine and the buffer lent (empty where none is).
pub record Outcome : Type 0 where
  pub answer : Answer
  pub next : Machine
  pub buffer : List ℕ

abbrev pub buffer_of : Call → List ℕ
buffer_of (start image) = []
buffer_of (host_read address) = []
buffer_of (host_write address v) = []
buffer_of (advance n) = []
buffer_of (take_frame buffer) = buffer
buffer_of (deliver bytes parities last_bits) = []

-- A call that is not refused.
abbrev pub accepted : Machine → Call → Outcome
accepted m (start image) = record { answer = done; next = started image; buffer = [] }
accepted m (host_read address) = record { answer = byte (read_byte address m); next = after_read address m; buffer = [] }
accepted m (host_write address v) = record { answer = lost (lost_writing address v m); next = written address v m; buffer = [] }
accepted m (advance n) = record { answer = done; next = advanced n m; buffer = [] }
accepted m (take_frame buffer) = record { answer = frame (length (frame_sent m)) (tx_last_bits m); next = taken m; buffer = buffer_taken buffer m }
accepted m (deliver bytes parities last_bits) = record { answer = lost (lost_receiving bytes last_bits m); next = delivered bytes parities last_bits m; buffer = [] }

-- Any call: by a refused one nothing changes, and its answer is the refusal's number (manual 10.1).
unfoldable pub perform : Machine → Call → Outcome
perform m c = cond (eqb (refusal m c) 0) (accepted m c) (record { answer = refused (refusal m c); next = m; buffer = buffer_of c })

-- A list of calls, each getting the machine that the one before left.
unfoldable pub after_calls : Machine → List Call → Machine
after_calls m [] = m
after_calls m (c ∷ cs) = after_calls (perform m c).next cs
