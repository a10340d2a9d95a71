-- Which machine a chip's arrays (manual 13.1) are: the element that each field is, the FIFO's positions and slots, and the stage byte.
-- Assumes nothing.
use Rattle.std.specs.Prelude.{ℕ, zero, suc, ◌+◌, ◌-◌, ◌%◌, Bool, cond, not, ◌&&◌, ◌||◌, List, [], ◌∷◌, take, ◌==◌, nat_lt, slice_index}
use Rattle.bits.specs.Bits.{bit_set}
use Rattle.edition.specs.Edition.{numbered}
use Rattle.machine.specs.State as m
use Rattle.machine.specs.State.{Machine, Command, Mode, with_requests, with_errors}
use Rattle.machine.specs.State.{Idle, WriteE2, ReadE2, LoadConfig, LoadKeyE2, LoadKey, CalcCRC, Transmit, Receive, TransceiveSending, TransceiveReceiving, addressing, ready, programming, off, waiting, in_hold, leaving}
use Rattle.state.specs.declared.Chip.{Chip}

-- The fields by name.
pub record Core : Type 0 where
  pub phase : ℕ
  pub left : ℕ
  pub crc_register : ℕ
  pub next : ℕ
  pub lost_sum : ℕ
  pub stand_by : ℕ
  pub power_down : ℕ
  pub page : ℕ
  pub control : ℕ
  pub key_loaded : ℕ
  pub rx_last_bits : ℕ
  pub enables : ℕ
  pub crc_mode : ℕ
  pub requests : ℕ
  pub errors : ℕ
  pub running : ℕ
  pub prescaler : ℕ
  pub latched : ℕ
  pub edition : ℕ
  pub stage : ℕ
  pub read : ℕ
  pub write : ℕ
  pub value : ℕ
  pub bit_framing : ℕ

-- Which element of which array each field is.
abbrev pub core_by : (ℕ → ℕ) → (ℕ → ℕ) → (ℕ → ℕ) → Core
core_by clock number byte =
    record {
      phase = clock 0;
      left = clock 1;
      crc_register = number 0;
      next = number 1;
      lost_sum = number 2;
      stand_by = number 4;
      power_down = number 5;
      page = byte 0;
      control = byte 1;
      key_loaded = byte 2;
      rx_last_bits = byte 3;
      enables = byte 4;
      crc_mode = byte 5;
      requests = byte 6;
      errors = byte 7;
      running = byte 8;
      prescaler = byte 9;
      latched = byte 10;
      edition = byte 11;
      stage = byte 12;
      read = byte 13;
      write = byte 14;
      value = byte 15;
      bit_framing = byte 16;
    }

abbrev pub at : List ℕ → ℕ → ℕ
at l k = slice_index l k

abbrev pub core_of : List ℕ → List ℕ → List ℕ → Core
core_of clocks numbers state = core_by (at clocks) (at numbers) (at state)

abbrev pub core : Chip → Core
core c = core_of c.clocks c.numbers c.state

-- How many bytes are held: from the read position on to the write position, both counted modulo 256 (manual 13.1).
abbrev pub held_count : ℕ → ℕ → ℕ
held_count read write = (write + 256 - read) % 256

-- So many bytes from a position on, slot by remainder 64.
unfoldable pub held_from : List ℕ → ℕ → ℕ → List ℕ
held_from slots position zero = []
held_from slots position (suc n) = slice_index slots (position % 64) ∷ held_from slots (position + 1) n

abbrev pub held_of : ℕ → ℕ → List ℕ → List ℕ
held_of read write slots = held_from slots read (held_count read write)

-- A flag's byte.
abbrev pub is_set : ℕ → Bool
is_set x = x == 1

-- InterruptEn, InterruptRq and ErrorFlag by their bits.
abbrev pub interrupts_of : ℕ → m.Interrupts
interrupts_of x = record { timer = bit_set x 5; tx = bit_set x 4; rx = bit_set x 3; idle = bit_set x 2; hi_alert = bit_set x 1; lo_alert = bit_set x 0 }

abbrev pub errors_of : ℕ → m.Errors
errors_of x = record { key_err = bit_set x 6; access_err = bit_set x 5; fifo_ovfl = bit_set x 4; crc_err = bit_set x 3; parity_err = bit_set x 1 }

-- A power mode, from its bit of Control and its number (manual 13.1): bit 15 is set while the mode has hold, and bits 14-0 are the clocks that its leaving has
-- to go.
abbrev pub mode_of : Bool → ℕ → Mode
mode_of bit number = cond bit (cond (nat_lt number 0x8000) waiting (cond (number == 0x8000) in_hold (leaving (number - 0x8000)))) off

-- Where the latched bytes go: they end where the next byte goes, and after 1FFh comes 000h.
abbrev pub batch_start : ℕ → ℕ → ℕ
batch_start next latched = (next + 0x200 - latched) % 0x200

-- WriteE2 programs while clocks are left; else it is as its stage says.
abbrev pub writing_of : Core → List ℕ → m.Writing → m.Writing
writing_of k latch resting = cond (k.left == 0) resting (programming (batch_start k.next k.latched) (take k.latched latch) k.left)

-- The command, by the stage: its code in bits 5-0, and in bits 7-6 how far it is. WriteE2 has its address with bit 6 (41h); Transmit and Transceive
-- send with bit 6, Receive and Transceive receive with bit 7. A stage that is none of these is malformed.
abbrev pub command_of : Core → List ℕ → Command
command_of k latch =
    cond (k.stage == 0x01) (WriteE2 (writing_of k latch addressing))
    (cond (k.stage == 0x41) (WriteE2 (writing_of k latch (ready (k.next % 0x200))))
    (cond (k.stage == 0x03) ReadE2
    (cond (k.stage == 0x07) LoadConfig
    (cond (k.stage == 0x0B) LoadKeyE2
    (cond (k.stage == 0x12) CalcCRC
    (cond (k.stage == 0x19) LoadKey
    (cond (k.stage == 0x5A) Transmit
    (cond (k.stage == 0x96) Receive
    (cond (k.stage == 0x5E) TransceiveSending
    (cond (k.stage == 0x9E) TransceiveReceiving
    Idle))))))))))

unfoldable pub view_of : Core → Chip → Machine
view_of k c =
    record {
      page = k.page;
      command = command_of k c.latch;
      held = held_of k.read k.write c.slots;
      lost_sum = k.lost_sum;
      status =
          record {
            enables = interrupts_of k.enables;
            requests = interrupts_of k.requests;
            errors = errors_of k.errors;
            modes = record { stand_by = mode_of (bit_set k.control 5) k.stand_by; power_down = mode_of (bit_set k.control 4) k.power_down };
            rx_last_bits = k.rx_last_bits;
          };
      timer = record { running = is_set k.running; value = k.value; prescaler = k.prescaler; phase = k.phase };
      checksum = record { register = k.crc_register; mode = k.crc_mode };
      key = record { loaded = is_set k.key_loaded; bytes = c.key };
      bit_framing = k.bit_framing;
      registers = c.registers;
      eeprom = c.eeprom;
      edition = numbered k.edition;
    }

abbrev pub view : Chip → Machine
view c = view_of (core c) c

-- A chip with one array anew.
abbrev pub with_clocks : List ℕ → Chip → Chip
with_clocks x c = record { clocks = x; numbers = c.numbers; state = c.state; registers = c.registers; slots = c.slots; latch = c.latch; key = c.key; eeprom = c.eeprom }

abbrev pub with_numbers : List ℕ → Chip → Chip
with_numbers x c = record { clocks = c.clocks; numbers = x; state = c.state; registers = c.registers; slots = c.slots; latch = c.latch; key = c.key; eeprom = c.eeprom }

abbrev pub with_state : List ℕ → Chip → Chip
with_state x c = record { clocks = c.clocks; numbers = c.numbers; state = x; registers = c.registers; slots = c.slots; latch = c.latch; key = c.key; eeprom = c.eeprom }

abbrev pub with_registers : List ℕ → Chip → Chip
with_registers x c = record { clocks = c.clocks; numbers = c.numbers; state = c.state; registers = x; slots = c.slots; latch = c.latch; key = c.key; eeprom = c.eeprom }

abbrev pub with_slots : List ℕ → Chip → Chip
with_slots x c = record { clocks = c.clocks; numbers = c.numbers; state = c.state; registers = c.registers; slots = x; latch = c.latch; key = c.key; eeprom = c.eeprom }

abbrev pub with_latch : List ℕ → Chip → Chip
with_latch x c = record { clocks = c.clocks; numbers = c.numbers; state = c.state; registers = c.registers; slots = c.slots; latch = x; key = c.key; eeprom = c.eeprom }

abbrev pub with_key : List ℕ → Chip → Chip
with_key x c = record { clocks = c.clocks; numbers = c.numbers; state = c.state; registers = c.registers; slots = c.slots; latch = c.latch; key = x; eeprom = c.eeprom }

abbrev pub with_eeprom : List ℕ → Chip → Chip
with_eeprom x c = record { clocks = c.clocks; numbers = c.numbers; state = c.state; registers = c.registers; slots = c.slots; latch = c.latch; key = c.key; eeprom = x }

-- Requests, and error flags, of a mask are set; error flags of a mask are cleared.
abbrev pub raised : ℕ → Machine → Machine
raised mask m =
    with_requests
    (record {
      timer = bit_set mask 5 || m.status.requests.timer;
      tx = bit_set mask 4 || m.status.requests.tx;
      rx = bit_set mask 3 || m.status.requests.rx;
      idle = bit_set mask 2 || m.status.requests.idle;
      hi_alert = bit_set mask 1 || m.status.requests.hi_alert;
      lo_alert = bit_set mask 0 || m.status.requests.lo_alert;
    })
    m

abbrev pub marked : ℕ → Machine → Machine
marked mask m =
    with_errors
    (record {
      key_err = bit_set mask 6 || m.status.errors.key_err;
      access_err = bit_set mask 5 || m.status.errors.access_err;
      fifo_ovfl = bit_set mask 4 || m.status.errors.fifo_ovfl;
      crc_err = bit_set mask 3 || m.status.errors.crc_err;
      parity_err = bit_set mask 1 || m.status.errors.parity_err;
    })
    m

abbrev pub unmarked : ℕ → Machine → Machine
unmarked mask m =
    with_errors
    (record {
      key_err = not (bit_set mask 6) && m.status.errors.key_err;
      access_err = not (bit_set mask 5) && m.status.errors.access_err;
      fifo_ovfl = not (bit_set mask 4) && m.status.errors.fifo_ovfl;
      crc_err = not (bit_set mask 3) && m.status.errors.crc_err;
      parity_err = not (bit_set mask 1) && m.status.errors.parity_err;
    })
    m
