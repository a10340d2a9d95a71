-- The machine's state, named by the data sheet, and its setters. antt has no record update, so each setter is written once, here.
-- Assumes nothing.
use Rattle.std.specs.Prelude.{ℕ, Bool, List}
use Rattle.edition.specs.declared.Edition.{Edition}

-- The six sources of InterruptEn (06h) and InterruptRq (07h).
pub record Interrupts : Type 0 where
  pub timer : Bool
  pub tx : Bool
  pub rx : Bool
  pub idle : Bool
  pub hi_alert : Bool
  pub lo_alert : Bool

-- The flags of ErrorFlag (0Ah).
pub record Errors : Type 0 where
  pub key_err : Bool
  pub access_err : Bool
  pub fifo_ovfl : Bool
  pub crc_err : Bool
  pub parity_err : Bool

-- The timer: TRunning, TimerValue, and the prescaler and phase that are kept while it runs.
pub record Timer : Type 0 where
  pub running : Bool
  pub value : ℕ
  pub prescaler : ℕ
  pub phase : ℕ

-- The CRC register and the mode, a copy of ChannelRedundancy, that the latest CalcCRC started with.
pub record Checksum : Type 0 where
  pub register : ℕ
  pub mode : ℕ

-- The key buffer: a key, or empty.
pub record Key : Type 0 where
  pub loaded : Bool
  pub bytes : List ℕ

-- How far a WriteE2 is.
pub data Writing : Type 0 where
  -- it waits for its address
  addressing : Writing
  -- no programming runs; the next byte goes to this address
  ready : ℕ → Writing
  -- latched bytes are being programmed from this address on; so many clocks are left
  programming : ℕ → List ℕ → ℕ → Writing

-- The active command. A Transceive sends until the take and then receives.
pub data Command : Type 0 where
  Idle : Command
  WriteE2 : Writing → Command
  ReadE2 : Command
  LoadConfig : Command
  LoadKeyE2 : Command
  LoadKey : Command
  CalcCRC : Command
  Transmit : Command
  Receive : Command
  TransceiveSending : Command
  TransceiveReceiving : Command

-- antt has no clause for all other constructors. So a function that singles out WriteE2, or a programming, is said by one of these: what it is
-- there, and what it is under every other command.
abbrev pub within_write_e2 : {X : Type 0} → (Writing → X) → X → Command → X
within_write_e2 there other Idle = other
within_write_e2 there other (WriteE2 w) = there w
within_write_e2 there other ReadE2 = other
within_write_e2 there other LoadConfig = other
within_write_e2 there other LoadKeyE2 = other
within_write_e2 there other LoadKey = other
within_write_e2 there other CalcCRC = other
within_write_e2 there other Transmit = other
within_write_e2 there other Receive = other
within_write_e2 there other TransceiveSending = other
within_write_e2 there other TransceiveReceiving = other

-- A programming has its address, its bytes and the clocks left.
abbrev pub of_programming : {X : Type 0} → (ℕ → List ℕ → ℕ → X) → X → Writing → X
of_programming there other addressing = other
of_programming there other (ready a) = other
of_programming there other (programming a bs left) = there a bs left

abbrev pub while_programming : {X : Type 0} → (ℕ → List ℕ → ℕ → X) → X → Command → X
while_programming there other c = within_write_e2 (of_programming there other) other c

-- How far a power mode is, StandBy (bit 5 of Control, 09h) or PowerDown (bit 4).
pub data Mode : Type 0 where
  off : Mode
  -- its bit is set, and it waits for the end of a programming
  waiting : Mode
  -- it has hold
  in_hold : Mode
  -- it still has hold, and is being left; so many clocks are to go
  leaving : ℕ → Mode

pub record Modes : Type 0 where
  pub stand_by : Mode
  pub power_down : Mode

-- What the status registers show beyond what is derived.
pub record Status : Type 0 where
  pub enables : Interrupts
  pub requests : Interrupts
  pub errors : Errors
  pub modes : Modes
  pub rx_last_bits : ℕ

pub record Machine : Type 0 where
  -- Page: UsePageSelect, bit 7, and PageSelect, bits 2-0
  pub page : ℕ
  pub command : Command
  -- the bytes that the FIFO holds, the first to leave first
  pub held : List ℕ
  -- how many bytes it has refused since the last flush or start; 65,535 stands for more too
  pub lost_sum : ℕ
  pub status : Status
  pub timer : Timer
  pub checksum : Checksum
  pub key : Key
  -- BitFraming (0Fh)
  pub bit_framing : ℕ
  -- registers 10h-2Fh, by position
  pub registers : List ℕ
  -- 512 bytes
  pub eeprom : List ℕ
  -- which of the two chips it is
  pub edition : Edition

-- Records from their parts, in the order of their fields.
abbrev pub machine_of : ℕ → Command → List ℕ → ℕ → Status → Timer → Checksum → Key → ℕ → List ℕ → List ℕ → Edition → Machine
machine_of page command held lost_sum status timer checksum key bit_framing registers eeprom edition =
    record {
      page = page;
      command = command;
      held = held;
      lost_sum = lost_sum;
      status = status;
      timer = timer;
      checksum = checksum;
      key = key;
      bit_framing = bit_framing;
      registers = registers;
      eeprom = eeprom;
      edition = edition;
    }

abbrev pub status_of : Interrupts → Interrupts → Errors → Modes → ℕ → Status
status_of enables requests errors modes rx_last_bits =
    record { enables = enables; requests = requests; errors = errors; modes = modes; rx_last_bits = rx_last_bits }

abbrev pub six_sources : Bool → Bool → Bool → Bool → Bool → Bool → Interrupts
six_sources timer tx rx idle hi_alert lo_alert =
    record { timer = timer; tx = tx; rx = rx; idle = idle; hi_alert = hi_alert; lo_alert = lo_alert }

abbrev pub five_flags : Bool → Bool → Bool → Bool → Bool → Errors
five_flags key_err access_err fifo_ovfl crc_err parity_err =
    record { key_err = key_err; access_err = access_err; fifo_ovfl = fifo_ovfl; crc_err = crc_err; parity_err = parity_err }

-- Setters of the machine's parts.
abbrev pub with_page : ℕ → Machine → Machine
with_page x m = machine_of x m.command m.held m.lost_sum m.status m.timer m.checksum m.key m.bit_framing m.registers m.eeprom m.edition

abbrev pub with_command : Command → Machine → Machine
with_command x m = machine_of m.page x m.held m.lost_sum m.status m.timer m.checksum m.key m.bit_framing m.registers m.eeprom m.edition

abbrev pub with_held : List ℕ → Machine → Machine
with_held x m = machine_of m.page m.command x m.lost_sum m.status m.timer m.checksum m.key m.bit_framing m.registers m.eeprom m.edition

abbrev pub with_lost_sum : ℕ → Machine → Machine
with_lost_sum x m = machine_of m.page m.command m.held x m.status m.timer m.checksum m.key m.bit_framing m.registers m.eeprom m.edition

abbrev pub with_status : Status → Machine → Machine
with_status x m = machine_of m.page m.command m.held m.lost_sum x m.timer m.checksum m.key m.bit_framing m.registers m.eeprom m.edition

abbrev pub with_timer : Timer → Machine → Machine
with_timer x m = machine_of m.page m.command m.held m.lost_sum m.status x m.checksum m.key m.bit_framing m.registers m.eeprom m.edition

abbrev pub with_checksum : Checksum → Machine → Machine
with_checksum x m = machine_of m.page m.command m.held m.lost_sum m.status m.timer x m.key m.bit_framing m.registers m.eeprom m.edition

abbrev pub with_key : Key → Machine → Machine
with_key x m = machine_of m.page m.command m.held m.lost_sum m.status m.timer m.checksum x m.bit_framing m.registers m.eeprom m.edition

abbrev pub with_bit_framing : ℕ → Machine → Machine
with_bit_framing x m = machine_of m.page m.command m.held m.lost_sum m.status m.timer m.checksum m.key x m.registers m.eeprom m.edition

abbrev pub with_registers : List ℕ → Machine → Machine
with_registers x m = machine_of m.page m.command m.held m.lost_sum m.status m.timer m.checksum m.key m.bit_framing x m.eeprom m.edition

abbrev pub with_eeprom : List ℕ → Machine → Machine
with_eeprom x m = machine_of m.page m.command m.held m.lost_sum m.status m.timer m.checksum m.key m.bit_framing m.registers x m.edition

abbrev pub with_edition : Edition → Machine → Machine
with_edition x m = machine_of m.page m.command m.held m.lost_sum m.status m.timer m.checksum m.key m.bit_framing m.registers m.eeprom x

-- Setters of the status.
abbrev pub with_enables : Interrupts → Machine → Machine
with_enables x m = with_status (status_of x m.status.requests m.status.errors m.status.modes m.status.rx_last_bits) m

abbrev pub with_requests : Interrupts → Machine → Machine
with_requests x m = with_status (status_of m.status.enables x m.status.errors m.status.modes m.status.rx_last_bits) m

abbrev pub with_errors : Errors → Machine → Machine
with_errors x m = with_status (status_of m.status.enables m.status.requests x m.status.modes m.status.rx_last_bits) m

abbrev pub with_modes : Modes → Machine → Machine
with_modes x m = with_status (status_of m.status.enables m.status.requests m.status.errors x m.status.rx_last_bits) m

abbrev pub with_rx_last_bits : ℕ → Machine → Machine
with_rx_last_bits x m = with_status (status_of m.status.enables m.status.requests m.status.errors m.status.modes x) m
