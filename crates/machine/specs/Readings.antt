-- Rules that are easily misread (manual 15), each by an example of the right reading; and examples that a made-up chip does not meet.
-- Assumes nothing.
use Rattle.std.specs.Prelude.{ℕ, ◌*◌, true, false, List, [], ◌∷◌, ◌++◌, ◌≡◌, take, replicate, set}
use Rattle.machine.specs.State.{Machine, Idle, WriteE2, programming, with_command, with_held, five_flags}
use Rattle.machine.specs.Fifo.{register_at, first_of}
use Rattle.machine.specs.Memory.{programming_clocks}
use Rattle.machine.specs.Refusals.{Call, host_read, host_write, advance, take_frame, deliver}
use Rattle.machine.specs.Events.{Outcome, started, perform, after_calls, byte, frame, clock}
use Rattle.profile.specs.Shipped.{shipped_image}
use Rattle.machine.specs.Numbers.{after_start, offers, command, timer_start, timer_run}

-- A chip whose EEPROM has the damaged profile, prescaler 24, at 030h-04Fh.
abbrev pub after_damaged : List Call → Machine
after_damaged calls = after_calls (started (set shipped_image 0x4A 24)) calls

-- The last byte of the memory is programmed in one clock more, and one byte waits.
abbrev pub last_byte : Machine
last_byte = with_held (0x55 ∷ []) (with_command (WriteE2 (programming 0x1FF (0xAA ∷ []) 1)) (started shipped_image))

-- A timer that runs with prescaler 1 and reload 3 gets TPreScaler 0, and clocks.
abbrev pub new_prescaler : ℕ → List Call
new_prescaler clocks = timer_start 3 1 ++ (host_write 0x2A 0 ∷ advance clocks ∷ [])

-- Paging off, ChannelRedundancy 0Fh (odd parity, a CRC sent and checked; the shipped presets are 6363h).
abbrev pub with_crc : List Call
with_crc = host_write 0x00 0x00 ∷ host_write 0x22 0x0F ∷ []

-- A Transmit of 12 34, with so many TxLastBits.
abbrev pub sends : ℕ → Machine
sends last_bits = after_start (with_crc ++ (host_write 0x0F last_bits ∷ host_write 0x02 0x12 ∷ host_write 0x02 0x34 ∷ host_write 0x01 0x1A ∷ []))

abbrev pub taken : Machine → Outcome
taken m = perform m (take_frame (replicate 66 0))

-- A Receive, and a frame with its parity bits.
abbrev pub receives : List ℕ → List ℕ → Machine
receives bytes parities = after_start (with_crc ++ (host_write 0x01 0x16 ∷ deliver bytes parities 0 ∷ []))

pub record Readings : Type 0 where
  -- LoadConfig brings in every value, a prescaler of 24 too: manual 7.4
  pub load_config_loads_anything : register_at (after_damaged (command 0x07 (0x30 ∷ 0x00 ∷ []))) 0x2A ≡ 24
  -- after 1FFh WriteE2 is at block 0, where it ends with AccessErr and takes no byte: manual 7.2
  pub block_0_is_met : (clock last_byte).command ≡ Idle
  pub block_0_flag : (clock last_byte).status.errors.access_err ≡ true
  pub block_0_byte_left : (clock last_byte).held ≡ 0x55 ∷ []
  -- a full FIFO keeps its oldest byte: manual 3.1
  pub oldest_stays : first_of (after_start (host_write 0x02 0x77 ∷ offers 64)).held ≡ 0x77
  -- a timer runs on by the prescaler that it was started with: manual 5.1
  pub prescaler_kept : (after_start (new_prescaler 5)).status.requests.timer ≡ false
  pub prescaler_kept_6 : (after_start (new_prescaler 6)).status.requests.timer ≡ true
  -- a host read answers the byte held first, and FIFOLength the held count
  pub first_byte_read : (perform (after_start (host_write 0x02 0x77 ∷ offers 3)) (host_read 0x02)).answer ≡ byte 0x77
  pub length_read : (perform (after_start (offers 64)) (host_read 0x04)).answer ≡ byte 64
  pub length_read_3 : (perform (after_start (offers 3)) (host_read 0x04)).answer ≡ byte 3
  -- 5.8 ms at 13,560 clocks a millisecond, and a WriteE2 of one byte begins with all of them
  pub programming_time : 10 * programming_clocks ≡ 58 * 13_560
  pub programming_begins : (after_start (command 0x01 (0x6C ∷ 0x01 ∷ 0xAA ∷ []))).command ≡ WriteE2 (programming 0x16C (0xAA ∷ []) 78_648)
  -- bytes that wait when WriteE2 is written are its address and its data at once
  pub waiting_bytes_begin :
      (after_start (host_write 0x02 0x6C ∷ host_write 0x02 0x01 ∷ host_write 0x02 0xAA ∷ host_write 0x01 0x01 ∷ [])).command
      ≡ WriteE2 (programming 0x16C (0xAA ∷ []) 78_648)
  -- one clock of two
  pub programming_goes_on :
      (clock (with_command (WriteE2 (programming 0x16C (0xAA ∷ []) 2)) (started shipped_image))).command ≡ WriteE2 (programming 0x16C (0xAA ∷ []) 1)
  -- with prescaler 3 a timer step has 8 clocks, so that reload 2 is over after 16: manual 5.2
  pub prescaler_3_not_at_15 : (after_start (timer_run 2 3 15)).status.requests.timer ≡ false
  pub prescaler_3_at_16 : (after_start (timer_run 2 3 16)).status.requests.timer ≡ true
  -- ReadE2 answers the memory's bytes, and a start loads them: 011h and 012h are shipped as 58h and 3Fh
  pub read_e2_bytes : (after_start (command 0x03 (0x11 ∷ 0x00 ∷ 2 ∷ []))).held ≡ 0x58 ∷ 0x3F ∷ []
  pub start_loads : register_at (after_start []) 0x11 ≡ 0x58
  -- a frame is sent with its CRC, low byte first, and without it where TxLastBits are not 0
  pub frame_with_crc : take 4 (taken (sends 0)).buffer ≡ 0x12 ∷ 0x34 ∷ 0x26 ∷ 0xCF ∷ []
  pub frame_answer : (taken (sends 0)).answer ≡ frame 4 0
  pub frame_of_last_bits : (taken (sends 7)).answer ≡ frame 2 7
  -- the same frame is received: the CRC is dropped, and odd parity holds of 12 (two ones, 1), 34 (three, 0), 26 (three, 0) and CF (six, 1)
  pub frame_received : (receives (0x12 ∷ 0x34 ∷ 0x26 ∷ 0xCF ∷ []) (1 ∷ 0 ∷ 0 ∷ 1 ∷ [])).held ≡ 0x12 ∷ 0x34 ∷ []
  pub frame_errors_lem : (receives (0x12 ∷ 0x34 ∷ 0x26 ∷ 0xCF ∷ []) (1 ∷ 0 ∷ 0 ∷ 1 ∷ [])).status.errors ≡ five_flags true false false false false
  -- a wrong parity bit; a CRC high byte first, dropped all the same; a frame shorter than its CRC, which passes whole
  pub parity_wrong_lem : (receives (0x12 ∷ 0x34 ∷ 0x26 ∷ 0xCF ∷ []) (0 ∷ 0 ∷ 0 ∷ 1 ∷ [])).status.errors.parity_err ≡ true
  pub crc_wrong : (receives (0x12 ∷ 0x34 ∷ 0xCF ∷ 0x26 ∷ []) (1 ∷ 0 ∷ 1 ∷ 0 ∷ [])).status.errors.crc_err ≡ true
  pub crc_wrong_dropped : (receives (0x12 ∷ 0x34 ∷ 0xCF ∷ 0x26 ∷ []) (1 ∷ 0 ∷ 1 ∷ 0 ∷ [])).held ≡ 0x12 ∷ 0x34 ∷ []
  pub short_frame : (receives (0x12 ∷ []) (1 ∷ [])).status.errors.crc_err ≡ true
  pub short_frame_passes : (receives (0x12 ∷ []) (1 ∷ [])).held ≡ 0x12 ∷ []
