-- Manual 15, the numbers that are proved: one record has all of them.
-- Assumes nothing.
use Rattle.std.specs.Prelude.{ℕ, ◌/◌, ◌%◌, true, false, List, [], ◌∷◌, ◌++◌, map, ◌≡◌, length, replicate, take, drop}
use Rattle.crc.specs.Checksum.{checksum}
use Rattle.key.specs.Key.{stored, format_holds, key_of}
use Rattle.profile.specs.Answer.{pass, refuse_at}
use Rattle.edition.specs.Edition.{fixed_bits}
use Rattle.edition.specs.declared.Edition.TheVariants.{Mfrc531}
use Rattle.profile.specs.Check.{judged}
use Rattle.machine.specs.State.{Machine, Idle}
use Rattle.machine.specs.Refusals.{Call, host_write, advance}
use Rattle.machine.specs.Fifo.{lo_alert, hi_alert}
use Rattle.machine.specs.Events.{started, after_calls}
use Rattle.profile.specs.Shipped.{shipped, shipped_with, shipped_image}

-- A checksum, or an address, as its two bytes, low then high.
abbrev pub low_high : ℕ → List ℕ
low_high n = n % 256 ∷ n / 256 ∷ []

abbrev pub example_key : List ℕ
example_key = 0xA0 ∷ 0xA1 ∷ 0xA2 ∷ 0xA3 ∷ 0xA4 ∷ 0xA5 ∷ []

abbrev pub example_stored : List ℕ
example_stored = 0x5A ∷ 0xF0 ∷ 0x5A ∷ 0xE1 ∷ 0x5A ∷ 0xD2 ∷ 0x5A ∷ 0xC3 ∷ 0x5A ∷ 0xB4 ∷ 0x5A ∷ 0xA5 ∷ []

-- A chip started from the shipped image, and calls on it. At Page 80h, host addresses 01h and 02h are Command and FIFOData.
abbrev pub after_start : List Call → Machine
after_start calls = after_calls (started shipped_image) calls

abbrev pub offers : ℕ → List Call
offers n = replicate n (host_write 0x02 0x00)

-- A command's code and its argument bytes.
abbrev pub command : ℕ → List ℕ → List Call
command code arguments = host_write 0x01 code ∷ map (host_write 0x02) arguments

-- Thirty-two bytes, no two the same and none of them 00h: the numbers of registers 10h-2Fh from the last to the first.
abbrev pub distinct_bytes : List ℕ
distinct_bytes =
    0x2F ∷ 0x2E ∷ 0x2D ∷ 0x2C ∷ 0x2B ∷ 0x2A ∷ 0x29 ∷ 0x28
    ∷ 0x27 ∷ 0x26 ∷ 0x25 ∷ 0x24 ∷ 0x23 ∷ 0x22 ∷ 0x21 ∷ 0x20
    ∷ 0x1F ∷ 0x1E ∷ 0x1D ∷ 0x1C ∷ 0x1B ∷ 0x1A ∷ 0x19 ∷ 0x18
    ∷ 0x17 ∷ 0x16 ∷ 0x15 ∷ 0x14 ∷ 0x13 ∷ 0x12 ∷ 0x11 ∷ 0x10
    ∷ []

-- The shipped image with these at 060h-07Fh.
abbrev pub distinct_image : List ℕ
distinct_image = take 0x60 shipped_image ++ (distinct_bytes ++ drop 0x80 shipped_image)

-- A chip started from that image, and calls on it.
abbrev pub after_distinct : List Call → Machine
after_distinct calls = after_calls (started distinct_image) calls

-- The same bytes as registers 10h-2Fh once they are loaded: the Page positions, which a start leaves 0, are skipped.
abbrev pub distinct_loaded : List ℕ
distinct_loaded =
    0x00 ∷ 0x2E ∷ 0x2D ∷ 0x2C ∷ 0x2B ∷ 0x2A ∷ 0x29 ∷ 0x28
    ∷ 0x00 ∷ 0x26 ∷ 0x25 ∷ 0x24 ∷ 0x23 ∷ 0x22 ∷ 0x21 ∷ 0x20
    ∷ 0x00 ∷ 0x1E ∷ 0x1D ∷ 0x1C ∷ 0x1B ∷ 0x1A ∷ 0x19 ∷ 0x18
    ∷ 0x00 ∷ 0x16 ∷ 0x15 ∷ 0x14 ∷ 0x13 ∷ 0x12 ∷ 0x11 ∷ 0x10
    ∷ []

-- A LoadConfig from an address, and a ReadE2 of so many bytes from one.
abbrev pub load_config : ℕ → Machine
load_config address = after_distinct (command 0x07 (low_high address))

abbrev pub read_e2 : ℕ → ℕ → Machine
read_e2 address count = after_distinct (command 0x03 (low_high address ++ count ∷ []))

-- Paging off, TimerReload, TimerClock and TStartNow; and the same with clocks behind them.
abbrev pub timer_start : ℕ → ℕ → List Call
timer_start reload timer_clock = host_write 0x00 0x00 ∷ host_write 0x2C reload ∷ host_write 0x2A timer_clock ∷ host_write 0x09 0x02 ∷ []

abbrev pub timer_run : ℕ → ℕ → ℕ → List Call
timer_run reload timer_clock clocks = timer_start reload timer_clock ++ advance clocks ∷ []

pub record NumbersToMeet : Type 0 where
  -- From preset 6363h the checksum of 00 00 is A0 1E, and that of 12 34 is 26 CF. ChannelRedundancy 00h: 16 bits, not complemented.
  pub crc_6363_of_00_00 : low_high (checksum 0x00 0x63 0x63 (0x00 ∷ 0x00 ∷ [])) ≡ 0xA0 ∷ 0x1E ∷ []
  pub crc_6363_of_12_34 : low_high (checksum 0x00 0x63 0x63 (0x12 ∷ 0x34 ∷ [])) ≡ 0x26 ∷ 0xCF ∷ []
  -- From preset FFFFh and with CRC3309 that of 00 00 00 is CC C6. ChannelRedundancy 20h.
  pub crc3309_ffff_of_00_00_00 : low_high (checksum 0x20 0xFF 0xFF (0x00 ∷ 0x00 ∷ 0x00 ∷ [])) ≡ 0xCC ∷ 0xC6 ∷ []
  -- The key A0 to A5, as its twelve bytes and read back from them.
  pub key_stored : stored example_key ≡ example_stored
  pub key_format : format_holds example_stored ≡ true
  pub key_read : key_of example_stored ≡ example_key
  -- In the shipped profile, which passes itself, 21 is the last prescaler that passes; 22 and 24 are refused with 11, at 2Ah.
  pub shipped_passes : judged (fixed_bits Mfrc531) shipped ≡ pass
  pub prescaler_21 : judged (fixed_bits Mfrc531) (shipped_with 0x2A 21) ≡ pass
  pub prescaler_22 : judged (fixed_bits Mfrc531) (shipped_with 0x2A 22) ≡ refuse_at 11 0x2A
  pub prescaler_24 : judged (fixed_bits Mfrc531) (shipped_with 0x2A 24) ≡ refuse_at 11 0x2A
  -- The FIFO has room for 64 bytes, and one more sets FIFOOvfl.
  pub sixty_four_held : length (after_start (offers 64)).held ≡ 64
  pub no_overflow_at_64 : (after_start (offers 64)).status.errors.fifo_ovfl ≡ false
  pub overflow_at_65 : (after_start (offers 65)).status.errors.fifo_ovfl ≡ true
  -- The shipped FIFOLevel is 08h: LoAlert ends between 8 and 9 bytes, and HiAlert begins between 55 and 56.
  pub lo_alert_at_8 : lo_alert (after_start (offers 8)) ≡ true
  pub lo_alert_not_at_9 : lo_alert (after_start (offers 9)) ≡ false
  pub hi_alert_at_56 : hi_alert (after_start (offers 56)) ≡ true
  pub hi_alert_not_at_55 : hi_alert (after_start (offers 55)) ≡ false
  -- LoadConfig from 060h, the last address allowed, and from the one behind it: the bytes from there are in the registers, or these are as the
  -- start left them; either way the command has ended.
  pub load_config_060 : (load_config 0x060).registers ≡ distinct_loaded
  pub load_config_060_flag : (load_config 0x060).status.errors.access_err ≡ false
  pub load_config_060_ends : (load_config 0x060).command ≡ Idle
  pub load_config_060_request : (load_config 0x060).status.requests.idle ≡ true
  pub load_config_061 : (load_config 0x061).status.errors.access_err ≡ true
  pub load_config_061_registers : (load_config 0x061).registers ≡ (started distinct_image).registers
  pub load_config_061_ends : (load_config 0x061).command ≡ Idle
  -- ReadE2 of the last readable byte, and of that and the one behind it: the byte there is held, or none.
  pub read_e2_count_1 : (read_e2 0x07F 1).held ≡ 0x10 ∷ []
  pub read_e2_count_1_flag : (read_e2 0x07F 1).status.errors.access_err ≡ false
  pub read_e2_count_2 : (read_e2 0x07F 2).status.errors.access_err ≡ true
  pub read_e2_count_2_held : (read_e2 0x07F 2).held ≡ []
  -- A timer with reload 3 and prescaler 1 ends at its sixth clock.
  pub timer_not_at_5 : (after_start (timer_run 3 1 5)).status.requests.timer ≡ false
  pub timer_at_6 : (after_start (timer_run 3 1 6)).status.requests.timer ≡ true
