-- Manual 10.3: when a state is well formed, clause by clause. A malformed one gets refusal 7.
-- Assumes nothing.
use Rattle.std.specs.Prelude.{ℕ, ◌+◌, ◌%◌, ◌/◌, ◌^◌, Bool, true, cond, ◌&&◌, List, [], ◌≡◌, ltb, leb, eqb, length}
use Rattle.bits.specs.Bits.{Bytes}
use Rattle.crc.specs.Checksum.{crc8_bit}
use Rattle.edition.specs.Edition.{is_of}
use Rattle.machine.specs.State.{Machine, Command, Writing, Timer, Checksum, Mode, Modes, within_write_e2, while_programming}
use Rattle.machine.specs.State.{Idle, WriteE2, ReadE2, LoadConfig, LoadKeyE2, LoadKey, CalcCRC, Transmit, Receive, TransceiveSending, TransceiveReceiving, addressing, ready, programming, off, waiting, in_hold, leaving}
use Rattle.machine.specs.Memory.{programming_clocks}
use Rattle.machine.specs.Commands.{programs}
use Rattle.machine.specs.Power.{stand_by_clocks, power_down_clocks}

-- The FIFO holds 64 bytes or fewer.
abbrev pub fifo_formed : List ℕ → Bool
fifo_formed held = leb (length held) 64

-- While the timer runs its value is 1 to 255, the prescaler that it keeps 0 to 21, and its phase less than a step. Stopped, it keeps 0 in both.
abbrev pub timer_formed : Timer → Bool
timer_formed t =
    cond t.running
    (leb 1 t.value && (leb t.value 255 && (leb t.prescaler 21 && ltb t.phase (2 ^ t.prescaler))))
    (eqb t.prescaler 0 && eqb t.phase 0)

-- A programming has between 1 and 78,648 clocks left and between 1 and 16 bytes, which do not cross a block's end and lie outside block 0. A next
-- address is one of the 200h. A machine programs only within WriteE2.
abbrev pub writing_formed : Writing → Bool
writing_formed addressing = true
writing_formed (ready a) = ltb a 0x200
writing_formed (programming a bs left) =
    leb 1 left && (leb left programming_clocks && (leb 1 (length bs) && (leb (a % 16 + length bs) 16 && (leb 0x10 a && ltb a 0x200))))

abbrev pub command_formed : Command → Bool
command_formed c = within_write_e2 writing_formed true c

-- What a command would do with held bytes is done: the most bytes that may wait while each is active.
abbrev pub writing_waits : Writing → ℕ
writing_waits addressing = 1
writing_waits (ready a) = 0
writing_waits (programming a bs left) = 64

abbrev pub waits : Command → ℕ
waits Idle = 64
waits (WriteE2 w) = writing_waits w
waits ReadE2 = 2
waits LoadConfig = 1
waits LoadKeyE2 = 1
waits LoadKey = 11
waits CalcCRC = 0
waits Transmit = 64
waits Receive = 64
waits TransceiveSending = 64
waits TransceiveReceiving = 64

abbrev pub nothing_pends : Command → List ℕ → Bool
nothing_pends c held = leb (length held) (waits c)

-- In the mode of CRC8 the register is a byte.
abbrev pub checksum_formed : Checksum → Bool
checksum_formed c = cond (crc8_bit c.mode) (ltb c.register 0x100) true

-- What a register never shows as 1 is 0: Page bits 6-3, and SecondaryStatus bits 4-3, above RxLastBits.
abbrev pub bits_formed : ℕ → ℕ → Bool
bits_formed page rx_last_bits = eqb (page / 8 % 16) 0 && ltb rx_last_bits 8

-- A power mode waits only for a programming, and its leaving has at least one clock to go and at most its whole number.
abbrev pub mode_formed : ℕ → Bool → Mode → Bool
mode_formed whole programs off = true
mode_formed whole programs waiting = programs
mode_formed whole programs in_hold = true
mode_formed whole programs (leaving n) = leb 1 n && leb n whole

abbrev pub modes_formed : Bool → Modes → Bool
modes_formed programs x = mode_formed stand_by_clocks programs x.stand_by && mode_formed power_down_clocks programs x.power_down

-- The memory is of the machine's own edition, and every part is formed.
unfoldable pub well_formed : Machine → Bool
well_formed m =
    is_of m.edition m.eeprom
    && (fifo_formed m.held
    && (timer_formed m.timer
    && (command_formed m.command
    && (nothing_pends m.command m.held
    && (checksum_formed m.checksum
    && (modes_formed (programs m.command) m.status.modes
    && bits_formed m.page m.status.rx_last_bits))))))

-- What every chip's machine is by the types of its fields: bytes are bytes, and memories have their sizes. It is no part of refusal 7.
abbrev pub latched_bytes : Command → List ℕ
latched_bytes c = while_programming (λ a bs left. bs) [] c

pub record Sized (m : Machine) : Type 0 where
  pub held_bytes : Bytes m.held
  pub latched_bytes_lem : Bytes (latched_bytes m.command)
  pub register_bytes : Bytes m.registers
  pub register_count : length m.registers ≡ 32
  pub eeprom_bytes : Bytes m.eeprom
  pub eeprom_count : length m.eeprom ≡ 512
