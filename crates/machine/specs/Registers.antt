-- Manual 2 and 4: paging, what each register reads, and what a write to it does.
-- Assumes nothing.
use Rattle.std.specs.Prelude.{ℕ, ◌+◌, ◌-◌, ◌*◌, ◌/◌, ◌%◌, Bool, true, false, cond, not, ◌&&◌, ◌||◌, List, ltb, leb, eqb, length, set}
use Rattle.bits.specs.Bits.{bit, bit_set}
use Rattle.crc.specs.Checksum.{result_of}
use Rattle.machine.specs.State.{Machine, Interrupts, Errors, Modes, with_page, with_enables, with_requests, with_modes, with_bit_framing, with_registers, six_sources}
use Rattle.machine.specs.Fifo.{register_at, offered, lost_at, first_of, flushed, lo_alert, hi_alert}
use Rattle.machine.specs.Timer.{timer_started, timer_stopped}
use Rattle.machine.specs.Commands.{code_of, programs, command_written}
use Rattle.machine.specs.Frames.{receiving, frame_waits}
use Rattle.machine.specs.Power.{bit_reads, modes_written}

-- Manual 2.1: with UsePageSelect (Page bit 7) the low three bits of the address choose within page PageSelect; without it the address is the register.
abbrev pub mapped : ℕ → ℕ → ℕ
mapped page address = cond (bit_set page 7) (8 * (page % 8) + address % 8) address

abbrev pub flag : Bool → ℕ
flag true = 1
flag false = 0

-- InterruptEn and InterruptRq (manual 4.1): the timer in bit 5, Tx in 4, Rx in 3, Idle in 2, HiAlert in 1 and LoAlert in 0; bits 7 and 6 read 0.
abbrev pub interrupt_byte : Interrupts → ℕ
interrupt_byte i = 32 * flag i.timer + 16 * flag i.tx + 8 * flag i.rx + 4 * flag i.idle + 2 * flag i.hi_alert + flag i.lo_alert

-- Manual 4.2: a bit that is 1 in the byte written becomes what bit 7 of that byte is; any other stays.
abbrev pub marked : ℕ → ℕ → Bool → Bool
marked v k old = cond (bit_set v k) (bit_set v 7) old

abbrev pub interrupts_written : ℕ → Interrupts → Interrupts
interrupts_written v i =
    six_sources (marked v 5 i.timer) (marked v 4 i.tx) (marked v 3 i.rx) (marked v 2 i.idle) (marked v 1 i.hi_alert) (marked v 0 i.lo_alert)

-- Manual 4.3: some source has both its request and its enable.
abbrev pub irq_bit : Machine → Bool
irq_bit m =
    (m.status.enables.timer && m.status.requests.timer)
    || (m.status.enables.tx && m.status.requests.tx)
    || (m.status.enables.rx && m.status.requests.rx)
    || (m.status.enables.idle && m.status.requests.idle)
    || (m.status.enables.hi_alert && m.status.requests.hi_alert)
    || (m.status.enables.lo_alert && m.status.requests.lo_alert)

-- ErrorFlag (manual 2.4): KeyErr is bit 6, AccessErr bit 5, FIFOOvfl bit 4, CRCErr bit 3 and ParityErr bit 1. Err is 1 with any of them.
abbrev pub error_byte : Errors → ℕ
error_byte e = 64 * flag e.key_err + 32 * flag e.access_err + 16 * flag e.fifo_ovfl + 8 * flag e.crc_err + 2 * flag e.parity_err

abbrev pub Err : Machine → Bool
Err m = not (eqb (error_byte m.status.errors) 0)

-- Control (manual 2.4): of its bits StandBy, 5, and PowerDown, 4, read back.
abbrev pub control_byte : Modes → ℕ
control_byte x = 32 * flag (bit_reads x.stand_by) + 16 * flag (bit_reads x.power_down)

-- ModemState (manual 2.3), by the data sheet's codes: AwaitingRx, 110, while a command is receiving, whatever is held; TxData, 010, while a frame waits; else
-- Idle, 000.
abbrev pub modem_state : Machine → ℕ
modem_state m = cond (receiving m.command) 6 (cond (frame_waits m) 2 0)

-- PrimaryStatus (manual 2.3): ModemState is bits 6-4, IRq bit 3, Err bit 2, HiAlert bit 1 and LoAlert bit 0.
abbrev pub primary_status : Machine → ℕ
primary_status m = 16 * modem_state m + 8 * flag (irq_bit m) + 4 * flag (Err m) + 2 * flag (hi_alert m) + flag (lo_alert m)

-- SecondaryStatus (manual 2.3): TRunning is bit 7; E2Ready, bit 6, is 0 during a programming; CRCReady, bit 5, is always 1; RxLastBits are bits 2-0.
abbrev pub secondary_status : Machine → ℕ
secondary_status m = 128 * flag m.timer.running + 64 * flag (not (programs m.command)) + 32 + m.status.rx_last_bits

-- CRCResultLSB and CRCResultMSB (manual 7.6): the checksum over what CalcCRC has taken since it was last written.
abbrev pub crc_result : Machine → ℕ
crc_result m = result_of m.checksum.mode m.checksum.register

-- A register's byte, by its address after mapping; the first address of every page is Page (manual 2.2).
unfoldable pub register_read : ℕ → Machine → ℕ
register_read r m =
    cond (eqb (r % 8) 0) m.page
    (cond (eqb r 0x01) (code_of m.command)
    (cond (eqb r 0x02) (first_of m.held)
    (cond (eqb r 0x03) (primary_status m)
    (cond (eqb r 0x04) (length m.held)
    (cond (eqb r 0x05) (secondary_status m)
    (cond (eqb r 0x06) (interrupt_byte m.status.enables)
    (cond (eqb r 0x07) (interrupt_byte m.status.requests)
    (cond (eqb r 0x09) (control_byte m.status.modes)
    (cond (eqb r 0x0A) (error_byte m.status.errors)
    (cond (eqb r 0x0C) m.timer.value
    (cond (eqb r 0x0D) (crc_result m % 256)
    (cond (eqb r 0x0E) (crc_result m / 256)
    (cond (eqb r 0x0F) m.bit_framing
    (cond (leb 0x10 r && ltb r 0x30) (register_at m r)
    0))))))))))))))

-- Page (manual 2.1): bits 7 and 2-0 are stored.
abbrev pub page_written : ℕ → Machine → Machine
page_written v m = with_page (128 * bit v 7 + v % 8) m

-- Control (manual 2.4): first FlushFIFO, bit 0, then TStopNow, bit 2, then TStartNow, bit 1; StandBy, bit 5, and PowerDown, bit 4, each in every write.
abbrev pub control_written : ℕ → Machine → Machine
control_written v m =
    let flushes = cond (bit_set v 0) (flushed m) m in
    let stops = cond (bit_set v 2) (timer_stopped flushes) flushes in
    let starts = cond (bit_set v 1) (timer_started stops) stops in
    with_modes (modes_written (programs m.command) v m.status.modes) starts

-- A write to a register, by its address after mapping; at the others it has no effect (manual 2.2).
unfoldable pub register_written : ℕ → ℕ → Machine → Machine
register_written r v m =
    cond (eqb (r % 8) 0) (page_written v m)
    (cond (eqb r 0x01) (command_written v m)
    (cond (eqb r 0x02) (offered v m)
    (cond (eqb r 0x06) (with_enables (interrupts_written v m.status.enables) m)
    (cond (eqb r 0x07) (with_requests (interrupts_written v m.status.requests) m)
    (cond (eqb r 0x09) (control_written v m)
    (cond (eqb r 0x0F) (with_bit_framing v m)
    (cond (leb 0x10 r && ltb r 0x30) (with_registers (set m.registers (r - 0x10) v) m)
    m)))))))

-- How many bytes the register itself loses: FIFOData is offered one.
abbrev pub lost_at_register : ℕ → Machine → ℕ
lost_at_register r m = cond (eqb r 0x02) (lost_at m) 0
