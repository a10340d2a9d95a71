-- Manual 7: what writing Command starts, and what the active command does with waiting bytes.
-- Assumes nothing.
use Rattle.std.specs.Prelude.{ℕ, ◌+◌, ◌*◌, ◌%◌, Bool, true, false, cond, not, ◌&&◌, ◌||◌, List, [], ltb, leb, eqb, length, take, drop, get_or}
use Rattle.crc.specs.Checksum.{preset_of, absorbed_all}
use Rattle.key.specs.Key.{format_holds, judged_key, empty_key}
use Rattle.machine.specs.State.{Machine, Command, Writing, while_programming, with_command, with_held, with_errors, with_requests, with_checksum, with_key, with_registers, five_flags, six_sources}
use Rattle.machine.specs.State.{Idle, WriteE2, ReadE2, LoadConfig, LoadKeyE2, LoadKey, CalcCRC, Transmit, Receive, TransceiveSending, TransceiveReceiving, addressing, ready, programming}
use Rattle.machine.specs.Fifo.{register_at, offered_all, lost_of}
use Rattle.machine.specs.Memory.{address_of, bytes_from, room_in_block, programming_clocks, over_registers}

-- Flags and requests that commands set.
abbrev pub raised_idle : Machine → Machine
raised_idle m =
    let r = m.status.requests in with_requests (six_sources r.timer r.tx r.rx true r.hi_alert r.lo_alert) m

abbrev pub raised_tx : Machine → Machine
raised_tx m =
    let r = m.status.requests in with_requests (six_sources r.timer true r.rx r.idle r.hi_alert r.lo_alert) m

abbrev pub raised_rx : Machine → Machine
raised_rx m =
    let r = m.status.requests in with_requests (six_sources r.timer r.tx true r.idle r.hi_alert r.lo_alert) m

abbrev pub with_access_err : Machine → Machine
with_access_err m =
    let e = m.status.errors in with_errors (five_flags e.key_err true e.fifo_ovfl e.crc_err e.parity_err) m

abbrev pub with_key_err : Bool → Machine → Machine
with_key_err flag m =
    let e = m.status.errors in with_errors (five_flags flag e.access_err e.fifo_ovfl e.crc_err e.parity_err) m

-- The three error flags that a write to Command clears (manual 7.1).
abbrev pub cleared_errors : Machine → Machine
cleared_errors m =
    let e = m.status.errors in with_errors (five_flags e.key_err false e.fifo_ovfl false false) m

-- The end of a command that no write ended, and what a code of no command does: Idle, with its request (manual 7.1, 7.10).
abbrev pub ended : Machine → Machine
ended m = with_command Idle (raised_idle m)

-- The codes: manual 7.1, and 005 section 11.
abbrev pub code_of : Command → ℕ
code_of Idle = 0x00
code_of (WriteE2 w) = 0x01
code_of ReadE2 = 0x03
code_of LoadConfig = 0x07
code_of LoadKeyE2 = 0x0B
code_of LoadKey = 0x19
code_of CalcCRC = 0x12
code_of Transmit = 0x1A
code_of Receive = 0x16
code_of TransceiveSending = 0x1E
code_of TransceiveReceiving = 0x1E

-- A programming runs.
abbrev pub programs : Command → Bool
programs c = while_programming (λ a bs left. true) false c

-- CalcCRC keeps the mode (22h) and begins from the presets (23h, 24h) that stand when it is written: manual 7.6.
abbrev pub checksum_started : Machine → Machine
checksum_started m = with_checksum (record { register = preset_of (register_at m 0x22) (register_at m 0x23) (register_at m 0x24); mode = register_at m 0x22 }) m

-- A code is started (manual 7.1); those of LoadKeyE2 and LoadKey clear KeyErr besides (manual 7.5).
abbrev pub command_started : ℕ → Machine → Machine
command_started code m =
    cond (eqb code 0x00) (with_command Idle m)
    (cond (eqb code 0x01) (with_command (WriteE2 addressing) m)
    (cond (eqb code 0x03) (with_command ReadE2 m)
    (cond (eqb code 0x07) (with_command LoadConfig m)
    (cond (eqb code 0x0B) (with_command LoadKeyE2 (with_key_err false m))
    (cond (eqb code 0x12) (with_command CalcCRC (checksum_started m))
    (cond (eqb code 0x16) (with_command Receive m)
    (cond (eqb code 0x19) (with_command LoadKey (with_key_err false m))
    (cond (eqb code 0x1A) (with_command Transmit m)
    (cond (eqb code 0x1E) (with_command TransceiveSending m)
    (ended m))))))))))

-- Manual 7.1: a write to Command clears three error flags and begins another command; during a programming it has no effect.
unfoldable pub command_written : ℕ → Machine → Machine
command_written v m = cond (programs m.command) m (command_started (v % 64) (cleared_errors m))

-- Arguments leave together, as soon as the last of them is held (manual 7.1).
abbrev pub enough : ℕ → Machine → Bool
enough n m = leb n (length m.held)

abbrev pub argument : ℕ → Machine → ℕ
argument k m = get_or m.held k 0

abbrev pub taken : ℕ → Machine → Machine
taken n m = with_held (drop n m.held) m

-- WriteE2 (manual 7.2): a byte that meets block 0 stays held, and the command ends with AccessErr; elsewhere the held bytes that fit into the block
-- are latched, and their programming begins.
abbrev pub latched : ℕ → Machine → Machine
latched a m =
    cond (ltb a 0x10) (ended (with_access_err m))
    (with_command (WriteE2 (programming a (take (room_in_block a) m.held) programming_clocks)) (taken (room_in_block a) m))

abbrev pub write_stepped : Writing → Machine → Machine
write_stepped addressing m = cond (enough 2 m) (with_command (WriteE2 (ready (address_of (argument 0 m) (argument 1 m)))) (taken 2 m)) m
write_stepped (ready a) m = cond (enough 1 m) (latched a m) m
write_stepped (programming a bs left) m = m

-- ReadE2 (manual 7.3): bytes below 080h can be read. Where one of those asked for is not, AccessErr is set and none is read; count 0 asks for none.
abbrev pub readable : ℕ → ℕ → Bool
readable address count = eqb count 0 || leb (address + count) 0x80

abbrev pub read_bytes : List ℕ → ℕ → ℕ → List ℕ
read_bytes eeprom address count = cond (readable address count) (bytes_from eeprom address count) []

abbrev pub read_from : ℕ → ℕ → Machine → Machine
read_from address count m =
    cond (readable address count) (offered_all (read_bytes m.eeprom address count) m) (with_access_err m)

-- LoadConfig (manual 7.4): from an address of 010h to 060h, 32 bytes go over registers 10h-2Fh; any other address is an AccessErr.
abbrev pub configured_from : ℕ → Machine → Machine
configured_from address m =
    cond (leb 0x10 address && leb address 0x60)
    (with_registers (over_registers 0 m.registers (bytes_from m.eeprom address 32)) m)
    (with_access_err m)

-- LoadKey and LoadKeyE2 (manual 7.5): twelve bytes are judged. Where they have no key's format, or would reach beyond the memory, KeyErr is set and
-- the key buffer is empty.
abbrev pub key_judged : List ℕ → Machine → Machine
key_judged bytes m =
    with_key (record { loaded = format_holds bytes; bytes = judged_key bytes }) (with_key_err (m.status.errors.key_err || not (format_holds bytes)) m)

abbrev pub key_from : ℕ → Machine → Machine
key_from address m =
    cond (ltb 0x1F4 address) (with_key (record { loaded = false; bytes = empty_key }) (with_key_err true m))
    (key_judged (bytes_from m.eeprom address 12) m)

-- CalcCRC takes all that is held (manual 7.6); TxIRq follows in `stepped_as`.
abbrev pub checksum_taken : Machine → Machine
checksum_taken m =
    let c = m.checksum in with_checksum (record { register = absorbed_all c.mode c.register m.held; mode = c.mode }) (with_held [] m)

-- What the active command does with waiting bytes, in one step.
abbrev pub stepped_as : Command → Machine → Machine
stepped_as Idle m = m
stepped_as (WriteE2 w) m = write_stepped w m
stepped_as ReadE2 m = cond (enough 3 m) (ended (read_from (address_of (argument 0 m) (argument 1 m)) (argument 2 m) (taken 3 m))) m
stepped_as LoadConfig m = cond (enough 2 m) (ended (configured_from (address_of (argument 0 m) (argument 1 m)) (taken 2 m))) m
stepped_as LoadKeyE2 m = cond (enough 2 m) (ended (key_from (address_of (argument 0 m) (argument 1 m)) (taken 2 m))) m
stepped_as LoadKey m = cond (enough 12 m) (ended (key_judged (take 12 m.held) (taken 12 m))) m
stepped_as CalcCRC m = cond (enough 1 m) (raised_tx (checksum_taken m)) m
stepped_as Transmit m = m
stepped_as Receive m = m
stepped_as TransceiveSending m = m
stepped_as TransceiveReceiving m = m

unfoldable pub stepped : Machine → Machine
stepped m = stepped_as m.command m

-- All that it does at once: WriteE2 may take its address and then latch bytes, every other command needs one step.
unfoldable pub settled : Machine → Machine
settled m = stepped (stepped m)

-- How many bytes the active command loses in one step, and in all that it does at once: of the commands only ReadE2 (03h) offers any (manual 7.3).
abbrev pub lost_as : Command → Machine → ℕ
lost_as c m =
    cond (eqb (code_of c) 0x03 && enough 3 m)
    (lost_of (read_bytes m.eeprom (address_of (argument 0 m) (argument 1 m)) (argument 2 m)) (taken 3 m))
    0

unfoldable pub lost_stepping : Machine → ℕ
lost_stepping m = lost_as m.command m

unfoldable pub lost_settling : Machine → ℕ
lost_settling m = lost_stepping m + lost_stepping (stepped m)
