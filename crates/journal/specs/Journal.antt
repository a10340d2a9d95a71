-- Manual 12: the journal. Of a call it is given the arguments, and it goes by the machine of the definitions, never by the program's chip. It has
-- entries and a held list of its own, and keeps the address of the latest WriteE2 and the number of its memory bytes.
-- Assumes nothing.
use Rattle.std.specs.Prelude.{ℕ, zero, suc, ◌+◌, ◌%◌, min, Bool, true, false, cond, ◌&&◌, List, [], ◌∷◌, ◌++◌, map, ltb, leb, eqb, length, get_or, replicate}
use Rattle.bits.specs.Bits.{bit_set}
use Rattle.machine.specs.State.{Machine, Command, Writing, within_write_e2, while_programming}
use Rattle.machine.specs.State.{Idle, WriteE2, ReadE2, LoadConfig, LoadKeyE2, LoadKey, CalcCRC, Transmit, Receive, TransceiveSending, TransceiveReceiving, addressing, ready, programming}
use Rattle.machine.specs.Fifo.{register_at}
use Rattle.machine.specs.Memory.{address_of, room_in_block}
use Rattle.machine.specs.Commands.{code_of, programs, command_written, read_bytes, stepped}
use Rattle.machine.specs.Frames.{passed}
use Rattle.machine.specs.Registers.{mapped, register_written}
use Rattle.machine.specs.Refusals.{Call, start, host_read, host_write, advance, take_frame, deliver, refusal}
use Rattle.machine.specs.Timer.{timer_clock}
use Rattle.machine.specs.Power.{stands_still}
use Rattle.machine.specs.Events.{batch_stored, clock, perform}
use Rattle.journal.specs.Entries as e
use Rattle.journal.specs.Entries.{Entry}

pub record Journal : Type 0 where
  pub entries : List Entry
  pub held : List ℕ
  -- the latest WriteE2's address, and the number of its memory bytes so far
  pub base : ℕ
  pub count : ℕ

abbrev pub empty : Journal
empty = record { entries = []; held = []; base = 0; count = 0 }

-- An entry that moves no byte.
abbrev pub entered : Entry → Journal → Journal
entered x j = record { entries = j.entries ++ x ∷ []; held = j.held; base = j.base; count = j.count }

-- A byte that is offered (manual 12.2): it is added to the held list and entered as taken in, or, with 64 there, only entered, as turned away.
unfoldable pub offer : ℕ → Journal → Journal
offer b j =
    cond (ltb (length j.held) 64)
    (record { entries = j.entries ++ e.taken_in b ∷ []; held = j.held ++ b ∷ []; base = j.base; count = j.count })
    (entered (e.turned_away b) j)

unfoldable pub offer_all : List ℕ → Journal → Journal
offer_all [] j = j
offer_all (b ∷ bs) j = offer_all bs (offer b j)

-- The oldest byte of the held list leaves (manual 12.3); of an empty list none does.
abbrev pub leave_from : List ℕ → (ℕ → Entry) → Journal → Journal
leave_from [] to j = j
leave_from (b ∷ bs) to j = record { entries = j.entries ++ to b ∷ []; held = bs; base = j.base; count = j.count }

unfoldable pub leave : (ℕ → Entry) → Journal → Journal
leave to j = leave_from j.held to j

-- Every held byte leaves at once, by a take, a flush or a start, whose own entry comes behind them (manual 12.3).
unfoldable pub leave_all : (ℕ → Entry) → Entry → Journal → Journal
leave_all to x j = entered x (record { entries = j.entries ++ map to j.held; held = []; base = j.base; count = j.count })

-- What a command takes a byte as.
pub data Use : Type 0 where
  address : Use
  number : Use
  key : Use
  checksum : Use
  memory : Use

-- The memory bytes of a WriteE2 go to its address and those behind it, one after the other (manual 12.3), so they are counted.
abbrev pub counted : Journal → Journal
counted j = record { entries = j.entries; held = j.held; base = j.base; count = j.count + 1 }

unfoldable pub leave_as : Use → Journal → Journal
leave_as address j = leave (e.left e.address) j
leave_as number j = leave (e.left e.count) j
leave_as key j = leave (e.left e.key) j
leave_as checksum j = leave (e.left e.checksum) j
leave_as memory j = counted (leave (e.to_memory (j.base + j.count)) j)

unfoldable pub leave_all_as : List Use → Journal → Journal
leave_all_as [] j = j
leave_all_as (u ∷ us) j = leave_all_as us (leave_as u j)

-- What the active command takes at once of n held bytes (manual 12.3, and 7.2 to 7.6).
abbrev pub wanted : ℕ → ℕ → List Use → List Use
wanted n least us = cond (leb least n) us []

abbrev pub uses_of_writing : Writing → ℕ → List Use
uses_of_writing addressing n = wanted n 2 (address ∷ address ∷ [])
uses_of_writing (ready a) n = cond (leb 0x10 a) (replicate (min (room_in_block a) n) memory) []
uses_of_writing (programming a bs left) n = []

abbrev pub uses_of : Command → ℕ → List Use
uses_of Idle n = []
uses_of (WriteE2 w) n = uses_of_writing w n
uses_of ReadE2 n = wanted n 3 (address ∷ address ∷ number ∷ [])
uses_of LoadConfig n = wanted n 2 (address ∷ address ∷ [])
uses_of LoadKeyE2 n = wanted n 2 (address ∷ address ∷ [])
uses_of LoadKey n = wanted n 12 (replicate 12 key)
uses_of CalcCRC n = replicate n checksum
uses_of Transmit n = []
uses_of Receive n = []
uses_of TransceiveSending n = []
uses_of TransceiveReceiving n = []

-- A WriteE2 that has its address counts its memory bytes from there.
abbrev pub based : ℕ → Journal → Journal
based a j = record { entries = j.entries; held = j.held; base = a; count = 0 }

abbrev pub address_held : Journal → ℕ
address_held j = address_of (get_or j.held 0 0) (get_or j.held 1 0)

abbrev pub based_within : Writing → Journal → Journal → Journal
based_within addressing before j = cond (leb 2 (length before.held)) (based (address_held before) j) j
based_within (ready a) before j = j
based_within (programming a bs left) before j = j

abbrev pub based_by : Command → Journal → Journal → Journal
based_by c before j = within_write_e2 (λ w. based_within w before j) j c

-- The bytes that ReadE2 offers (manual 7.3).
abbrev pub offers_of : Command → List ℕ → Journal → List ℕ
offers_of c eeprom j = cond (eqb (code_of c) 0x03 && leb 3 (length j.held)) (read_bytes eeprom (address_held j) (get_or j.held 2 0)) []

-- One step of the active command: bytes leave to it, and it may offer bytes.
unfoldable pub enter_step : Machine → Journal → Journal
enter_step m j =
    offer_all (offers_of m.command m.eeprom j)
    (based_by m.command j (leave_all_as (uses_of m.command (length j.held)) j))

-- All that the active command does at once.
unfoldable pub enter_settled : Machine → Journal → Journal
enter_settled m j = enter_step (stepped m) (enter_step m j)

-- A write to Command that is not ignored may begin a CalcCRC, which reads its mode and presets then.
abbrev pub begun : Command → Machine → Journal → Journal
begun c m j = cond (eqb (code_of c) 0x12) (entered (e.calc_crc (register_at m 0x22) (register_at m 0x23) (register_at m 0x24)) j) j

abbrev pub enter_command : ℕ → Machine → Journal → Journal
enter_command v m j = cond (programs m.command) j (begun (command_written v m).command m j)

-- A host write, by its register after mapping: FIFOData is offered the byte, and FlushFIFO of Control flushes.
abbrev pub enter_register : ℕ → ℕ → Machine → Journal → Journal
enter_register r v m j =
    cond (eqb (r % 8) 0) j
    (cond (eqb r 0x01) (enter_command v m j)
    (cond (eqb r 0x02) (offer v j)
    (cond (eqb r 0x09) (cond (bit_set v 0) (leave_all (e.left e.flush) e.flushed j) j)
    j)))

unfoldable pub enter_written : ℕ → ℕ → Machine → Journal → Journal
enter_written r v m j = enter_settled (register_written r v m) (enter_register r v m j)

-- One clock: where a programming ends and bytes wait, the next ones leave.
abbrev pub enter_end : ℕ → List ℕ → Machine → Journal → Journal
enter_end a bs m j = cond (eqb (length j.held) 0) j (enter_settled (batch_stored a bs m) j)

abbrev pub enter_clock_of : Command → Machine → Journal → Journal
enter_clock_of c m j = while_programming (λ a bs left. cond (leb left 1) (enter_end a bs m j) j) j c

-- While a power mode has hold, no programming ends.
abbrev pub enter_clock : Machine → Journal → Journal
enter_clock m j = cond (stands_still m) j (enter_clock_of m.command (timer_clock m) j)

unfoldable pub enter_clocks : ℕ → Machine → Journal → Journal
enter_clocks zero m j = j
enter_clocks (suc n) m j = enter_clocks n (clock m) (enter_clock m j)

-- A call that is not refused.
abbrev pub enter_accepted : Call → Machine → Journal → Journal
enter_accepted (start image) m j = leave_all (e.left e.start) (e.started image) j
enter_accepted (host_read a) m j = cond (eqb (mapped m.page a) 0x02) (leave (e.left e.host) j) j
enter_accepted (host_write a v) m j = enter_written (mapped m.page a) v m j
enter_accepted (advance n) m j = enter_clocks n m j
enter_accepted (take_frame buffer) m j = leave_all (e.left e.frame) e.took_frame j
enter_accepted (deliver bytes parities last_bits) m j = offer_all (passed m bytes last_bits) j

-- Any call; a refused one adds nothing (manual 12).
unfoldable pub enter : Call → Machine → Journal → Journal
enter c m j = cond (eqb (refusal m c) 0) (enter_accepted c m j) j

-- The machine of the definitions and the journal that goes by it, after a list of calls.
pub record Both : Type 0 where
  pub machine : Machine
  pub journal : Journal

abbrev pub called : Call → Both → Both
called c s = record { machine = (perform s.machine c).next; journal = enter c s.machine s.journal }

unfoldable pub after : Both → List Call → Both
after s [] = s
after s (c ∷ cs) = after (called c s) cs
