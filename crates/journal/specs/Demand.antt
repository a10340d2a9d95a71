-- Demand 3 (manual 12.4) over the machine's definition: what holds after every list of calls from a start that succeeds. Each of its clauses has a
-- field of its own.
-- Assumes nothing.
use Rattle.std.specs.Prelude.{ℕ, suc, ◌+◌, ◌-◌, ◌/◌, ◌%◌, ◌<◌, ◌≤◌, min, ◌≡◌, true, not, List, [], ◌∷◌, ◌++◌, ltb, length, take, get_or, set}
use Rattle.crc.specs.Checksum.{absorbed_all, result_of}
use Rattle.key.specs.Key.{format_holds, judged_key}
use Rattle.machine.specs.State.{Machine, Checksum, Key, Command, WriteE2, programming, while_programming}
use Rattle.machine.specs.Fifo.{first_of}
use Rattle.machine.specs.PowerModes.{stands_for, LeftAfter}
use Rattle.machine.specs.Registers.{mapped, crc_result}
use Rattle.machine.specs.Refusals.{Call, host_read, advance, take_frame, refusal}
use Rattle.machine.specs.Events.{started, perform, byte}
use Rattle.journal.specs.Entries as e
use Rattle.journal.specs.Entries.{Entry, bytes_in, bytes_out, collect, InTurn, Latest, no_checksum, latest_from, Byte, Memory, memory_from, key_bytes, away_from}
use Rattle.journal.specs.Journal.{Journal, empty, enter, Both, called, after}

-- The machine and the journal after a start from an image and a list of calls.
abbrev pub run : List ℕ → List Call → Both
run image calls = after (record { machine = started image; journal = empty }) calls

-- The checksum unit that has absorbed what left to a CalcCRC.
abbrev pub checksum_of : Latest → Checksum
checksum_of l = record { register = absorbed_all l.mode l.preset l.input; mode = l.mode }

-- Bytes at an address and behind it.
unfoldable pub batch : ℕ → List ℕ → List Byte
batch a [] = []
batch a (b ∷ bs) = record { address = a; value = b } ∷ batch (a + 1) bs

-- The memory bytes whose programming has not ended.
abbrev pub waiting : Command → List Byte
waiting c = while_programming (λ a bs left. batch a bs) [] c

-- An image with memory bytes stored, one after the other.
unfoldable pub stored_bytes : List ℕ → List Byte → List ℕ
stored_bytes image [] = image
stored_bytes image (b ∷ bs) = stored_bytes (set image b.address b.value) bs

-- The memory bytes since the last start are those whose programming has ended, which are in EEPROM, and those that wait.
pub record MemoryIs (r : Memory) (c : Command) (eeprom : List ℕ) : Type 0 where
  pub finished : List Byte
  pub split : r.bytes ≡ finished ++ waiting c
  pub stored : eeprom ≡ stored_bytes r.image finished

-- The checksum over the bytes that the CalcCRC begun last was given; 0 where none has begun since the chip was started.
abbrev pub checksum_shown : Journal → ℕ
checksum_shown j = let l = latest_from no_checksum j.entries in result_of l.mode (absorbed_all l.mode l.preset l.input)

-- What holds after a list of calls, of the machine and the journal.
pub record Conserved (image : List ℕ) (s : Both) : Type 0 where
  -- the journal's held list is what the chip holds
  pub same_held : s.journal.held ≡ s.machine.held
  -- an offered byte joined the FIFO where it held at most 63 then, and else did not
  pub taken_in_when_under_64 : InTurn 0 s.journal.entries
  -- the bytes that left, in their order, and then those held are the bytes that joined, in theirs
  pub in_order : collect bytes_in s.journal.entries ≡ collect bytes_out s.journal.entries ++ s.machine.held
  -- the sum of lost bytes has every byte turned away since the last flush or start, up to 65,535; FIFOOvfl shows that there are some
  pub lost_sum_lem : s.machine.lost_sum ≡ min 65_535 (away_from 0 s.journal.entries)
  pub overflow_shown : s.machine.status.errors.fifo_ovfl ≡ ltb 0 (away_from 0 s.journal.entries)
  -- CRCResultLSB and CRCResultMSB have that checksum
  pub checksum_shown_lem : crc_result s.machine ≡ checksum_shown s.journal
  -- EEPROM is the last start's image with the memory bytes stored whose programming has ended
  pub memory_stored : MemoryIs (memory_from (record { image = image; bytes = [] }) s.journal.entries) s.machine.command s.machine.eeprom

-- A host read of a register, by its address after mapping, that is not refused.
pub record ReadOf (m : Machine) (c : Call) (register : ℕ) : Type 0 where
  pub address : ℕ
  pub is_read_lem : c ≡ host_read address
  pub not_refused : refusal m c ≡ 0
  pub at_register : mapped m.page address ≡ register

-- Such a read answers this byte.
abbrev pub ReadAnswers : Machine → ℕ → ℕ → Type 0
ReadAnswers m register b = (c : Call) → ReadOf m c register → (perform m c).answer ≡ byte b

-- Key and KeyErr are those of these twelve bytes (manual 7.5).
abbrev pub KeyJudged : List ℕ → Machine → Type 0
KeyJudged ks m =
    (length ks ≡ 12) × (m.key ≡ record { loaded = format_holds ks; bytes = judged_key ks }) × (m.status.errors.key_err ≡ not (format_holds ks))

-- What holds of every call that comes next.
pub record NextCall (s : Both) : Type 0 where
  -- a host read of FIFOData answers the byte that leaves to it, and 0 where none is held
  pub host_read_answer : ReadAnswers s.machine 0x02 (first_of s.journal.held)
  -- one of FIFOLength answers how many are held, and those of CRCResultLSB and CRCResultMSB the checksum
  pub length_answer : ReadAnswers s.machine 0x04 (length s.journal.held)
  pub crc_low_answer : ReadAnswers s.machine 0x0D (checksum_shown s.journal % 256)
  pub crc_high_answer : ReadAnswers s.machine 0x0E (checksum_shown s.journal / 256)
  -- a host read with nothing held enters nothing
  pub empty_read : (address : ℕ) → s.journal.held ≡ [] → enter (host_read address) s.machine s.journal ≡ s.journal
  -- a take puts the bytes that were held first into its buffer
  pub frame_begins :
      (buffer : List ℕ) → refusal s.machine (take_frame buffer) ≡ 0 →
      take (length s.journal.held) (perform s.machine (take_frame buffer)).buffer ≡ s.journal.held
  -- a refused call leaves the journal
  pub refused_adds_nothing : (c : Call) (n : ℕ) → refusal s.machine c ≡ suc n → enter c s.machine s.journal ≡ s.journal
  -- latched bytes are at their addresses after an advance by as many clocks as were left, or more, behind those, if any, in which a power mode has hold
  pub programmed_bytes_stand :
      (n stand a left : ℕ) (bs : List ℕ) → s.machine.command ≡ WriteE2 (programming a bs left) → refusal s.machine (advance n) ≡ 0 →
      stands_for stand s.machine.status.modes ≡ true → LeftAfter stand s.machine.status.modes → stand + left ≤ n →
      (i : ℕ) → i < length bs → get_or (perform s.machine (advance n)).next.eeprom (a + i) 0 ≡ get_or bs i 0
  -- and not one clock earlier: with clocks left, the bytes wait on and memory is as it was
  pub programming_lasts :
      (n stand a left : ℕ) (bs : List ℕ) → s.machine.command ≡ WriteE2 (programming a bs left) → refusal s.machine (advance n) ≡ 0 →
      stands_for stand s.machine.status.modes ≡ true → LeftAfter stand s.machine.status.modes → n < stand + left →
      let m = (perform s.machine (advance n)).next in (m.command ≡ WriteE2 (programming a bs (left - (n - stand)))) × (m.eeprom ≡ s.machine.eeprom)
  -- while a power mode has hold, the command and memory are as they were
  pub programming_stands :
      (n : ℕ) → refusal s.machine (advance n) ≡ 0 → stands_for n s.machine.status.modes ≡ true →
      let m = (perform s.machine (advance n)).next in (m.command ≡ s.machine.command) × (m.eeprom ≡ s.machine.eeprom)
  -- key bytes leave by twelve, which are judged
  pub key_judged_lem :
      (c : Call) (twelve : List ℕ) (k : ℕ) (ks : List ℕ) → twelve ≡ k ∷ ks →
      collect key_bytes (enter c s.machine s.journal).entries ≡ collect key_bytes s.journal.entries ++ twelve →
      KeyJudged twelve (perform s.machine c).next

-- Demand 3, whole.
pub record Demand3 : Type 0 where
  pub conserved : (image : List ℕ) → length image ≡ 512 → (calls : List Call) → Conserved image (run image calls)
  pub next_call : (image : List ℕ) → length image ≡ 512 → (calls : List Call) → NextCall (run image calls)
