-- Demand 3 (manual 12.4), call by call: what the entries that a call adds say of its own answer, of the buffer that it was lent, and of the machine
-- that it leaves. The answer is a number, as the program gives it; `code` says which number stands for which answer.
-- Assumes nothing.
use Rattle.std.specs.Prelude.{ℕ, suc, ◌/◌, ◌%◌, ◌<◌, ◌≡◌, Bool, true, false, List, [], ◌∷◌, ◌++◌, length, take, drop, get_or}
use Rattle.machine.specs.State.{Machine}
use Rattle.machine.specs.Refusals.{Call, start, host_read, host_write, advance, take_frame, deliver, refusal}
use Rattle.machine.specs.Events.{Answer, byte, lost, perform}
use Rattle.journal.specs.Entries as e
use Rattle.journal.specs.Entries.{Entry, of_byte, bytes_to, bytes_away, key_bytes, collect, Byte}
use Rattle.journal.specs.Journal.{Both, called}
use Rattle.journal.specs.Demand.{run, waiting, stored_bytes, checksum_shown, ReadOf, KeyJudged}

-- The entries that a call adds.
abbrev pub added : Call → Both → List Entry
added c s = drop (length s.journal.entries) (called c s).journal.entries

-- What is found among entries: the bytes that left to memory, with their addresses, and the images of starts.
abbrev pub memory_bytes : Entry → List Byte
memory_bytes x = of_byte (λ b. []) (λ to b. []) (λ a b. record { address = a; value = b } ∷ []) [] x

abbrev pub start_images : Entry → List (List ℕ)
start_images (e.taken_in b) = []
start_images (e.turned_away b) = []
start_images (e.left to b) = []
start_images (e.to_memory a b) = []
start_images e.took_frame = []
start_images e.flushed = []
start_images (e.started image) = image ∷ []
start_images (e.calc_crc mode lsb msb) = []

-- A host write or a delivery: only these offer bytes.
abbrev pub offers : Call → Bool
offers (start image) = false
offers (host_read address) = false
offers (host_write address v) = true
offers (advance clocks) = false
offers (take_frame buffer) = false
offers (deliver bytes parities last_bits) = true

-- Each of these bytes is at its address.
unfoldable pub AtAddresses : List ℕ → List Byte → Type 0
AtAddresses cells [] = Unit {0}
AtAddresses cells (b ∷ bs) = (b.address < length cells) × (get_or cells b.address 0 ≡ b.value) × AtAddresses cells bs

-- The memory bytes of a call without a start: some ended their programming in it, and those are in EEPROM when it is over.
pub record Programmed (before : Machine) (xs : List Entry) (next : Machine) : Type 0 where
  pub ended : List Byte
  -- those that waited, followed by those that left to memory in the call, are those that ended, followed by those that wait after it
  pub in_order : waiting before.command ++ collect memory_bytes xs ≡ ended ++ waiting next.command
  -- those that ended are stored, in order, and nothing else is
  pub stored : next.eeprom ≡ stored_bytes before.eeprom ended
  -- and each of them is at its address when the call is over
  pub at_addresses : AtAddresses next.eeprom ended

-- A call with its answer, the buffer lent after it, and the machine that it leaves, against the entries that it adds to the journal.
pub record AccountedBy (xs : List Entry) (code : Answer → ℕ) (s : Both) (c : Call) (answer : ℕ) (buffer : List ℕ) (next : Machine) : Type 0 where
  -- the entries that stand are as they were, with these behind them
  pub appended : (called c s).journal.entries ≡ s.journal.entries ++ xs
  -- by a refused call none are added
  pub refused_adds_nothing : (n : ℕ) → refusal s.machine c ≡ suc n → xs ≡ []
  -- a host write or delivery that is not refused answers how many bytes were turned away in it, and in no other call is one
  pub away_answer : offers c ≡ true → refusal s.machine c ≡ 0 → answer ≡ code (lost (length (collect bytes_away xs)))
  pub none_away : offers c ≡ false → collect bytes_away xs ≡ []
  -- a byte that left to the host is the one byte that did, and the answer
  pub to_host : (b : ℕ) (bs : List ℕ) → collect (bytes_to e.host) xs ≡ b ∷ bs → (bs ≡ []) × (answer ≡ code (byte b))
  -- a read of FIFOData by which none left answers 0
  pub none_to_host : ReadOf s.machine c 0x02 → collect (bytes_to e.host) xs ≡ [] → answer ≡ code (byte 0)
  -- a read of FIFOLength answers how many bytes the journal holds, and one of CRCResultLSB or CRCResultMSB a byte of the latest CalcCRC's checksum
  pub length_read : ReadOf s.machine c 0x04 → answer ≡ code (byte (length s.journal.held))
  pub crc_low_read : ReadOf s.machine c 0x0D → answer ≡ code (byte (checksum_shown s.journal % 256))
  pub crc_high_read : ReadOf s.machine c 0x0E → answer ≡ code (byte (checksum_shown s.journal / 256))
  -- the bytes that left to a frame are the first ones of the buffer
  pub to_frame : take (length (collect (bytes_to e.frame) xs)) buffer ≡ collect (bytes_to e.frame) xs
  -- key bytes leave by twelve, and the machine has the key and KeyErr that are judged from them
  pub to_key : (k : ℕ) (ks : List ℕ) → collect key_bytes xs ≡ k ∷ ks → KeyJudged (k ∷ ks) next
  -- memory bytes, where no start comes; after a start memory is its image, and none wait
  pub to_memory_lem : collect start_images xs ≡ [] → Programmed s.machine xs next
  pub restarted :
      (image : List ℕ) (images : List (List ℕ)) → collect start_images xs ≡ image ∷ images →
      (images ≡ []) × (next.eeprom ≡ image) × (waiting next.command ≡ [])
  -- what the machine then holds is the journal's held list
  pub same_held : next.held ≡ (called c s).journal.held

-- The same of the entries that the call does add.
abbrev pub Accounted : (Answer → ℕ) → Both → Call → ℕ → List ℕ → Machine → Type 0
Accounted code s c answer buffer next = AccountedBy (added c s) code s c answer buffer next

-- Every call after a start from an image and a list of calls, as the definition performs it.
pub record EveryCall : Type 0 where
  pub accounted :
      (code : Answer → ℕ) (image : List ℕ) → length image ≡ 512 → (calls : List Call) (c : Call) →
      let s = run image calls in
      let o = perform s.machine c in
      Accounted code s c (code o.answer) o.buffer o.next
