-- Manual 12.1: what is written down, and how bytes join and leave the journal's own held list.
-- Assumes nothing.
use Rattle.std.specs.Prelude.{ℕ, ◌+◌, ◌-◌, ◌<◌, ◌≤◌, Bool, true, false, cond, List, [], ◌∷◌, ◌++◌, map, eqb, length}
use Rattle.crc.specs.Checksum.{preset_of}

-- What a byte left to.
pub data Destination : Type 0 where
  -- a host read, as its answer
  host : Destination
  -- a command, as one of its address, count, key or checksum bytes
  address : Destination
  count : Destination
  key : Destination
  checksum : Destination
  -- with all others that were held: a take, a flush or a start
  frame : Destination
  flush : Destination
  start : Destination

-- A number for each, by which they are told apart.
abbrev pub number_of : Destination → ℕ
number_of host = 0
number_of address = 1
number_of count = 2
number_of key = 3
number_of checksum = 4
number_of frame = 5
number_of flush = 6
number_of start = 7

abbrev pub same : Destination → Destination → Bool
same d e = eqb (number_of d) (number_of e)

pub data Entry : Type 0 where
  -- a byte that was offered: it joined the held list, or it was refused
  taken_in : ℕ → Entry
  turned_away : ℕ → Entry
  -- a byte that left the held list, and what it left to
  left : Destination → ℕ → Entry
  -- a byte that left to WriteE2, as the memory byte of this address
  to_memory : ℕ → ℕ → Entry
  -- a take, a flush, a later start with its image, behind the bytes that left to it
  took_frame : Entry
  flushed : Entry
  started : List ℕ → Entry
  -- a CalcCRC began, with the mode and presets that it read
  calc_crc : ℕ → ℕ → ℕ → Entry

-- What is read off an entry by its byte: of one taken in, of one that left to a destination, of one that left to memory, and of any other entry.
abbrev pub of_byte : {X : Type 0} → (ℕ → X) → (Destination → ℕ → X) → (ℕ → ℕ → X) → X → Entry → X
of_byte taken out stored other (taken_in b) = taken b
of_byte taken out stored other (turned_away b) = other
of_byte taken out stored other (left to b) = out to b
of_byte taken out stored other (to_memory a b) = stored a b
of_byte taken out stored other took_frame = other
of_byte taken out stored other flushed = other
of_byte taken out stored other (started image) = other
of_byte taken out stored other (calc_crc mode lsb msb) = other

-- The byte that an entry takes in, the byte that leaves by it, and the byte that leaves to one destination, where there is one.
abbrev pub bytes_in : Entry → List ℕ
bytes_in e = of_byte (λ b. b ∷ []) (λ to b. []) (λ a b. []) [] e

abbrev pub bytes_out : Entry → List ℕ
bytes_out e = of_byte (λ b. []) (λ to b. b ∷ []) (λ a b. b ∷ []) [] e

abbrev pub bytes_to : Destination → Entry → List ℕ
bytes_to d e = of_byte (λ b. []) (λ to b. cond (same to d) (b ∷ []) []) (λ a b. []) [] e

abbrev pub key_bytes : Entry → List ℕ
key_bytes e = bytes_to key e

-- What f finds in the entries, in their order.
unfoldable pub collect : {X : Type 0} → (Entry → List X) → List Entry → List X
collect f [] = []
collect f (e ∷ es) = f e ++ collect f es

-- Manual 12.2: an offered byte is taken in where the held list has at most 63 bytes, and else turned away; each at its turn, from a held count on.
abbrev pub turn : ℕ → Entry → Type 0
turn n (taken_in b) = n < 64
turn n (turned_away b) = 64 ≤ n
turn n (left to b) = 1 ≤ n
turn n (to_memory a b) = 1 ≤ n
turn n took_frame = Unit {0}
turn n flushed = Unit {0}
turn n (started image) = Unit {0}
turn n (calc_crc mode lsb msb) = Unit {0}

abbrev pub count_after : ℕ → Entry → ℕ
count_after n e = n + length (bytes_in e) - length (bytes_out e)

unfoldable pub InTurn : ℕ → List Entry → Type 0
InTurn n [] = Unit {0}
InTurn n (e ∷ es) = turn n e × InTurn (count_after n e) es

-- The CalcCRC that began last, as the entries since a start have it: its mode, its preset and its input in order; without one, nothing from 0.
pub record Latest : Type 0 where
  pub mode : ℕ
  pub preset : ℕ
  pub input : List ℕ

abbrev pub no_checksum : Latest
no_checksum = record { mode = 0; preset = 0; input = [] }

abbrev pub fed : ℕ → Latest → Latest
fed b l = record { mode = l.mode; preset = l.preset; input = l.input ++ b ∷ [] }

abbrev pub noted : Latest → Entry → Latest
noted l (taken_in b) = l
noted l (turned_away b) = l
noted l (left to b) = cond (same to checksum) (fed b l) l
noted l (to_memory a b) = l
noted l took_frame = l
noted l flushed = l
noted l (started image) = no_checksum
noted l (calc_crc mode lsb msb) = record { mode = mode; preset = preset_of mode lsb msb; input = [] }

unfoldable pub latest_from : Latest → List Entry → Latest
latest_from l [] = l
latest_from l (e ∷ es) = latest_from (noted l e) es

-- The memory bytes since the last start, in order, with that start's image.
pub record Byte : Type 0 where
  pub address : ℕ
  pub value : ℕ

pub record Memory : Type 0 where
  pub image : List ℕ
  pub bytes : List Byte

abbrev pub remembered : Memory → Entry → Memory
remembered r (taken_in b) = r
remembered r (turned_away b) = r
remembered r (left to b) = r
remembered r (to_memory a b) = record { image = r.image; bytes = r.bytes ++ record { address = a; value = b } ∷ [] }
remembered r took_frame = r
remembered r flushed = r
remembered r (started image) = record { image = image; bytes = [] }
remembered r (calc_crc mode lsb msb) = r

unfoldable pub memory_from : Memory → List Entry → Memory
memory_from r [] = r
memory_from r (e ∷ es) = memory_from (remembered r e) es

-- The byte that an entry turns away, where there is one.
abbrev pub bytes_away : Entry → List ℕ
bytes_away (taken_in b) = []
bytes_away (turned_away b) = b ∷ []
bytes_away (left to b) = []
bytes_away (to_memory a b) = []
bytes_away took_frame = []
bytes_away flushed = []
bytes_away (started image) = []
bytes_away (calc_crc mode lsb msb) = []

-- How many bytes have been turned away since the last flush or start, after entries that come behind so many.
abbrev pub away_after : ℕ → Entry → ℕ
away_after n (taken_in b) = n
away_after n (turned_away b) = n + 1
away_after n (left to b) = n
away_after n (to_memory a b) = n
away_after n took_frame = n
away_after n flushed = 0
away_after n (started image) = 0
away_after n (calc_crc mode lsb msb) = n

unfoldable pub away_from : ℕ → List Entry → ℕ
away_from n [] = n
away_from n (e ∷ es) = away_from (away_after n e) es
