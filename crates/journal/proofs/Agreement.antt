-- The machine and its journal agree; each move of bytes keeps it so.
-- Assumes nothing.
use mathlib.Core.Path.{◌≡◌, refl, sym, ap, ◌∙◌, subst}
use mathlib.Core.Bool.{Bool, true, false, cond}
use mathlib.Core.List.{List, [], ◌∷◌, ◌++◌, append_assoc, append-nil, map}
use Prim.Native.Nat.{ℕ, zero, suc, ◌+◌, ◌%◌, ◌<◌, ◌≤◌}
use native.Mathlib.Omega.{arith}
use native.Mathlib.Nat.{not-suc-le-zero, le_of_suc-le-suc}
use native.Mathlib.Numerals.{add-one}
use lib.Dec.{ltb}
use lib.ListN.{length, take, drop, set, replicate, length-set}
use lib.Seq.{drop-nil, length-take-le}
use borrow.Author.Tests.{ltb-true, ltb-false}
use Rattle.crc.specs.Checksum.{after_bytes, absorbed_all}
use Rattle.crc.proofs.Laws.{in_parts}
use Rattle.machine.specs.State.{Machine, Checksum, Command, Writing, Idle, WriteE2, ReadE2, LoadConfig, LoadKeyE2, LoadKey, CalcCRC, Transmit, Receive, TransceiveSending, TransceiveReceiving, addressing, ready, programming, with_held}
use Rattle.machine.specs.Fifo.{one_lost, offered, offered_all, rest_of}
use Rattle.machine.specs.Memory.{stored_from}
use Rattle.machine.proofs.Cases.{by_cond}
use Rattle.journal.specs.Entries as e
use Rattle.journal.specs.Entries.{Entry, bytes_in, bytes_out, collect, InTurn, Latest, no_checksum, noted, latest_from, Byte, Memory, remembered, memory_from}
use Rattle.journal.specs.Journal.{Journal, entered, offer, offer_all, leave_from, leave, leave_all, Use, address, number, key, checksum, memory, counted, leave_as, leave_all_as, based}
use Rattle.journal.specs.Demand.{checksum_of, batch, waiting, stored_bytes, MemoryIs}
use Rattle.journal.proofs.Folds.{latest_append, memory_append}
use Rattle.journal.proofs.Moves.{Moves, moves_none, moves_both, moves_leave, moves_all, Leaving, Quiet, quiet_both, Grows, grows_none, grows_both, Quietly, quietly_none, quietly_both, quietly_offer, quietly_leave}

-- Where the next memory byte goes: the WriteE2's address and the number of its memory bytes so far.
abbrev pub PlaceIs : Command → ℕ → ℕ → Type 0
PlaceIs Idle base count = Unit {0}
PlaceIs (WriteE2 addressing) base count = Unit {0}
PlaceIs (WriteE2 (ready a)) base count = (a ≡ (base + count) % 0x200) × (base + count ≤ 0x200)
PlaceIs (WriteE2 (programming a bs left)) base count = (a + length bs ≡ base + count) × (base + count ≤ 0x200)
PlaceIs ReadE2 base count = Unit {0}
PlaceIs LoadConfig base count = Unit {0}
PlaceIs LoadKeyE2 base count = Unit {0}
PlaceIs LoadKey base count = Unit {0}
PlaceIs CalcCRC base count = Unit {0}
PlaceIs Transmit base count = Unit {0}
PlaceIs Receive base count = Unit {0}
PlaceIs TransceiveSending base count = Unit {0}
PlaceIs TransceiveReceiving base count = Unit {0}

-- While LoadKey waits, KeyErr is clear.
abbrev pub KeyClear : Command → Bool → Type 0
KeyClear LoadKey f = f ≡ false
KeyClear Idle f = Unit {0}
KeyClear (WriteE2 w) f = Unit {0}
KeyClear ReadE2 f = Unit {0}
KeyClear LoadConfig f = Unit {0}
KeyClear LoadKeyE2 f = Unit {0}
KeyClear CalcCRC f = Unit {0}
KeyClear Transmit f = Unit {0}
KeyClear Receive f = Unit {0}
KeyClear TransceiveSending f = Unit {0}
KeyClear TransceiveReceiving f = Unit {0}

-- What holds of the machine with the journal's held list holds of a machine that has this list.
pub with_held_lem : (P : Machine → Type 0) (m : Machine) (j : Journal) → j.held ≡ m.held → P (with_held j.held m) → P m
with_held_lem P m j same p = subst (λ (h : List ℕ). P (with_held h m)) same p

-- An offered byte joins both lists or none.
pub same_offered : (b : ℕ) (m : Machine) (j : Journal) → j.held ≡ m.held → (offer b j).held ≡ (offered b m).held
unfolding offer offered
same_offered b m j same = with_held_lem (λ x. (offer b j).held ≡ (offered b x).held) m j same (go (ltb (length j.held) 64))
  where
    go : (t : Bool) →
        (cond {A = Journal} t (record { entries = j.entries ++ e.taken_in b ∷ []; held = j.held ++ b ∷ []; base = j.base; count = j.count }) (entered (e.turned_away b) j)).held
        ≡ (cond t (with_held (j.held ++ b ∷ []) m) (one_lost (with_held j.held m))).held
    go true = refl
    go false = refl

module _ (image : List ℕ) where
  abbrev pub memory_of : Journal → Memory
  memory_of j = memory_from (record { image = image; bytes = [] }) j.entries

  -- Agreement, over the parts of a machine that the journal goes by.
  pub record Agrees (held : List ℕ) (c : Command) (k : Checksum) (eeprom : List ℕ) (key_err : Bool) (j : Journal) : Type 0 where
    pub same_held : j.held ≡ held
    pub moved : Moves [] j.entries j.held
    pub same_checksum : checksum_of (latest_from no_checksum j.entries) ≡ k
    pub same_memory : MemoryIs (memory_of j) c eeprom
    pub same_place : PlaceIs c j.base j.count
    pub key_clear : KeyClear c key_err
    pub whole : length eeprom ≡ 512

  abbrev pub AgreesWith : Machine → Journal → Type 0
  AgreesWith m j = Agrees m.held m.command m.checksum m.eeprom m.status.errors.key_err j

  -- Quiet entries keep the checksum's input and the memory bytes.
  pub quietly : {h h' : List ℕ} {c c' : Command} {k : Checksum} {eeprom : List ℕ} {f f' : Bool} {j j' : Journal} →
      Agrees h c k eeprom f j → Quietly j j' → j'.held ≡ h' → waiting c' ≡ waiting c → PlaceIs c' j.base j.count → KeyClear c' f' → Agrees h' c' k eeprom f' j'
  quietly {h} {h'} {c} {c'} {k} {eeprom} {f} {f'} {j} {j'} a q same wait place clear =
      let xs = q.entries in
      let memory : memory_of j' ≡ memory_of j =
      ap (memory_from (record { image = image; bytes = [] })) q.grows.added ∙ memory_append _ j.entries xs ∙ q.quiet.no_memory _ in
      record {
        same_held = same;
        moved = subst (λ (z : List Entry). Moves [] z j'.held) (sym q.grows.added) (moves_both a.moved q.grows.moved);
        same_checksum =
            ap checksum_of (ap (latest_from no_checksum) q.grows.added ∙ latest_append no_checksum j.entries xs ∙ q.quiet.no_checksum_lem _) ∙ a.same_checksum;
        same_memory =
            record {
              finished = a.same_memory.finished;
              split = ap (λ (r : Memory). r.bytes) memory ∙ a.same_memory.split ∙ ap (λ (z : List Byte). a.same_memory.finished ++ z) (sym wait);
              stored = a.same_memory.stored ∙ ap (λ (r : Memory). stored_bytes r.image a.same_memory.finished) (sym memory);
            };
        same_place = subst (λ (n : ℕ). PlaceIs c' n j'.count) (sym q.same_base) (subst (PlaceIs c' j.base) (sym q.same_count) place);
        key_clear = clear;
        whole = a.whole;
      }

  pub offered_agrees : (b : ℕ) (m : Machine) (j : Journal) → AgreesWith m j → AgreesWith (offered b m) (offer b j)
  unfolding offered
  offered_agrees b m j a =
      by_cond (λ n. AgreesWith n (offer b j)) (ltb (length m.held) 64) _ _
      (λ is. quietly a (quietly_offer b j) (joined true is) refl a.same_place a.key_clear)
      (λ is. quietly a (quietly_offer b j) (joined false is) refl a.same_place a.key_clear)
    where
      joined : (t : Bool) → ltb (length m.held) 64 ≡ t → (offer b j).held ≡ (cond t (with_held (m.held ++ b ∷ []) m) (one_lost m)).held
      joined t is = same_offered b m j a.same_held ∙ ap (λ (z : Bool). (cond z (with_held (m.held ++ b ∷ []) m) (one_lost m)).held) is

  pub offers_agree : (bs : List ℕ) (m : Machine) (j : Journal) → AgreesWith m j → AgreesWith (offered_all bs m) (offer_all bs j)
  unfolding offered_all offer_all
  offers_agree [] m j a = a
  offers_agree (b ∷ bs) m j a = offers_agree bs (offered b m) (offer b j) (offered_agrees b m j a)

  -- The held list after so many bytes have left.
  pub leave_held : (x : ℕ → Entry) (j : Journal) → (leave x j).held ≡ drop 1 j.held
  unfolding leave
  leave_held x j = go j.held refl
    where
      go : (h : List ℕ) → j.held ≡ h → (leave_from h x j).held ≡ drop 1 h
      go [] is = is
      go (b ∷ h) is = refl

  use_held : (u : Use) (j : Journal) → (leave_as u j).held ≡ drop 1 j.held
  unfolding leave_as
  use_held address j = leave_held (e.left e.address) j
  use_held number j = leave_held (e.left e.count) j
  use_held key j = leave_held (e.left e.key) j
  use_held checksum j = leave_held (e.left e.checksum) j
  use_held memory j = leave_held _ j

  drop_next : (n : ℕ) (h : List ℕ) → drop n (drop 1 h) ≡ drop (suc n) h
  drop_next n [] = drop-nil n
  drop_next n (b ∷ h) = refl

  pub uses_held : (us : List Use) (j : Journal) → (leave_all_as us j).held ≡ drop (length us) j.held
  unfolding leave_all_as
  uses_held [] j = refl
  uses_held (u ∷ us) j = uses_held us (leave_as u j) ∙ ap (drop (length us)) (use_held u j) ∙ drop_next (length us) j.held

  -- Argument and key bytes leave quietly.
  address_quiet : (b : ℕ) → Quiet (e.left e.address b ∷ [])
  unfolding latest_from memory_from
  address_quiet b = record { no_checksum_lem = λ l. refl; no_memory = λ r. refl }

  count_quiet : (b : ℕ) → Quiet (e.left e.count b ∷ [])
  unfolding latest_from memory_from
  count_quiet b = record { no_checksum_lem = λ l. refl; no_memory = λ r. refl }

  key_quiet : (b : ℕ) → Quiet (e.left e.key b ∷ [])
  unfolding latest_from memory_from
  key_quiet b = record { no_checksum_lem = λ l. refl; no_memory = λ r. refl }

  abbrev pub Plain : Use → Type 0
  Plain address = Unit {0}
  Plain number = Unit {0}
  Plain key = Unit {0}
  Plain checksum = ⊥
  Plain memory = ⊥

  abbrev pub AllPlain : List Use → Type 0
  AllPlain [] = Unit {0}
  AllPlain (u ∷ us) = Plain u × AllPlain us

  use_quietly : (u : Use) → Plain u → (j : Journal) → Quietly j (leave_as u j)
  unfolding leave_as
  use_quietly address p j = quietly_leave (e.left e.address) (record { none_in = λ b. refl; one_out = λ b. refl; in_turn = λ n b h. h }) address_quiet j
  use_quietly number p j = quietly_leave (e.left e.count) (record { none_in = λ b. refl; one_out = λ b. refl; in_turn = λ n b h. h }) count_quiet j
  use_quietly key p j = quietly_leave (e.left e.key) (record { none_in = λ b. refl; one_out = λ b. refl; in_turn = λ n b h. h }) key_quiet j
  use_quietly checksum p j = absurd p
  use_quietly memory p j = absurd p

  pub uses_quietly : (us : List Use) → AllPlain us → (j : Journal) → Quietly j (leave_all_as us j)
  unfolding leave_all_as
  uses_quietly [] p j = quietly_none j
  uses_quietly (u ∷ us) (p, ps) j = quietly_both (use_quietly u p j) (uses_quietly us ps (leave_as u j))

  abbrev pub journal_of : List Entry → List ℕ → ℕ → ℕ → Journal
  journal_of es h base count = record { entries = es; held = h; base = base; count = count }

  -- Checksum bytes: all held leave, in order, into the latest CalcCRC's input.
  checksums : (es : List Entry) (h : List ℕ) (base count : ℕ) → leave_all_as (replicate (length h) checksum) (journal_of es h base count) ≡ journal_of (es ++ map (e.left e.checksum) h) [] base count
  unfolding leave_all_as leave_as leave
  checksums es [] base count = ap (λ (z : List Entry). journal_of z [] base count) (sym (append-nil es))
  checksums es (b ∷ h) base count =
      checksums (es ++ e.left e.checksum b ∷ []) h base count ∙ ap (λ (z : List Entry). journal_of z [] base count) (append_assoc es (e.left e.checksum b ∷ []) (map (e.left e.checksum) h))

  absorbing : (h : List ℕ) (l : Latest) → latest_from l (map (e.left e.checksum) h) ≡ record { mode = l.mode; preset = l.preset; input = l.input ++ h }
  unfolding latest_from
  absorbing [] l = ap (λ (z : List ℕ). record { mode = l.mode; preset = l.preset; input = z }) (sym (append-nil l.input))
  absorbing (b ∷ h) l = absorbing h (noted l (e.left e.checksum b)) ∙ ap (λ (z : List ℕ). record { mode = l.mode; preset = l.preset; input = z }) (append_assoc l.input (b ∷ []) h)

  -- Memory bytes leave to the place and behind it.
  unfoldable pub placed : ℕ → List ℕ → List Entry
  placed a [] = []
  placed a (b ∷ bs) = e.to_memory a b ∷ placed (a + 1) bs

  pub memories : (n : ℕ) (es : List Entry) (h : List ℕ) (base count : ℕ) → n ≤ length h →
      leave_all_as (replicate n memory) (journal_of es h base count) ≡ journal_of (es ++ placed (base + count) (take n h)) (drop n h) base (count + n)
  unfolding leave_all_as leave_as leave placed
  memories zero es h base count fits =
      let none : count ≡ count + 0 = omega arith in
      ap (λ (z : List Entry). journal_of z h base count) (sym (append-nil es)) ∙ ap (journal_of (es ++ []) h base) none
  memories (suc n) es [] base count fits = absurd (not-suc-le-zero fits)
  memories (suc n) es (b ∷ h) base count fits =
      let place : base + (count + 1) ≡ base + count + 1 = omega arith in
      let total : count + 1 + n ≡ count + suc n = omega arith in
      memories n (es ++ e.to_memory (base + count) b ∷ []) h base (count + 1) (le_of_suc-le-suc fits)
      ∙ ap (λ (z : List Entry). journal_of z (drop n h) base (count + 1 + n)) (append_assoc es (e.to_memory (base + count) b ∷ []) (placed (base + (count + 1)) (take n h)))
      ∙ ap (λ (z : ℕ). journal_of (es ++ e.to_memory (base + count) b ∷ placed z (take n h)) (drop n h) base (count + 1 + n)) place
      ∙ ap (journal_of (es ++ e.to_memory (base + count) b ∷ placed (base + count + 1) (take n h)) (drop n h) base) total

  moves_placed : (n a : ℕ) (h : List ℕ) → Moves h (placed a (take n h)) (drop n h)
  unfolding placed
  moves_placed zero a h = moves_none h
  moves_placed (suc n) a [] = moves_none []
  moves_placed (suc n) a (b ∷ h) = moves_both (moves_leave (e.to_memory a) (record { none_in = λ x. refl; one_out = λ x. refl; in_turn = λ k x l. l }) b h) (moves_placed n (a + 1) h)

  placed_quiet : (a : ℕ) (bs : List ℕ) (l : Latest) → latest_from l (placed a bs) ≡ l
  unfolding placed latest_from
  placed_quiet a [] l = refl
  placed_quiet a (b ∷ bs) l = placed_quiet (a + 1) bs l

  placed_memory : (a : ℕ) (bs : List ℕ) (r : Memory) → memory_from r (placed a bs) ≡ record { image = r.image; bytes = r.bytes ++ batch a bs }
  unfolding placed memory_from batch
  placed_memory a [] r = ap (λ (z : List Byte). record { image = r.image; bytes = z }) (sym (append-nil r.bytes))
  placed_memory a (b ∷ bs) r =
      placed_memory (a + 1) bs (remembered r (e.to_memory a b))
      ∙ ap (λ (z : List Byte). record { image = r.image; bytes = z }) (append_assoc r.bytes (record { address = a; value = b } ∷ []) (batch (a + 1) bs))

  checksum_memory : (h : List ℕ) (r : Memory) → memory_from r (map (e.left e.checksum) h) ≡ r
  unfolding memory_from
  checksum_memory [] r = refl
  checksum_memory (b ∷ h) r = checksum_memory h r

  -- CalcCRC takes every held byte.
  pub absorbed_agrees : (h : List ℕ) (c : Command) (k : Checksum) (eeprom : List ℕ) (f : Bool) (j : Journal) →
      Agrees h c k eeprom f j → Agrees [] c (record { register = absorbed_all k.mode k.register h; mode = k.mode }) eeprom f (leave_all_as (replicate (length j.held) checksum) j)
  absorbed_agrees h c k eeprom f j a =
      let l = latest_from no_checksum j.entries in
      let xs = map (e.left e.checksum) j.held in
      let unit : Checksum → List ℕ → Checksum = λ z bs. record { register = absorbed_all z.mode z.register bs; mode = z.mode } in
      let memory : memory_from (record { image = image; bytes = [] }) (j.entries ++ xs) ≡ memory_of j = memory_append _ j.entries xs ∙ checksum_memory j.held _ in
      subst (Agrees [] c (unit k h) eeprom f) (sym (checksums j.entries j.held j.base j.count))
      (record {
        same_held = refl;
        moved = moves_both a.moved (moves_all (e.left e.checksum) (record { none_in = λ b. refl; one_out = λ b. refl; in_turn = λ n b i. i }) j.held);
        same_checksum =
            ap checksum_of (latest_append no_checksum j.entries xs ∙ absorbing j.held l)
            ∙ ap (λ (z : ℕ). record { register = z; mode = l.mode }) (in_parts _ l.preset l.input j.held)
            ∙ ap (λ (z : Checksum). unit z j.held) a.same_checksum
            ∙ ap (unit k) a.same_held;
        same_memory =
            record {
              finished = a.same_memory.finished;
              split = ap (λ (r : Memory). r.bytes) memory ∙ a.same_memory.split;
              stored = a.same_memory.stored ∙ ap (λ (r : Memory). stored_bytes r.image a.same_memory.finished) (sym memory);
            };
        same_place = a.same_place;
        key_clear = a.key_clear;
        whole = a.whole;
      })

  -- WriteE2 latches bytes.
  pub latched_agrees : (n : ℕ) (h : List ℕ) (start left : ℕ) (k : Checksum) (eeprom : List ℕ) (f : Bool) (j : Journal) → n ≤ length h → 0x10 ≤ start → start + n ≤ 0x200 →
      Agrees h (WriteE2 (ready start)) k eeprom f j → Agrees (drop n h) (WriteE2 (programming start (take n h) left)) k eeprom f (leave_all_as (replicate n memory) j)
  latched_agrees n h start left k eeprom f j fits high inside a =
      let xs = placed (j.base + j.count) (take n j.held) in
      let same = a.same_held in
      let room : n ≤ length j.held = subst (λ (z : List ℕ). n ≤ length z) (sym same) fits in
      let place : j.base + j.count ≡ start = omega (arith, a.same_place.0, a.same_place.1) in
      let size : length (take n h) ≡ n = length-take-le n h fits in
      let memory : memory_from (record { image = image; bytes = [] }) (j.entries ++ xs) ≡ record { image = (memory_of j).image; bytes = (memory_of j).bytes ++ batch (j.base + j.count) (take n j.held) } =
      memory_append _ j.entries xs ∙ placed_memory (j.base + j.count) (take n j.held) _ in
      subst (Agrees (drop n h) (WriteE2 (programming start (take n h) left)) k eeprom f) (sym (memories n j.entries j.held j.base j.count room))
      (record {
        same_held = ap (drop n) same;
        moved = moves_both a.moved (moves_placed n (j.base + j.count) j.held);
        same_checksum = ap checksum_of (latest_append no_checksum j.entries xs ∙ placed_quiet (j.base + j.count) (take n j.held) _) ∙ a.same_checksum;
        same_memory =
            record {
              finished = a.same_memory.finished;
              split =
                  ap (λ (r : Memory). r.bytes) memory
                  ∙ ap (λ (z : List Byte). z ++ batch (j.base + j.count) (take n j.held)) (a.same_memory.split ∙ append-nil a.same_memory.finished)
                  ∙ ap (λ (z : ℕ). a.same_memory.finished ++ batch z (take n j.held)) place
                  ∙ ap (λ (z : List ℕ). a.same_memory.finished ++ batch start (take n z)) same;
              stored = a.same_memory.stored ∙ ap (λ (r : Memory). stored_bytes r.image a.same_memory.finished) (sym memory);
            };
        same_place = (omega arith, omega arith);
        key_clear = tt;
        whole = a.whole;
      })

  -- A programming ends: the latched bytes are in EEPROM.
  stored_batch : (bs : List ℕ) (eeprom : List ℕ) (a : ℕ) → stored_from eeprom a bs ≡ stored_bytes eeprom (batch a bs)
  unfolding stored_from stored_bytes batch
  stored_batch [] eeprom a = refl
  stored_batch (b ∷ bs) eeprom a = stored_batch bs (set eeprom a b) (a + 1)

  pub stored_parts : (xs ys : List Byte) (cells : List ℕ) → stored_bytes cells (xs ++ ys) ≡ stored_bytes (stored_bytes cells xs) ys
  unfolding stored_bytes
  stored_parts [] ys cells = refl
  stored_parts (x ∷ xs) ys cells = stored_parts xs ys (set cells x.address x.value)

  stored_length : (bs : List ℕ) (eeprom : List ℕ) (a : ℕ) → length (stored_from eeprom a bs) ≡ length eeprom
  unfolding stored_from
  stored_length [] eeprom a = refl
  stored_length (b ∷ bs) eeprom a = stored_length bs (set eeprom a b) (a + 1) ∙ length-set eeprom a b

  pub programmed_agrees : (h : List ℕ) (start left : ℕ) (bs : List ℕ) (k : Checksum) (eeprom : List ℕ) (f : Bool) (j : Journal) →
      Agrees h (WriteE2 (programming start bs left)) k eeprom f j → Agrees h (WriteE2 (ready ((start + length bs) % 0x200))) k (stored_from eeprom start bs) f j
  programmed_agrees h start left bs k eeprom f j a =
      record {
        same_held = a.same_held;
        moved = a.moved;
        same_checksum = a.same_checksum;
        same_memory =
            record {
              finished = a.same_memory.finished ++ batch start bs;
              split = a.same_memory.split ∙ sym (append-nil (a.same_memory.finished ++ batch start bs));
              stored =
                  stored_batch bs eeprom start
                  ∙ ap (λ (z : List ℕ). stored_bytes z (batch start bs)) a.same_memory.stored
                  ∙ sym (stored_parts a.same_memory.finished (batch start bs) (memory_of j).image);
            };
        same_place = (ap (λ (z : ℕ). z % 0x200) a.same_place.0, a.same_place.1);
        key_clear = tt;
        whole = stored_length bs eeprom start ∙ a.whole;
      }

  -- Another command, where neither has latched bytes.
  pub commanded : {h : List ℕ} {c c' : Command} {k : Checksum} {eeprom : List ℕ} {f f' : Bool} {j : Journal} →
      Agrees h c k eeprom f j → waiting c' ≡ waiting c → PlaceIs c' j.base j.count → KeyClear c' f' → Agrees h c' k eeprom f' j
  commanded {h} {c} {c'} {k} {eeprom} {f} {f'} {j} a wait place clear = quietly a (quietly_none j) a.same_held wait place clear

  -- A WriteE2's address is known.
  pub rebased : {h : List ℕ} {c c' : Command} {k : Checksum} {eeprom : List ℕ} {f f' : Bool} {j : Journal} (start : ℕ) →
      Agrees h c k eeprom f j → waiting c' ≡ waiting c → PlaceIs c' start 0 → KeyClear c' f' → Agrees h c' k eeprom f' (based start j)
  rebased {j = j} start a wait place clear =
      record {
        same_held = a.same_held;
        moved = a.moved;
        same_checksum = a.same_checksum;
        same_memory = record { finished = a.same_memory.finished; split = a.same_memory.split ∙ ap (λ (z : List Byte). a.same_memory.finished ++ z) (sym wait); stored = a.same_memory.stored };
        same_place = place;
        key_clear = clear;
        whole = a.whole;
      }
