-- Which entries a move of bytes adds to a journal, by any property of entries: where the bytes that are offered, those that leave, and what else a step
-- of a command or a write to a register enters have it, so have all that it adds.
-- Assumes nothing.
use mathlib.Core.Path.{◌≡◌, refl, sym, ap, ◌∙◌}
use mathlib.Core.Bool.{Bool, true, false, cond}
use mathlib.Core.List.{List, [], ◌∷◌, ◌++◌, append_assoc, append-nil, map}
use Prim.Native.Nat.{ℕ, zero, suc, ◌+◌, ◌%◌, min}
use lib.Dec.{ltb, leb, eqb}
use lib.ListN.{length, replicate}
use Rattle.bits.specs.Bits.{bit_set}
use Rattle.machine.specs.State.{Machine, Command, Writing, Idle, WriteE2, ReadE2, LoadConfig, LoadKeyE2, LoadKey, CalcCRC, Transmit, Receive, TransceiveSending, TransceiveReceiving, addressing, ready, programming}
use Rattle.machine.specs.Fifo.{register_at}
use Rattle.machine.specs.Memory.{room_in_block}
use Rattle.machine.specs.Commands.{code_of, programs, command_written}
use Rattle.machine.proofs.Cases.{either, within_write_e2_lem}
use Rattle.journal.specs.Entries as e
use Rattle.journal.specs.Entries.{Entry, Destination, collect}
use Rattle.journal.specs.Journal.{Journal, entered, offer, offer_all, leave_from, leave, leave_all, Use, address, number, key, checksum, memory, leave_as, leave_all_as, uses_of, based, based_within, based_by, address_held, offers_of, begun, enter_command, enter_register}

module _ (P : Entry → Type 0) where
  unfoldable pub Each : List Entry → Type 0
  Each [] = Unit {0}
  Each (x ∷ xs) = P x × Each xs

  each_both : (xs ys : List Entry) → Each xs → Each ys → Each (xs ++ ys)
  unfolding Each
  each_both [] ys p q = q
  each_both (x ∷ xs) ys (p, ps) q = (p, each_both xs ys ps q)

  -- Where an entry with the property has nothing of a kind, such entries have nothing of it.
  pub none_of : {X : Type 0} (f : Entry → List X) → ((x : Entry) → P x → f x ≡ []) → (xs : List Entry) → Each xs → collect f xs ≡ []
  unfolding Each collect
  none_of f law [] ps = refl
  none_of f law (x ∷ xs) (p, ps) = ap (λ (z : List _). z ++ collect f xs) (law x p) ∙ none_of f law xs ps

  -- A journal went on by entries that have it.
  pub record Adds (j k : Journal) : Type 0 where
    pub entries : List Entry
    pub appended : k.entries ≡ j.entries ++ entries
    pub each : Each entries

  pub adds_none : (j k : Journal) → k.entries ≡ j.entries → Adds j k
  unfolding Each
  adds_none j k same = record { entries = []; appended = same ∙ sym (append-nil j.entries); each = tt }

  pub adds_one : (j k : Journal) (x : Entry) → k.entries ≡ j.entries ++ x ∷ [] → P x → Adds j k
  unfolding Each
  adds_one j k x is p = record { entries = x ∷ []; appended = is; each = (p, tt) }

  pub adds_both : {j k l : Journal} → Adds j k → Adds k l → Adds j l
  adds_both {j} {k} {l} a b =
      record {
        entries = a.entries ++ b.entries;
        appended = b.appended ∙ ap (λ (z : List Entry). z ++ b.entries) a.appended ∙ append_assoc j.entries a.entries b.entries;
        each = each_both a.entries b.entries a.each b.each;
      }

  -- The first held byte leaves, or all do and the event is entered.
  pub leave_adds : (x : ℕ → Entry) → ((b : ℕ) → P (x b)) → (j : Journal) → Adds j (leave x j)
  unfolding leave
  leave_adds x p j = go j.held
    where
      go : (h : List ℕ) → Adds j (leave_from h x j)
      go [] = adds_none j j refl
      go (b ∷ h) = adds_one j _ (x b) refl (p b)

  pub map_adds : (x : ℕ → Entry) → ((b : ℕ) → P (x b)) → (h : List ℕ) (j k : Journal) → k.entries ≡ j.entries ++ map x h → Adds j k
  map_adds x p [] j k is = adds_none j k (is ∙ append-nil j.entries)
  map_adds x p (b ∷ h) j k is =
      let next : Journal = record { entries = j.entries ++ x b ∷ []; held = []; base = 0; count = 0 } in
      adds_both (adds_one j next (x b) refl (p b)) (map_adds x p h next k (is ∙ sym (append_assoc j.entries (x b ∷ []) (map x h))))

  pub all_adds : (x : ℕ → Entry) (y : Entry) → ((b : ℕ) → P (x b)) → P y → (j : Journal) → Adds j (leave_all x y j)
  unfolding leave_all
  all_adds x y p q j =
      let next : Journal = record { entries = j.entries ++ map x j.held; held = []; base = j.base; count = j.count } in
      adds_both (map_adds x p j.held j next refl) (adds_one next _ y refl q)

  -- What offers, a command's arguments and a write to a register enter has the property. Key and memory bytes are apart.
  pub record Moved : Type 0 where
    pub taken_in_lem : (b : ℕ) → P (e.taken_in b)
    pub turned_away_lem : (b : ℕ) → P (e.turned_away b)
    pub to_address : (b : ℕ) → P (e.left e.address b)
    pub to_count : (b : ℕ) → P (e.left e.count b)
    pub to_checksum : (b : ℕ) → P (e.left e.checksum b)
    pub to_flush : (b : ℕ) → P (e.left e.flush b)
    pub flushed : P e.flushed
    pub began : (mode lsb msb : ℕ) → P (e.calc_crc mode lsb msb)

  -- What a byte is entered as, by its use.
  abbrev Used : Use → Type 0
  Used address = (b : ℕ) → P (e.left e.address b)
  Used number = (b : ℕ) → P (e.left e.count b)
  Used key = (b : ℕ) → P (e.left e.key b)
  Used checksum = (b : ℕ) → P (e.left e.checksum b)
  Used memory = (a b : ℕ) → P (e.to_memory a b)

  abbrev AllUsed : List Use → Type 0
  AllUsed [] = Unit {0}
  AllUsed (u ∷ us) = Used u × AllUsed us

  use_adds : (u : Use) → Used u → (j : Journal) → Adds j (leave_as u j)
  unfolding leave_as
  use_adds address p j = leave_adds (e.left e.address) p j
  use_adds number p j = leave_adds (e.left e.count) p j
  use_adds key p j = leave_adds (e.left e.key) p j
  use_adds checksum p j = leave_adds (e.left e.checksum) p j
  use_adds memory p j =
      let place = j.base + j.count in
      let l = leave_adds (e.to_memory place) (p place) j in record { entries = l.entries; appended = l.appended; each = l.each }

  uses_add : (us : List Use) → AllUsed us → (j : Journal) → Adds j (leave_all_as us j)
  unfolding leave_all_as
  uses_add [] p j = adds_none j j refl
  uses_add (u ∷ us) (p, ps) j = adds_both (use_adds u p j) (uses_add us ps (leave_as u j))

  -- Where every entry by which a byte leaves has it, so have those by which bytes leave to a command.
  pub leaving_adds : ((to : Destination) (b : ℕ) → P (e.left to b)) → ((a b : ℕ) → P (e.to_memory a b)) → (us : List Use) (j : Journal) → Adds j (leave_all_as us j)
  leaving_adds leaves stores us j = uses_add us (all us) j
    where
      each : (u : Use) → Used u
      each address = leaves e.address
      each number = leaves e.count
      each key = leaves e.key
      each checksum = leaves e.checksum
      each memory = stores

      all : (us : List Use) → AllUsed us
      all [] = tt
      all (u ∷ us) = (each u, all us)

  repeated : (n : ℕ) (u : Use) → Used u → AllUsed (replicate n u)
  repeated zero u p = tt
  repeated (suc n) u p = (p, repeated n u p)

  wanted : (t : Bool) (us : List Use) → AllUsed us → AllUsed (cond t us [])
  wanted true us p = p
  wanted false us p = tt

  pub based_adds : (c : Command) (before j : Journal) → Adds j (based_by c before j)
  based_adds c before j = within_write_e2_lem (λ k. Adds j k) (λ w. based_within w before j) j c (λ w is. go w) (adds_none j j refl)
    where
      go : (w : Writing) → Adds j (based_within w before j)
      go addressing = either (Adds j) (leb 2 (length before.held)) _ j (adds_none j (based (address_held before) j) refl) (adds_none j j refl)
      go (ready a) = adds_none j j refl
      go (programming a bs left) = adds_none j j refl

  -- A write to Command.
  pub command_adds : ((mode lsb msb : ℕ) → P (e.calc_crc mode lsb msb)) → (v : ℕ) (m : Machine) (j : Journal) → Adds j (enter_command v m j)
  command_adds began v m j =
      let x = e.calc_crc (register_at m 0x22) (register_at m 0x23) (register_at m 0x24) in
      let none = adds_none j j refl in
      either (Adds j) (programs m.command) j (begun (command_written v m).command m j) none
      (either (Adds j) (eqb (code_of (command_written v m).command) 0x12) (entered x j) j (adds_one j (entered x j) x refl (began (register_at m 0x22) (register_at m 0x23) (register_at m 0x24))) none)

  module _ (moved : Moved) where
    offer_adds : (b : ℕ) (j : Journal) → Adds j (offer b j)
    unfolding offer
    offer_adds b j = go (ltb (length j.held) 64)
      where
        go : (t : Bool) → Adds j (cond t (record { entries = j.entries ++ e.taken_in b ∷ []; held = j.held ++ b ∷ []; base = j.base; count = j.count }) (entered (e.turned_away b) j))
        go true = adds_one j _ (e.taken_in b) refl (moved.taken_in_lem b)
        go false = adds_one j _ (e.turned_away b) refl (moved.turned_away_lem b)

    pub offers_add : (bs : List ℕ) (j : Journal) → Adds j (offer_all bs j)
    unfolding offer_all
    offers_add [] j = adds_none j j refl
    offers_add (b ∷ bs) j = adds_both (offer_adds b j) (offers_add bs (offer b j))

    -- What a command takes at once: key bytes under LoadKey alone, and memory bytes under a WriteE2 whose address is known.
    uses_of_lem : (c : Command) (n : ℕ) → (c ≡ LoadKey → Used key) → ((a : ℕ) → c ≡ WriteE2 (ready a) → Used memory) → AllUsed (uses_of c n)
    uses_of_lem Idle n k m = tt
    uses_of_lem (WriteE2 addressing) n k m = wanted (leb 2 n) _ (moved.to_address, (moved.to_address, tt))
    uses_of_lem (WriteE2 (ready a)) n k m = wanted (leb 0x10 a) _ (repeated (min (room_in_block a) n) memory (m a refl))
    uses_of_lem (WriteE2 (programming a bs left)) n k m = tt
    uses_of_lem ReadE2 n k m = wanted (leb 3 n) _ (moved.to_address, (moved.to_address, (moved.to_count, tt)))
    uses_of_lem LoadConfig n k m = wanted (leb 2 n) _ (moved.to_address, (moved.to_address, tt))
    uses_of_lem LoadKeyE2 n k m = wanted (leb 2 n) _ (moved.to_address, (moved.to_address, tt))
    uses_of_lem LoadKey n k m = wanted (leb 12 n) _ (repeated 12 key (k refl))
    uses_of_lem CalcCRC n k m = repeated n checksum moved.to_checksum
    uses_of_lem Transmit n k m = tt
    uses_of_lem Receive n k m = tt
    uses_of_lem TransceiveSending n k m = tt
    uses_of_lem TransceiveReceiving n k m = tt

    -- One step of a command.
    pub step_adds : (c : Command) (eeprom : List ℕ) (j : Journal) → (c ≡ LoadKey → Used key) → ((a : ℕ) → c ≡ WriteE2 (ready a) → Used memory) →
        Adds j (offer_all (offers_of c eeprom j) (based_by c j (leave_all_as (uses_of c (length j.held)) j)))
    step_adds c eeprom j k m =
        adds_both (adds_both (uses_add (uses_of c (length j.held)) (uses_of_lem c (length j.held) k m) j) (based_adds c j _)) (offers_add (offers_of c eeprom j) _)

    -- A write to a register.
    pub register_adds : (r v : ℕ) (m : Machine) (j : Journal) → Adds j (enter_register r v m j)
    register_adds r v m j =
        let none = adds_none j j refl in
        either (Adds j) (eqb (r % 8) 0) j _ none
        (either (Adds j) (eqb r 0x01) (enter_command v m j) _ (command_adds moved.began v m j)
        (either (Adds j) (eqb r 0x02) (offer v j) _ (offer_adds v j)
        (either (Adds j) (eqb r 0x09) _ j (either (Adds j) (bit_set v 0) _ j (all_adds (e.left e.flush) e.flushed moved.to_flush moved.flushed j) none) none)))
