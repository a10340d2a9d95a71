-- Which key bytes a call enters, and what is judged from them.
-- Assumes nothing.
use mathlib.Core.Path.{◌≡◌, refl, sym, ap, ◌∙◌, subst}
use mathlib.Core.Bool.{Bool, true, false, cond, not, ◌||◌, true≢false}
use mathlib.Core.List.{List, [], ◌∷◌, ◌++◌, append_assoc, append-nil}
use Prim.Native.Nat.{ℕ, zero, suc}
use lib.Dec.{ltb, leb, eqb}
use lib.ListN.{length, take, replicate}
use lib.Seq.{length-take-le, take-nil}
use borrow.Author.Tests.{leb-true}
use Rattle.key.specs.Key.{format_holds, judged_key}
use Rattle.machine.specs.State.{Machine, Key, Command, Idle, WriteE2, ReadE2, LoadConfig, LoadKeyE2, LoadKey, CalcCRC, Transmit, Receive, TransceiveSending, TransceiveReceiving, addressing, ready, programming, with_command}
use Rattle.machine.specs.Memory.{room_in_block, programming_clocks}
use Rattle.machine.specs.Timer.{timer_clock}
use Rattle.machine.specs.Commands.{code_of, enough, taken, ended, with_access_err, raised_tx, checksum_taken, key_judged, stepped_as, stepped, settled}
use Rattle.machine.specs.Power.{stands_still}
use Rattle.machine.specs.Registers.{register_written}
use Rattle.machine.specs.Events.{batch_stored, clock}
use Rattle.machine.proofs.Cases.{either, while_programming_lem}
use Rattle.journal.specs.Entries as e
use Rattle.journal.specs.Entries.{Entry, collect, key_bytes}
use Rattle.journal.specs.Journal.{Journal, offer_all, leave, key, leave_as, leave_all_as, uses_of, based_by, offers_of, enter_step, enter_settled, enter_register, enter_written, enter_end, enter_clock_of, enter_clock, enter_clocks}
use Rattle.journal.proofs.Folds.{collect_append}
use Rattle.journal.proofs.Adding.{Adds, none_of, adds_none, adds_both, Moved, step_adds, register_adds}
use Rattle.journal.proofs.Agreement.{AgreesWith, KeyClear}
use Rattle.journal.proofs.Calls.{register_agrees}

-- A journal went on and entered these key bytes.
abbrev pub Keys : Journal → List ℕ → Journal → Type 0
Keys j ks k = collect key_bytes k.entries ≡ collect key_bytes j.entries ++ ks

-- An entry without a key byte, and a journal that went on by such entries.
abbrev pub NoKey : Entry → Type 0
NoKey x = key_bytes x ≡ []

abbrev pub Keyless : Journal → Journal → Type 0
Keyless j k = Adds NoKey j k

none_more : (j k : Journal) → Keyless j k → Keys j [] k
none_more j k h =
    ap (collect key_bytes) h.appended
    ∙ collect_append key_bytes j.entries h.entries
    ∙ ap (λ (z : List ℕ). collect key_bytes j.entries ++ z) (none_of NoKey key_bytes (λ x p. p) h.entries h.each)

-- No offer, argument byte or write to a register has one.
pub moved : Moved NoKey
moved =
    record {
      taken_in_lem = λ b. refl;
      turned_away_lem = λ b. refl;
      to_address = λ b. refl;
      to_count = λ b. refl;
      to_checksum = λ b. refl;
      to_flush = λ b. refl;
      flushed = refl;
      began = λ mode lsb msb. refl;
    }

-- Every command but LoadKey takes no key byte.
abbrev is_load_key : Command → Bool
is_load_key c = eqb (code_of c) 0x19

step_keyless : (m : Machine) (j : Journal) → is_load_key m.command ≡ false → Keyless j (enter_step m j)
unfolding enter_step
step_keyless m j h = step_adds NoKey moved m.command m.eeprom j (λ is. absurd (true≢false (sym (ap is_load_key is) ∙ h))) (λ a is x b. refl)

-- No step leads to LoadKey.
abbrev OtherNow : Machine → Type 0
OtherNow m = is_load_key m.command ≡ false

stepped_other : (c : Command) (m : Machine) → is_load_key c ≡ false → OtherNow m → OtherNow (stepped_as c m)
stepped_other Idle m h o = o
stepped_other (WriteE2 addressing) m h o = either OtherNow (enough 2 m) _ m refl o
stepped_other (WriteE2 (ready a)) m h o = either OtherNow (enough 1 m) _ m (either OtherNow (ltb a 0x10) (ended (with_access_err m)) (with_command (WriteE2 (programming a (take (room_in_block a) m.held) programming_clocks)) (taken (room_in_block a) m)) refl refl) o
stepped_other (WriteE2 (programming a bs left)) m h o = o
stepped_other ReadE2 m h o = either OtherNow (enough 3 m) _ m refl o
stepped_other LoadConfig m h o = either OtherNow (enough 2 m) _ m refl o
stepped_other LoadKeyE2 m h o = either OtherNow (enough 2 m) _ m refl o
stepped_other LoadKey m h o = absurd (true≢false h)
stepped_other CalcCRC m h o = either OtherNow (enough 1 m) (raised_tx (checksum_taken m)) m o o
stepped_other Transmit m h o = o
stepped_other Receive m h o = o
stepped_other TransceiveSending m h o = o
stepped_other TransceiveReceiving m h o = o

settle_keyless : (m : Machine) (j : Journal) → OtherNow m → Keyless j (enter_settled m j)
unfolding enter_settled stepped
settle_keyless m j o = adds_both NoKey (step_keyless m j o) (step_keyless (stepped m) (enter_step m j) (stepped_other m.command m o o))

-- Twelve key bytes leave.
key_bytes_lem : (n : ℕ) (es : List Entry) (h : List ℕ) (base count : ℕ) →
    collect key_bytes (leave_all_as (replicate n key) (record { entries = es; held = h; base = base; count = count })).entries ≡ collect key_bytes es ++ take n h
unfolding leave_all_as leave_as leave collect
key_bytes_lem zero es h base count = sym (append-nil (collect key_bytes es))
key_bytes_lem (suc n) es [] base count = key_bytes_lem n es [] base count ∙ ap (λ (z : List ℕ). collect key_bytes es ++ z) (take-nil n)
key_bytes_lem (suc n) es (b ∷ h) base count =
    key_bytes_lem n (es ++ e.left e.key b ∷ []) h base count
    ∙ ap (λ (z : List ℕ). z ++ take n h) (collect_append key_bytes es (e.left e.key b ∷ []))
    ∙ append_assoc (collect key_bytes es) (b ∷ []) (take n h)

-- What is judged from key bytes: nothing where there are none.
pub data Judged (k : Key) (f : Bool) : List ℕ → Type 0 where
  nothing : Judged k f []
  twelve : {ks : List ℕ} → length ks ≡ 12 → k ≡ record { loaded = format_holds ks; bytes = judged_key ks } → f ≡ not (format_holds ks) → Judged k f ks

pub record KeyCall (j : Journal) (k : Journal) (next : Machine) : Type 0 where
  pub bytes : List ℕ
  pub entered_keys : Keys j bytes k
  pub judged : Judged next.key next.status.errors.key_err bytes

pub key_none : (j k : Journal) (next : Machine) → Keyless j k → KeyCall j k next
key_none j k next h = record { bytes = []; entered_keys = none_more j k h; judged = nothing }

module _ (image : List ℕ) where
  -- A LoadKey takes its twelve bytes, or none.
  load_key : (m : Machine) (j : Journal) → m.command ≡ LoadKey → AgreesWith image m j → KeyCall j (enter_settled m j) (settled m)
  unfolding enter_settled enter_step stepped settled offer_all leave_all_as
  load_key m j is a = go (enough 12 m) refl
    where
      left : Bool → Journal
      left t = leave_all_as (cond t (replicate 12 key) []) j

      ends : Machine
      ends = ended (key_judged (take 12 m.held) (taken 12 m))

      machine_steps : (t : Bool) → enough 12 m ≡ t → stepped m ≡ cond t ends m
      machine_steps t et = ap (λ (c : Command). stepped_as c m) is ∙ ap (λ (z : Bool). cond z ends m) et

      journal_steps : (t : Bool) → enough 12 m ≡ t → enter_step m j ≡ left t
      journal_steps t et =
          ap (λ (c : Command). offer_all (offers_of c m.eeprom j) (based_by c j (leave_all_as (uses_of c (length j.held)) j))) is
          ∙ ap left (ap (λ (h : List ℕ). leb 12 (length h)) a.same_held ∙ et)

      clear : m.status.errors.key_err ≡ false
      clear = subst (λ (c : Command). KeyClear c m.status.errors.key_err) is a.key_clear

      taken_keys : enough 12 m ≡ true → KeyCall j (left true) ends
      taken_keys et =
          record {
            bytes = take 12 m.held;
            entered_keys = key_bytes_lem 12 j.entries j.held j.base j.count ∙ ap (λ (h : List ℕ). collect key_bytes j.entries ++ take 12 h) a.same_held;
            judged = twelve (length-take-le 12 m.held (leb-true 12 (length m.held) et)) refl (ap (λ (f : Bool). f || not (format_holds (take 12 m.held))) clear);
          }

      go : (t : Bool) → enough 12 m ≡ t → KeyCall j (enter_settled m j) (settled m)
      go true et =
          subst (λ (k : Journal). KeyCall j k (settled m)) (sym (ap (λ (n : Machine). enter_step n (enter_step m j)) (machine_steps true et) ∙ ap (enter_step ends) (journal_steps true et)))
          (subst (KeyCall j (left true)) (sym (ap stepped (machine_steps true et))) (taken_keys et))
      go false et =
          key_none j _ (settled m)
          (adds_none NoKey j _ (ap (λ (k : Journal). k.entries)
          (ap (λ (n : Machine). enter_step n (enter_step m j)) (machine_steps false et) ∙ ap (enter_step m) (journal_steps false et) ∙ journal_steps false et)))

  settle_keys : (m : Machine) (j : Journal) → AgreesWith image m j → KeyCall j (enter_settled m j) (settled m)
  settle_keys m j a = go m.command refl
    where
      go : (c : Command) → m.command ≡ c → KeyCall j (enter_settled m j) (settled m)
      go LoadKey is = load_key m j is a
      go Idle is = key_none j _ (settled m) (settle_keyless m j (ap is_load_key is))
      go (WriteE2 w) is = key_none j _ (settled m) (settle_keyless m j (ap is_load_key is))
      go ReadE2 is = key_none j _ (settled m) (settle_keyless m j (ap is_load_key is))
      go LoadConfig is = key_none j _ (settled m) (settle_keyless m j (ap is_load_key is))
      go LoadKeyE2 is = key_none j _ (settled m) (settle_keyless m j (ap is_load_key is))
      go CalcCRC is = key_none j _ (settled m) (settle_keyless m j (ap is_load_key is))
      go Transmit is = key_none j _ (settled m) (settle_keyless m j (ap is_load_key is))
      go Receive is = key_none j _ (settled m) (settle_keyless m j (ap is_load_key is))
      go TransceiveSending is = key_none j _ (settled m) (settle_keyless m j (ap is_load_key is))
      go TransceiveReceiving is = key_none j _ (settled m) (settle_keyless m j (ap is_load_key is))

  -- A host write.
  pub written_keys : (r v : ℕ) (m : Machine) (j : Journal) → AgreesWith image m j → KeyCall j (enter_written r v m j) (settled (register_written r v m))
  unfolding enter_written
  written_keys r v m j a =
      let k = settle_keys (register_written r v m) (enter_register r v m j) (register_agrees image r v m j a) in
      record {
        bytes = k.bytes;
        entered_keys = k.entered_keys ∙ ap (λ (z : List ℕ). z ++ k.bytes) (none_more j _ (register_adds NoKey moved r v m j) ∙ append-nil (collect key_bytes j.entries));
        judged = k.judged;
      }

  -- Clocks enter no key byte.
  clocked_keyless : (c : Command) (m : Machine) (j : Journal) → Keyless j (enter_clock_of c m j)
  clocked_keyless c m j =
      while_programming_lem (Keyless j) (λ s bs left. cond (leb left 1) (enter_end s bs m j) j) j c
      (λ s bs left is.
      let none = adds_none NoKey j j refl in
      either (Adds NoKey j) (leb left 1) (enter_end s bs m j) j (either (Adds NoKey j) (eqb (length j.held) 0) j _ none (settle_keyless (batch_stored s bs m) j refl)) none)
      (adds_none NoKey j j refl)

  clock_keyless : (m : Machine) (j : Journal) → Keyless j (enter_clock m j)
  clock_keyless m j = either (Adds NoKey j) (stands_still m) j _ (adds_none NoKey j j refl) (clocked_keyless m.command (timer_clock m) j)

  pub clocks_keyless : (n : ℕ) (m : Machine) (j : Journal) → Keyless j (enter_clocks n m j)
  unfolding enter_clocks
  clocks_keyless zero m j = adds_none NoKey j j refl
  clocks_keyless (suc n) m j = adds_both NoKey (clock_keyless m j) (clocks_keyless n (clock m) (enter_clock m j))
