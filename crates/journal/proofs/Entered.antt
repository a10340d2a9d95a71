-- Which entries a host write, an advance and a delivery add: none of a host read, of a take or of a start, and the memory bytes among them, behind those
-- that waited, are those that wait then.
-- Assumes nothing.
use mathlib.Core.Path.{◌≡◌, refl, sym, ap, ◌∙◌, subst}
use mathlib.Core.Bool.{Bool, true, false, cond, ◌&&◌, true≢false}
use mathlib.Core.List.{List, [], ◌∷◌, ◌++◌, append_assoc, append-nil}
use Prim.Native.Nat.{ℕ, ◌+◌, ◌%◌, ◌≤◌, min}
use native.Mathlib.Omega.{arith}
use lib.Dec.{ltb, leb, eqb}
use lib.ListN.{length, take, replicate}
use borrow.Author.Tests.{ltb-true, ltb-false, leb-false, le-leb, lt-leb}
use Rattle.bits.specs.Bits.{bit_set}
use Rattle.machine.specs.State.{Machine, Command, Writing, Idle, WriteE2, ReadE2, LoadConfig, LoadKeyE2, LoadKey, CalcCRC, Transmit, Receive, TransceiveSending, TransceiveReceiving, addressing, ready, programming, within_write_e2, with_command, with_modes}
use Rattle.machine.specs.Fifo.{offered, flushed}
use Rattle.machine.specs.Memory.{room_in_block, programming_clocks}
use Rattle.machine.specs.Timer.{timer_started, timer_stopped}
use Rattle.machine.specs.Commands.{programs, command_started, command_written, cleared_errors, enough, taken, ended, raised_tx, with_access_err, latched, stepped_as, stepped, settled}
use Rattle.machine.specs.Power.{modes_written}
use Rattle.machine.specs.Registers.{control_written, register_written}
use Rattle.machine.specs.Events.{batch_stored, programmed}
use Rattle.machine.proofs.Cases.{either}
use Rattle.journal.specs.Entries as e
use Rattle.journal.specs.Entries.{Entry, Byte, bytes_to, collect}
use Rattle.journal.specs.Journal.{Journal, offer_all, memory, leave_all_as, uses_of, based_by, offers_of, enter_step, enter_settled, enter_register, enter_written, enter_end}
use Rattle.journal.specs.Demand.{batch, waiting}
use Rattle.journal.specs.Account.{memory_bytes, start_images}
use Rattle.journal.proofs.Folds.{collect_append}
use Rattle.journal.proofs.Adding.{Each, Adds, none_of, adds_none, Moved, step_adds, register_adds}
use Rattle.journal.proofs.Agreement.{Agrees, AgreesWith, placed, memories}
use Rattle.journal.proofs.Steps.{take_least, step_agrees}
use Rattle.journal.proofs.Calls.{idle_latch, code_any, register_agrees, stored_agrees}

-- Entries of no host read, of no take and of no start.
pub record Inside (xs : List Entry) : Type 0 where
  pub no_host : collect (bytes_to e.host) xs ≡ []
  pub no_frame : collect (bytes_to e.frame) xs ≡ []
  pub no_start : collect start_images xs ≡ []

pub inside_none : Inside []
unfolding collect
inside_none = record { no_host = refl; no_frame = refl; no_start = refl }

neither : {X : Type 0} (f : Entry → List X) (xs ys : List Entry) → collect f xs ≡ [] → collect f ys ≡ [] → collect f (xs ++ ys) ≡ []
neither f xs ys p q = collect_append f xs ys ∙ ap (λ (z : List _). z ++ collect f ys) p ∙ q

pub inside_both : (xs ys : List Entry) → Inside xs → Inside ys → Inside (xs ++ ys)
inside_both xs ys a b =
    record {
      no_host = neither (bytes_to e.host) xs ys a.no_host b.no_host;
      no_frame = neither (bytes_to e.frame) xs ys a.no_frame b.no_frame;
      no_start = neither start_images xs ys a.no_start b.no_start;
    }

-- One such entry, which is not of memory either.
pub record Apart (x : Entry) : Type 0 where
  of_host : bytes_to e.host x ≡ []
  of_frame : bytes_to e.frame x ≡ []
  of_start : start_images x ≡ []
  pub of_memory : memory_bytes x ≡ []

pub apart_inside : (xs : List Entry) → Each Apart xs → Inside xs
apart_inside xs each =
    record {
      no_host = none_of Apart (bytes_to e.host) (λ x p. p.of_host) xs each;
      no_frame = none_of Apart (bytes_to e.frame) (λ x p. p.of_frame) xs each;
      no_start = none_of Apart start_images (λ x p. p.of_start) xs each;
    }

-- Every offer, argument byte and write to a register is such.
pub moved : Moved Apart
moved =
    record {
      taken_in_lem = λ b. record { of_host = refl; of_frame = refl; of_start = refl; of_memory = refl };
      turned_away_lem = λ b. record { of_host = refl; of_frame = refl; of_start = refl; of_memory = refl };
      to_address = λ b. record { of_host = refl; of_frame = refl; of_start = refl; of_memory = refl };
      to_count = λ b. record { of_host = refl; of_frame = refl; of_start = refl; of_memory = refl };
      to_checksum = λ b. record { of_host = refl; of_frame = refl; of_start = refl; of_memory = refl };
      to_flush = λ b. record { of_host = refl; of_frame = refl; of_start = refl; of_memory = refl };
      flushed = record { of_host = refl; of_frame = refl; of_start = refl; of_memory = refl };
      began = λ mode lsb msb. record { of_host = refl; of_frame = refl; of_start = refl; of_memory = refl };
    }

abbrev step_of : Command → List ℕ → Journal → Journal
step_of c eeprom j = offer_all (offers_of c eeprom j) (based_by c j (leave_all_as (uses_of c (length j.held)) j))

-- One step of a command that takes no memory byte: all but a WriteE2 whose address is known.
abbrev ready_now : Writing → Bool
ready_now addressing = false
ready_now (ready a) = true
ready_now (programming a bs left) = false

abbrev is_ready : Command → Bool
is_ready c = within_write_e2 ready_now false c

plain_step : (c : Command) (eeprom : List ℕ) (j : Journal) → is_ready c ≡ false → Adds Apart j (step_of c eeprom j)
plain_step c eeprom j other =
    step_adds Apart moved c eeprom j (λ is b. record { of_host = refl; of_frame = refl; of_start = refl; of_memory = refl }) (λ a is. absurd (true≢false (sym (ap is_ready is) ∙ other)))

-- A journal went on under a command, to another: the memory bytes that waited, and those that left, are those that wait then.
pub record Enters (c : Command) (j : Journal) (c' : Command) (k : Journal) : Type 0 where
  pub entries : List Entry
  pub appended : k.entries ≡ j.entries ++ entries
  pub inside : Inside entries
  pub waits : waiting c ++ collect memory_bytes entries ≡ waiting c'

pub enters_plain : {c c' : Command} {j k : Journal} → Adds Apart j k → waiting c ≡ waiting c' → Enters c j c' k
enters_plain {c} {c'} a same =
    record {
      entries = a.entries;
      appended = a.appended;
      inside = apart_inside a.entries a.each;
      waits = ap (λ (z : List Byte). waiting c ++ z) (none_of Apart memory_bytes (λ x p. p.of_memory) a.entries a.each) ∙ append-nil (waiting c) ∙ same;
    }

enters_both : {c d f : Command} {j k l : Journal} → Enters c j d k → Enters d k f l → Enters c j f l
enters_both {c} {d} {f} {j} {k} {l} a b =
    record {
      entries = a.entries ++ b.entries;
      appended = b.appended ∙ ap (λ (z : List Entry). z ++ b.entries) a.appended ∙ append_assoc j.entries a.entries b.entries;
      inside = inside_both a.entries b.entries a.inside b.inside;
      waits =
          ap (λ (z : List Byte). waiting c ++ z) (collect_append memory_bytes a.entries b.entries)
          ∙ sym (append_assoc (waiting c) (collect memory_bytes a.entries) (collect memory_bytes b.entries))
          ∙ ap (λ (z : List Byte). z ++ collect memory_bytes b.entries) a.waits
          ∙ b.waits;
    }

-- Memory bytes that leave to a place and behind it.
placed_inside : (image : List ℕ) (a : ℕ) (bs : List ℕ) → Inside (placed image a bs)
unfolding placed collect
placed_inside image a [] = inside_none
placed_inside image a (b ∷ bs) = let r = placed_inside image (a + 1) bs in record { no_host = r.no_host; no_frame = r.no_frame; no_start = r.no_start }

placed_batch : (image : List ℕ) (a : ℕ) (bs : List ℕ) → collect memory_bytes (placed image a bs) ≡ batch a bs
unfolding placed collect batch
placed_batch image a [] = refl
placed_batch image a (b ∷ bs) = ap (λ (z : List Byte). record { address = a; value = b } ∷ z) (placed_batch image (a + 1) bs)

-- No byte waits for the end of its programming.
abbrev NoneWait : Machine → Type 0
NoneWait m = waiting m.command ≡ []

module _ (image : List ℕ) where
  -- A WriteE2 whose address is known takes waiting bytes, or ends over them.
  latch_enters : (s : ℕ) (m : Machine) (j : Journal) → m.command ≡ WriteE2 (ready s) → AgreesWith image m j →
      Enters Idle j (cond (enough 1 m) (latched s m) m).command (leave_all_as (cond (leb 0x10 s) (replicate (min (room_in_block s) (length j.held)) memory) []) j)
  unfolding leave_all_as
  latch_enters s m j is a = go (enough 1 m) refl
    where
      n : ℕ
      n = min (room_in_block s) (length j.held)

      here : Agrees image m.held (WriteE2 (ready s)) m.checksum m.eeprom m.status.errors.key_err j
      here = subst (λ (c : Command). Agrees image m.held c m.checksum m.eeprom m.status.errors.key_err j) is a

      none : (t : Bool) → n ≡ 0 → Adds Apart j (leave_all_as (cond t (replicate n memory) []) j)
      none true zero_left = subst (λ (k : ℕ). Adds Apart j (leave_all_as (replicate k memory) j)) (sym zero_left) (adds_none Apart j j refl)
      none false zero_left = adds_none Apart j j refl

      latches : (t : Bool) → ltb s 0x10 ≡ t →
          Enters Idle j (cond t (ended (with_access_err m)) (with_command (WriteE2 (programming s (take (room_in_block s) m.held) programming_clocks)) (taken (room_in_block s) m))).command
          (leave_all_as (cond (leb 0x10 s) (replicate n memory) []) j)
      latches true low =
          subst (λ (u : Bool). Enters Idle j Idle (leave_all_as (cond u (replicate n memory) []) j)) (sym (lt-leb 0x10 s (ltb-true s 0x10 low))) (enters_plain (adds_none Apart j j refl) refl)
      latches false high =
          let up : 0x10 ≤ s = ltb-false s 0x10 high in
          let place : j.base + j.count ≡ s = omega (arith, here.same_place.0, here.same_place.1) in
          let left = memories image n j.entries j.held j.base j.count (omega arith) in
          subst (λ (u : Bool). Enters Idle j (WriteE2 (programming s (take (room_in_block s) m.held) programming_clocks)) (leave_all_as (cond u (replicate n memory) []) j)) (sym (le-leb 0x10 s up))
          (record {
            entries = placed image (j.base + j.count) (take n j.held);
            appended = ap (λ (k : Journal). k.entries) left;
            inside = placed_inside image (j.base + j.count) (take n j.held);
            waits =
                placed_batch image (j.base + j.count) (take n j.held)
                ∙ ap (λ (k : ℕ). batch k (take n j.held)) place
                ∙ ap (batch s) (take_least (room_in_block s) j.held ∙ ap (take (room_in_block s)) a.same_held);
          })

      go : (t : Bool) → enough 1 m ≡ t → Enters Idle j (cond t (latched s m) m).command (leave_all_as (cond (leb 0x10 s) (replicate n memory) []) j)
      go true some = latches (ltb s 0x10) refl
      go false empty =
          let size : length j.held ≡ length m.held = ap length a.same_held in
          enters_plain (none (leb 0x10 s) (omega (arith, leb-false 1 (length m.held) empty))) (sym (ap waiting is))

  step_as : (c : Command) (m : Machine) (j : Journal) → m.command ≡ c → AgreesWith image m j → Enters c j (stepped_as c m).command (step_of c m.eeprom j)
  unfolding offer_all
  step_as Idle m j is a = enters_plain (plain_step Idle m.eeprom j refl) (sym (ap waiting is))
  step_as (WriteE2 addressing) m j is a = enters_plain (plain_step (WriteE2 addressing) m.eeprom j refl) (sym (either NoneWait (enough 2 m) _ _ refl (ap waiting is)))
  step_as (WriteE2 (ready s)) m j is a =
      let l = latch_enters s m j is a in record { entries = l.entries; appended = l.appended; inside = l.inside; waits = l.waits }
  step_as (WriteE2 (programming s bs left)) m j is a = enters_plain (plain_step (WriteE2 (programming s bs left)) m.eeprom j refl) (sym (ap waiting is))
  step_as ReadE2 m j is a = enters_plain (plain_step ReadE2 m.eeprom j refl) (sym (either NoneWait (enough 3 m) _ _ refl (ap waiting is)))
  step_as LoadConfig m j is a = enters_plain (plain_step LoadConfig m.eeprom j refl) (sym (either NoneWait (enough 2 m) _ _ refl (ap waiting is)))
  step_as LoadKeyE2 m j is a = enters_plain (plain_step LoadKeyE2 m.eeprom j refl) (sym (either NoneWait (enough 2 m) _ _ refl (ap waiting is)))
  step_as LoadKey m j is a = enters_plain (plain_step LoadKey m.eeprom j refl) (sym (either NoneWait (enough 12 m) _ _ refl (ap waiting is)))
  step_as CalcCRC m j is a = enters_plain (plain_step CalcCRC m.eeprom j refl) (sym (either NoneWait (enough 1 m) _ _ (ap waiting is) (ap waiting is)))
  step_as Transmit m j is a = enters_plain (plain_step Transmit m.eeprom j refl) (sym (ap waiting is))
  step_as Receive m j is a = enters_plain (plain_step Receive m.eeprom j refl) (sym (ap waiting is))
  step_as TransceiveSending m j is a = enters_plain (plain_step TransceiveSending m.eeprom j refl) (sym (ap waiting is))
  step_as TransceiveReceiving m j is a = enters_plain (plain_step TransceiveReceiving m.eeprom j refl) (sym (ap waiting is))

  step_enters : (m : Machine) (j : Journal) → AgreesWith image m j → Enters m.command j (stepped m).command (enter_step m j)
  unfolding stepped enter_step
  step_enters m j a = step_as m.command m j refl a

  settle_enters : (m : Machine) (j : Journal) → AgreesWith image m j → Enters m.command j (settled m).command (enter_settled m j)
  unfolding settled enter_settled
  settle_enters m j a = enters_both (step_enters m j a) (step_enters (stepped m) (enter_step m j) (step_agrees image m j a))

  -- A write to a register: the same bytes wait after it.
  module _ (m : Machine) where
    abbrev Waits : Machine → Type 0
    Waits n = waiting n.command ≡ waiting m.command

    command_waits : (v : ℕ) → Waits (command_written v m)
    unfolding command_written
    command_waits v = go (programs m.command) refl
      where
        go : (t : Bool) → programs m.command ≡ t → Waits (cond t m (command_started (v % 64) (cleared_errors m)))
        go true is = refl
        go false is =
            let none = sym (idle_latch m.command is) in
            code_any Waits (v % 64) (cleared_errors m) (λ c p. idle_latch c p ∙ none) (λ c p. idle_latch c p ∙ none) none none

    control_waits : (v : ℕ) → Waits (control_written v m)
    control_waits v = go (bit_set v 0) (bit_set v 2) (bit_set v 1)
      where
        go : (f s t : Bool) →
            let flushes = cond f (flushed m) m in
            let stops = cond s (timer_stopped flushes) flushes in
            let starts = cond t (timer_started stops) stops in
            Waits (with_modes (modes_written (programs m.command) v m.status.modes) starts)
        go true true true = refl
        go true true false = refl
        go true false true = refl
        go true false false = refl
        go false true true = refl
        go false true false = refl
        go false false true = refl
        go false false false = refl

    offered_waits : (b : ℕ) → Waits (offered b m)
    unfolding offered
    offered_waits b = either Waits (ltb (length m.held) 64) _ _ refl refl

    register_waits : (r v : ℕ) → Waits (register_written r v m)
    unfolding register_written
    register_waits r v =
        either Waits (eqb (r % 8) 0) _ _ refl
        (either Waits (eqb r 0x01) _ _ (command_waits v)
        (either Waits (eqb r 0x02) _ _ (offered_waits v)
        (either Waits (eqb r 0x06) _ _ refl
        (either Waits (eqb r 0x07) _ _ refl
        (either Waits (eqb r 0x09) _ _ (control_waits v)
        (either Waits (eqb r 0x0F) _ _ refl
        (either Waits (leb 0x10 r && ltb r 0x30) _ _ refl refl)))))))

  -- A host write, with what the active command then does.
  pub written_enters : (r v : ℕ) (m : Machine) (j : Journal) → AgreesWith image m j → Enters m.command j (settled (register_written r v m)).command (enter_written r v m j)
  unfolding enter_written
  written_enters r v m j a =
      enters_both (enters_plain (register_adds Apart moved r v m j) (sym (register_waits m r v))) (settle_enters (register_written r v m) (enter_register r v m j) (register_agrees image r v m j a))

  -- The end of a programming: the bytes that wait then are those that leave by it.
  pub end_enters : (s left : ℕ) (bs : List ℕ) (m : Machine) (j : Journal) → m.command ≡ WriteE2 (programming s bs left) → AgreesWith image m j → Enters Idle j (programmed s bs m).command (enter_end s bs m j)
  end_enters s left bs m j is a =
      subst (λ (h : List ℕ). Enters Idle j (programmed s bs m).command (cond (eqb (length h) 0) j (enter_settled (batch_stored s bs m) j))) (sym a.same_held) (go (eqb (length m.held) 0))
    where
      stored : AgreesWith image (batch_stored s bs m) j
      stored = stored_agrees image s left bs m j is a

      go : (t : Bool) → Enters Idle j (cond t (raised_tx (batch_stored s bs m)) (settled (batch_stored s bs m))).command (cond t j (enter_settled (batch_stored s bs m) j))
      go true = enters_plain (adds_none Apart j j refl) refl
      go false = let l = settle_enters (batch_stored s bs m) j stored in record { entries = l.entries; appended = l.appended; inside = l.inside; waits = l.waits }
