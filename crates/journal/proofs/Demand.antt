-- Demand 3, whole, over the machine's definition.
-- Assumes nothing.
use mathlib.Core.Path.{◌≡◌, refl, sym, ap, ◌∙◌, subst}
use mathlib.Core.Bool.{Bool, true, false, cond, not, ◌||◌}
use mathlib.Core.List.{List, [], ◌∷◌, ◌++◌, append_assoc, append_cancel_left}
use Prim.Native.Nat.{ℕ, suc, ◌+◌, ◌-◌, ◌/◌, ◌%◌, ◌<◌, ◌≤◌}
use native.Mathlib.Omega.{arith}
use lib.Dec.{leb, eqb, eqb-suc-zero}
use lib.ListN.{length, get_or, take, drop}
use lib.Seq.{take-append_seam}
use borrow.Author.Tests.{leb-true, leb-false}
use Rattle.crc.specs.Checksum.{result_of}
use Rattle.key.specs.Key.{format_holds, judged_key}
use Rattle.machine.specs.State.{Machine, Checksum, Key, Command, WriteE2, programming, with_modes}
use Rattle.machine.specs.Fifo.{first_of, alerted}
use Rattle.machine.specs.Frames.{frame_sent}
use Rattle.machine.specs.Power.{stands_still}
use Rattle.machine.specs.Registers.{mapped, register_read, crc_result}
use Rattle.machine.specs.PowerModes.{modes_after, stands_for, LeftAfter}
use Rattle.machine.specs.WellFormed.{well_formed}
use Rattle.machine.specs.Refusals.{Call, start, host_read, host_write, advance, take_frame, deliver, refusal}
use Rattle.machine.specs.Events.{Outcome, accepted, perform, refused, buffer_of, written, read_byte, after_read, advanced, buffer_taken, byte, clocks}
use Rattle.machine.proofs.Performing.{as_accepted, passed_test, not_false}
use Rattle.machine.proofs.ManyClocks.Pieces.{in_parts}
use Rattle.machine.proofs.PowerModes.{stands_fewer, stands}
use Rattle.machine.proofs.WellFormed.Parts.{some_left}
use Rattle.journal.specs.Entries as e
use Rattle.journal.specs.Entries.{collect, key_bytes}
use Rattle.journal.specs.Journal.{Journal, enter_accepted, enter, leave_from, leave, Both}
use Rattle.journal.specs.Demand.{run, checksum_shown, ReadAnswers, NextCall, Demand3}
use Rattle.journal.proofs.Agreement.{AgreesWith, PlaceIs}
use Rattle.journal.proofs.Run.{run_agrees, run_tells, conserved}
use Rattle.journal.proofs.Keys.{NoKey, moved, Judged, nothing, twelve, KeyCall, key_none, clocks_keyless, written_keys}
use Rattle.journal.proofs.Adding.{adds_none, leave_adds, all_adds, offers_add}
use Rattle.journal.proofs.Programming.{pending, finishes}

module _ (image : List ℕ) where
  -- Every call enters no key byte, or twelve that are judged.
  accepted_keys : (c : Call) (m : Machine) (j : Journal) → AgreesWith image m j → KeyCall j (enter_accepted c m j) (accepted m c).next
  unfolding written alerted
  accepted_keys (start image') m j a = key_none j _ _ (all_adds NoKey (e.left e.start) (e.started image') (λ b. refl) refl j)
  accepted_keys (host_read address) m j a = go (eqb (mapped m.page address) 0x02)
    where
      go : (t : Bool) → KeyCall j (cond t (leave (e.left e.host) j) j) (after_read address m)
      go true = key_none j _ _ (leave_adds NoKey (e.left e.host) (λ b. refl) j)
      go false = key_none j _ _ (adds_none NoKey j j refl)
  accepted_keys (host_write address v) m j a =
      let k = written_keys image (mapped m.page address) v m j a in record { bytes = k.bytes; entered_keys = k.entered_keys; judged = k.judged }
  accepted_keys (advance n) m j a = key_none j _ _ (clocks_keyless image n m j)
  accepted_keys (take_frame buffer) m j a = key_none j _ _ (all_adds NoKey (e.left e.frame) e.took_frame (λ b. refl) refl j)
  accepted_keys (deliver bytes parities last_bits) m j a = key_none j _ _ (offers_add NoKey moved _ j)

  call_keys : (c : Call) (m : Machine) (j : Journal) → AgreesWith image m j → KeyCall j (enter c m j) (perform m c).next
  unfolding perform enter
  call_keys c m j a = go (eqb (refusal m c) 0)
    where
      go : (t : Bool) → KeyCall j (cond t (enter_accepted c m j) j) (cond t (accepted m c) (record { answer = refused (refusal m c); next = m; buffer = buffer_of c })).next
      go true = accepted_keys c m j a
      go false = key_none j j m (adds_none NoKey j j refl)

  judged_twelve : (k : Key) (f : Bool) (ks ls : List ℕ) (x : ℕ) → ks ≡ x ∷ ls → Judged k f ks → (length ks ≡ 12) × (k ≡ record { loaded = format_holds ks; bytes = judged_key ks }) × (f ≡ not (format_holds ks))
  judged_twelve k f ks ls x some nothing = absurd (let z : ◌≡◌ {A = ℕ} 0 (suc (length ls)) = ap length some in omega arith)
  judged_twelve k f ks ls x some (twelve size is err) = (size, is, err)

  module _ (m : Machine) (j : Journal) (a : AgreesWith image m j) where
    -- A read of a register whose byte is known.
    reads : (register b : ℕ) → register_read register m ≡ b → ReadAnswers m register b
    unfolding read_byte
    reads register b is c r =
        let ok = subst (λ (x : Call). refusal m x ≡ 0) r.is_read_lem r.not_refused in
        ap (λ (x : Call). (perform m x).answer) r.is_read_lem
        ∙ ap (λ (o : Outcome). o.answer) (as_accepted m (host_read r.address) ok)
        ∙ ap (λ (z : ℕ). byte (register_read z m)) r.at_register
        ∙ ap byte is

    shown : crc_result m ≡ checksum_shown j
    shown = sym (ap (λ (k : Checksum). result_of k.mode k.register) a.same_checksum)

    host_read_answer : ReadAnswers m 0x02 (first_of j.held)
    unfolding register_read
    host_read_answer = reads 0x02 _ (ap first_of (sym a.same_held))

    length_answer : ReadAnswers m 0x04 (length j.held)
    unfolding register_read
    length_answer = reads 0x04 _ (ap length (sym a.same_held))

    crc_low_answer : ReadAnswers m 0x0D (checksum_shown j % 256)
    unfolding register_read
    crc_low_answer = reads 0x0D _ (ap (λ (n : ℕ). n % 256) shown)

    crc_high_answer : ReadAnswers m 0x0E (checksum_shown j / 256)
    unfolding register_read
    crc_high_answer = reads 0x0E _ (ap (λ (n : ℕ). n / 256) shown)

    empty_read : (address : ℕ) → j.held ≡ [] → enter (host_read address) m j ≡ j
    unfolding enter leave
    empty_read address none = go (eqb (refusal m (host_read address)) 0) (eqb (mapped m.page address) 0x02)
      where
        go : (t u : Bool) → cond t (cond u (leave_from j.held (e.left e.host) j) j) j ≡ j
        go true true = ap (λ (h : List ℕ). leave_from h (e.left e.host) j) none
        go true false = refl
        go false u = refl

    frame_begins : (buffer : List ℕ) → refusal m (take_frame buffer) ≡ 0 → take (length j.held) (perform m (take_frame buffer)).buffer ≡ j.held
    unfolding buffer_taken
    frame_begins buffer ok =
        ap (λ (o : Outcome). take (length j.held) o.buffer) (as_accepted m (take_frame buffer) ok)
        ∙ ap (λ (h : List ℕ). take (length h) (frame_sent m ++ drop (length (frame_sent m)) buffer)) a.same_held
        ∙ ap (take (length m.held)) (append_assoc m.held _ _)
        ∙ take-append_seam m.held _
        ∙ sym a.same_held

    refused_adds_nothing : (c : Call) (n : ℕ) → refusal m c ≡ suc n → enter c m j ≡ j
    unfolding enter
    refused_adds_nothing c n is = ap (λ (t : Bool). cond t (enter_accepted c m j) j) (ap (λ (k : ℕ). eqb k 0) is ∙ eqb-suc-zero n)

    -- An advance that is not refused: the machine is well formed.
    module _ (n : ℕ) (ok : refusal m (advance n) ≡ 0) where
      well : well_formed m ≡ true
      unfolding refusal
      well = not_false (well_formed m) (passed_test (not (well_formed m)) 6 _ ok).0

      command_after : (perform m (advance n)).next.command ≡ (clocks n m).command
      unfolding advanced alerted
      command_after = ap (λ (o : Outcome). o.next.command) (as_accepted m (advance n) ok)

      eeprom_after : (perform m (advance n)).next.eeprom ≡ (clocks n m).eeprom
      unfolding advanced alerted
      eeprom_after = ap (λ (o : Outcome). o.next.eeprom) (as_accepted m (advance n) ok)

      programming_stands : stands_for n m.status.modes ≡ true → ((perform m (advance n)).next.command ≡ m.command) × ((perform m (advance n)).next.eeprom ≡ m.eeprom)
      programming_stands holds =
          let same = stands m well n holds in (command_after ∙ ap (λ (x : Machine). x.command) same, eeprom_after ∙ ap (λ (x : Machine). x.eeprom) same)

      module _ (stand s left : ℕ) (bs : List ℕ) (is : m.command ≡ WriteE2 (programming s bs left)) (holds : stands_for stand m.status.modes ≡ true) (leaves : LeftAfter stand m.status.modes) where
        -- Behind the clocks in which a mode has hold the machine is as it was, and no mode has hold.
        abbrev y : Machine
        y = with_modes (modes_after stand m.status.modes) m

        behind : (k : ℕ) → n ≡ stand + k → clocks n m ≡ clocks k y
        behind k all = ap (λ (z : ℕ). clocks z m) all ∙ in_parts stand k m ∙ ap (clocks k) (stands m well stand holds)

        runs : stands_still y ≡ false
        runs = λ i. leaves.0 i || leaves.1 i

        programmed_bytes_stand : stand + left ≤ n → (i : ℕ) → i < length bs → get_or (perform m (advance n)).next.eeprom (s + i) 0 ≡ get_or bs i 0
        programmed_bytes_stand within i h =
            let some = some_left m well s left bs is in
            let place = subst (λ (c : Command). PlaceIs c j.base j.count) is a.same_place in
            let k = n - stand - 1 in
            ap (λ (z : List ℕ). get_or z (s + i) 0) eeprom_after
            ∙ ap (λ (x : Machine). get_or x.eeprom (s + i) 0) (behind (suc k) (omega arith))
            ∙ finishes k y s left bs runs is (omega arith) (omega (arith, place.0, place.1)) a.whole i h

        programming_lasts : n < stand + left → ((perform m (advance n)).next.command ≡ WriteE2 (programming s bs (left - (n - stand)))) × ((perform m (advance n)).next.eeprom ≡ m.eeprom)
        programming_lasts before = go (leb n stand) refl
          where
            go : (t : Bool) → leb n stand ≡ t → ((perform m (advance n)).next.command ≡ WriteE2 (programming s bs (left - (n - stand)))) × ((perform m (advance n)).next.eeprom ≡ m.eeprom)
            go true e =
                let few : n ≤ stand = leb-true n stand e in
                let none : left ≡ left - (n - stand) = omega arith in
                let (waits, stores) = programming_stands (stands_fewer n stand m.status.modes few holds) in
                (waits ∙ is ∙ ap (λ (z : ℕ). WriteE2 (programming s bs z)) none, stores)
            go false e =
                let k = n - stand in
                let more : stand < n = leb-false n stand e in
                let same = behind k (omega arith) in
                let (waits, stores) = pending k y s left bs runs is (omega arith) in
                (command_after ∙ ap (λ (x : Machine). x.command) same ∙ waits, eeprom_after ∙ ap (λ (x : Machine). x.eeprom) same ∙ stores)

    key_judged_lem : (c : Call) (keys : List ℕ) (k : ℕ) (ks : List ℕ) → keys ≡ k ∷ ks → collect key_bytes (enter c m j).entries ≡ collect key_bytes j.entries ++ keys →
        (length keys ≡ 12) × ((perform m c).next.key ≡ record { loaded = format_holds keys; bytes = judged_key keys }) × ((perform m c).next.status.errors.key_err ≡ not (format_holds keys))
    key_judged_lem c keys k ks some added =
        let called = call_keys c m j a in
        let same : called.bytes ≡ keys = append_cancel_left (collect key_bytes j.entries) called.bytes keys (sym called.entered_keys ∙ added) in
        judged_twelve _ _ keys ks k some (subst (Judged (perform m c).next.key (perform m c).next.status.errors.key_err) same called.judged)

  pub next_call : (s : Both) → AgreesWith image s.machine s.journal → NextCall s
  next_call s a =
      record {
        host_read_answer = host_read_answer s.machine s.journal a;
        length_answer = length_answer s.machine s.journal a;
        crc_low_answer = crc_low_answer s.machine s.journal a;
        crc_high_answer = crc_high_answer s.machine s.journal a;
        empty_read = empty_read s.machine s.journal a;
        frame_begins = frame_begins s.machine s.journal a;
        refused_adds_nothing = refused_adds_nothing s.machine s.journal a;
        programmed_bytes_stand = λ n stand at left bs is ok holds leaves. programmed_bytes_stand s.machine s.journal a n ok stand at left bs is holds leaves;
        programming_lasts = λ n stand at left bs is ok holds leaves. programming_lasts s.machine s.journal a n ok stand at left bs is holds leaves;
        programming_stands = programming_stands s.machine s.journal a;
        key_judged_lem = key_judged_lem s.machine s.journal a;
      }

pub demand_3 : Demand3
demand_3 =
    record {
      conserved = λ image size calls. conserved image (run image calls) (run_agrees image size calls) (run_tells image size calls);
      next_call = λ image size calls. next_call image (run image calls) (run_agrees image size calls);
    }
