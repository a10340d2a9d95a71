-- Every call accounts for the entries that it adds.
-- Assumes nothing.
use mathlib.Core.Path.{◌≡◌, refl, sym, ap, ◌∙◌, subst}
use mathlib.Core.Bool.{Bool, true, false, cond, not, ◌&&◌, ◌||◌, true≢false, false≢true}
use mathlib.Core.List.{List, [], ◌∷◌, ◌++◌, map, append_assoc, append-nil, append_cancel_left, append_cancel_right, head-eq_of_cons-eq, tail-eq_of_cons-eq}
use Prim.Native.Nat.{ℕ, suc}
use native.Mathlib.Omega.{arith}
use lib.Dec.{ltb, eqb}
use lib.ListN.{length, take, drop, drop_of_length-le}
use lib.Seq.{drop-append_seam}
use borrow.Author.Tests.{eqb-true, eq-eqb}
use Rattle.machine.specs.State.{Machine, Command, TransceiveReceiving, with_command, with_held}
use Rattle.machine.specs.Fifo.{first_of, rest_of, alerted}
use Rattle.machine.specs.Commands.{code_of, ended, raised_tx}
use Rattle.machine.specs.Frames.{sending, receiving, tx_begun, tx_ended, after_sending, sent, received, passed}
use Rattle.machine.specs.Registers.{mapped}
use Rattle.machine.specs.WellFormed.{well_formed}
use Rattle.machine.specs.Refusals.{Call, start, host_read, host_write, advance, take_frame, deliver, refusal, frame_formed}
use Rattle.machine.specs.Events.{Answer, byte, lost, refused, buffer_of, accepted, perform, started, written, after_read, advanced, taken, delivered}
use Rattle.machine.proofs.Performing.{passed_test, not_false}
use Rattle.machine.proofs.Cases.{while_programming_lem}
use Rattle.journal.specs.Entries as e
use Rattle.journal.specs.Entries.{Entry, Byte, Memory, remembered, memory_from, bytes_to, bytes_away, key_bytes, collect}
use Rattle.journal.specs.Journal.{Journal, leave_from, leave, leave_all, offer_all, enter_accepted, enter, enter_clocks, Both}
use Rattle.journal.specs.Demand.{run, batch, waiting, stored_bytes, ReadOf, NextCall}
use Rattle.journal.specs.Account.{added, memory_bytes, start_images, AtAddresses, AccountedBy, Accounted, EveryCall}
use Rattle.journal.proofs.Folds.{collect_append, memory_append}
use Rattle.journal.proofs.Adding.{none_of, offers_add}
use Rattle.journal.proofs.Agreement.{AgreesWith, memory_of, stored_parts}
use Rattle.journal.proofs.Calls.{receiving_latch}
use Rattle.journal.proofs.Lost.{lost_in, call_loses, offer_says, other_says}
use Rattle.journal.proofs.Run.{or_first, call_agrees, run_agrees}
use Rattle.journal.proofs.Demand.{next_call}
use Rattle.journal.proofs.Clocks.{clocks_enter}
use Rattle.journal.proofs.Entered.{Inside, inside_none, Apart, apart_inside, moved, Enters, written_enters}

none_some : {A X : Type 0} {x : A} {xs : List A} → ◌≡◌ {A = List A} [] (x ∷ xs) → X
none_some {xs = xs} h = absurd (let z : ◌≡◌ {A = ℕ} 0 (suc (length xs)) = ap length h in omega arith)

-- Without a start, the memory bytes of further entries come behind those before.
memory_of_lem : (xs : List Entry) (r : Memory) → collect start_images xs ≡ [] → memory_from r xs ≡ record { image = r.image; bytes = r.bytes ++ collect memory_bytes xs }
unfolding collect memory_from
memory_of_lem [] r h = ap (λ (z : List Byte). record { image = r.image; bytes = z }) (sym (append-nil r.bytes))
memory_of_lem (e.taken_in b ∷ xs) r h = memory_of_lem xs r h
memory_of_lem (e.turned_away b ∷ xs) r h = memory_of_lem xs r h
memory_of_lem (e.left to b ∷ xs) r h = memory_of_lem xs r h
memory_of_lem (e.to_memory a b ∷ xs) r h =
    memory_of_lem xs (remembered r (e.to_memory a b)) h
    ∙ ap (λ (z : List Byte). record { image = r.image; bytes = z }) (append_assoc r.bytes (record { address = a; value = b } ∷ []) (collect memory_bytes xs))
memory_of_lem (e.took_frame ∷ xs) r h = memory_of_lem xs r h
memory_of_lem (e.flushed ∷ xs) r h = memory_of_lem xs r h
memory_of_lem (e.started image ∷ xs) r h = none_some (sym h)
memory_of_lem (e.calc_crc mode lsb msb ∷ xs) r h = memory_of_lem xs r h

-- So where machine and journal agree before and after, the bytes that ended are what memory has more.
stored_since : (image : List ℕ) (m n : Machine) (j k : Journal) (xs : List Entry) (ended : List Byte) → AgreesWith image m j → AgreesWith image n k →
    k.entries ≡ j.entries ++ xs → collect start_images xs ≡ [] → waiting m.command ++ collect memory_bytes xs ≡ ended ++ waiting n.command →
    n.eeprom ≡ stored_bytes m.eeprom ended
stored_since image m n j k xs ended a b is none order =
    let first : Memory = record { image = image; bytes = [] } in
    let F = a.same_memory.finished in
    let F' = b.same_memory.finished in
    let W = waiting m.command in
    let W' = waiting n.command in
    let M = collect memory_bytes xs in
    let memory : memory_of image k ≡ record { image = (memory_of image j).image; bytes = (memory_of image j).bytes ++ M } =
    ap (memory_from first) is ∙ memory_append first j.entries xs ∙ memory_of_lem xs (memory_of image j) none in
    let more : F' ≡ F ++ ended =
    append_cancel_right F' (F ++ ended) W'
    (sym b.same_memory.split
    ∙ ap (λ (r : Memory). r.bytes) memory
    ∙ ap (λ (z : List Byte). z ++ M) a.same_memory.split
    ∙ append_assoc F W M
    ∙ ap (λ (z : List Byte). F ++ z) order
    ∙ sym (append_assoc F ended W')) in
    b.same_memory.stored
    ∙ ap (λ (r : Memory). stored_bytes r.image F') memory
    ∙ ap (stored_bytes (memory_of image j).image) more
    ∙ stored_parts image F ended (memory_of image j).image
    ∙ ap (λ (z : List ℕ). stored_bytes z ended) (sym a.same_memory.stored)

-- What is found in entries that all held bytes leave by.
map_none : {X : Type 0} (f : Entry → List X) (x : ℕ → Entry) → ((b : ℕ) → f (x b) ≡ []) → (h : List ℕ) → collect f (map x h) ≡ []
unfolding collect
map_none f x p [] = refl
map_none f x p (b ∷ h) = ap (λ (z : List _). z ++ collect f (map x h)) (p b) ∙ map_none f x p h

map_all : (f : Entry → List ℕ) (x : ℕ → Entry) → ((b : ℕ) → f (x b) ≡ b ∷ []) → (h : List ℕ) → collect f (map x h) ≡ h
unfolding collect
map_all f x p [] = refl
map_all f x p (b ∷ h) = ap (λ (z : List ℕ). z ++ collect f (map x h)) (p b) ∙ ap (λ (z : List ℕ). b ∷ z) (map_all f x p h)

all_none : {X : Type 0} (f : Entry → List X) (x : ℕ → Entry) (y : Entry) → ((b : ℕ) → f (x b) ≡ []) → f y ≡ [] → (h : List ℕ) → collect f (map x h ++ y ∷ []) ≡ []
unfolding collect
all_none f x y p q h = collect_append f (map x h) (y ∷ []) ∙ ap (λ (z : List _). z ++ (f y ++ [])) (map_none f x p h) ∙ ap (λ (z : List _). z ++ []) q

abbrev is_read : Call → Bool
is_read (start image) = false
is_read (host_read address) = true
is_read (host_write address v) = false
is_read (advance n) = false
is_read (take_frame buffer) = false
is_read (deliver bytes parities last_bits) = false

-- No byte waits for memory while the chip sends.
sending_latch : (c : Command) → sending c ≡ true → waiting c ≡ []
sending_latch c s = while_programming_lem (λ (bs : List Byte). bs ≡ []) (λ a bs left. batch a bs) [] c (λ a bs left is. absurd (false≢true (sym (ap sending is) ∙ s))) refl

-- Nor after it has sent.
sent_latch : (c : Command) (n : Machine) → waiting (after_sending c n).command ≡ []
sent_latch c n = go (sending c && eqb (code_of c) 0x1E)
  where
    go : (t : Bool) → waiting (cond t (with_command TransceiveReceiving n) (ended n)).command ≡ []
    go true = refl
    go false = refl

module _ (image : List ℕ) (m : Machine) (j : Journal) (a : AgreesWith image m j) where
  abbrev before : Both
  before = record { machine = m; journal = j }

  -- The memory bytes of a call, before what memory has more.
  record Ends (xs : List Entry) (next : Machine) : Type 0 where
    ended : List Byte
    in_order : waiting m.command ++ collect memory_bytes xs ≡ ended ++ waiting next.command
    at_addresses : AtAddresses next.eeprom ended

  -- What is to be shown of a call's entries; what else is said of it follows.
  record Parts (c : Call) (next : Machine) (k : Journal) : Type 0 where
    entries : List Entry
    appended : k.entries ≡ j.entries ++ entries
    refused_none : (n : ℕ) → refusal m c ≡ suc n → entries ≡ []
    host : (b : ℕ) (bs : List ℕ) → collect (bytes_to e.host) entries ≡ b ∷ bs → (bs ≡ []) × ((perform m c).answer ≡ byte b)
    none_host : ReadOf m c 0x02 → collect (bytes_to e.host) entries ≡ [] → (perform m c).answer ≡ byte 0
    frame : take (length (collect (bytes_to e.frame) entries)) (perform m c).buffer ≡ collect (bytes_to e.frame) entries
    ends : collect start_images entries ≡ [] → Ends entries next
    restarts : (image' : List ℕ) (images : List (List ℕ)) → collect start_images entries ≡ image' ∷ images → (images ≡ []) × (next.eeprom ≡ image') × (waiting next.command ≡ [])

  -- Where none of the entries is of a host read, a take or a start.
  inside_parts : (c : Call) (next : Machine) (k : Journal) (xs : List Entry) → k.entries ≡ j.entries ++ xs → Inside xs → ((n : ℕ) → refusal m c ≡ suc n → xs ≡ []) →
      (ReadOf m c 0x02 → (perform m c).answer ≡ byte 0) → Ends xs next → Parts c next k
  inside_parts c next k xs is inside none read ends =
      record {
        entries = xs;
        appended = is;
        refused_none = none;
        host = λ b bs h. none_some (sym inside.no_host ∙ h);
        none_host = λ r h. read r;
        frame = subst (λ (f : List ℕ). take (length f) (perform m c).buffer ≡ f) (sym inside.no_frame) refl;
        ends = λ h. ends;
        restarts = λ image' images h. none_some (sym inside.no_start ∙ h);
      }

  -- A call that is no host read, and one that is not refused.
  no_read : (c : Call) {X : Type 0} → is_read c ≡ false → ReadOf m c 0x02 → X
  no_read c is r = absurd (true≢false (sym (ap is_read r.is_read_lem) ∙ is))

  no_refusal : (c : Call) {X : Type 0} (n : ℕ) → refusal m c ≡ 0 → refusal m c ≡ suc n → X
  no_refusal c n ok is = absurd (let z : ◌≡◌ {A = ℕ} 0 (suc n) = sym ok ∙ is in omega arith)

  same_waiting : (xs : List Entry) (next : Machine) → collect memory_bytes xs ≡ [] → waiting m.command ≡ waiting next.command → Ends xs next
  unfolding AtAddresses
  same_waiting xs next none same =
      record { ended = []; in_order = ap (λ (z : List Byte). waiting m.command ++ z) none ∙ append-nil (waiting m.command) ∙ same; at_addresses = tt }

  entered_ends : (next : Machine) (k : Journal) (l : Enters m.command j next.command k) → Ends l.entries next
  unfolding AtAddresses
  entered_ends next k l = record { ended = []; in_order = l.waits; at_addresses = tt }

  -- A start.
  start_parts : (image' : List ℕ) → refusal m (start image') ≡ 0 → Parts (start image') (started image') (leave_all (e.left e.start) (e.started image') j)
  unfolding leave_all started collect
  start_parts image' ok =
      let xs = map (e.left e.start) j.held ++ e.started image' ∷ [] in
      let images : collect start_images xs ≡ image' ∷ [] = collect_append start_images (map (e.left e.start) j.held) (e.started image' ∷ []) ∙ ap (λ (z : List (List ℕ)). z ++ image' ∷ []) (map_none start_images (e.left e.start) (λ b. refl) j.held) in
      record {
        entries = xs;
        appended = append_assoc j.entries (map (e.left e.start) j.held) (e.started image' ∷ []);
        refused_none = λ n is. no_refusal (start image') n ok is;
        host = λ b bs h. none_some (sym (all_none (bytes_to e.host) (e.left e.start) (e.started image') (λ b. refl) refl j.held) ∙ h);
        none_host = λ r h. no_read (start image') refl r;
        frame = subst (λ (f : List ℕ). take (length f) (perform m (start image')).buffer ≡ f) (sym (all_none (bytes_to e.frame) (e.left e.start) (e.started image') (λ b. refl) refl j.held)) refl;
        ends = λ h. none_some (sym h ∙ images);
        restarts = λ other others h. (sym (tail-eq_of_cons-eq (sym images ∙ h)), head-eq_of_cons-eq (sym images ∙ h), refl);
      }

  -- A host read.
  read_parts : (address : ℕ) → refusal m (host_read address) ≡ 0 → NextCall before → Parts (host_read address) (after_read address m) (cond (eqb (mapped m.page address) 0x02) (leave (e.left e.host) j) j)
  unfolding after_read alerted leave collect
  read_parts address ok next = go (eqb (mapped m.page address) 0x02) refl
    where
      removed : Machine
      removed = alerted m (with_held (rest_of m.held) m)

      leaves : mapped m.page address ≡ 0x02 → (h : List ℕ) → j.held ≡ h → Parts (host_read address) removed (leave_from h (e.left e.host) j)
      leaves at [] is =
          inside_parts (host_read address) removed j [] (sym (append-nil j.entries)) inside_none (λ n z. refl)
          (λ r. next.host_read_answer (host_read address) r ∙ ap (λ (h : List ℕ). byte (first_of h)) is) (same_waiting [] removed refl refl)
      leaves at (b ∷ h) is =
          record {
            entries = e.left e.host b ∷ [];
            appended = refl;
            refused_none = λ n z. no_refusal (host_read address) n ok z;
            host = λ x xs z. (sym (tail-eq_of_cons-eq z), next.host_read_answer (host_read address) (record { address = address; is_read_lem = refl; not_refused = ok; at_register = at }) ∙ ap (λ (l : List ℕ). byte (first_of l)) is ∙ ap byte (head-eq_of_cons-eq z));
            none_host = λ r z. none_some (sym z);
            frame = refl;
            ends = λ z. same_waiting (e.left e.host b ∷ []) removed refl refl;
            restarts = λ other others z. none_some z;
          }

      go : (t : Bool) → eqb (mapped m.page address) 0x02 ≡ t → Parts (host_read address) (cond t removed m) (cond t (leave_from j.held (e.left e.host) j) j)
      go true is = leaves (eqb-true _ 0x02 is) j.held refl
      go false is =
          inside_parts (host_read address) m j [] (sym (append-nil j.entries)) inside_none (λ n z. refl)
          (λ r. absurd (true≢false (sym (eq-eqb _ 0x02 (at_page r.address r.is_read_lem r.at_register)) ∙ is))) (same_waiting [] m refl refl)
        where
          address_of : Call → ℕ
          address_of (start image') = 0
          address_of (host_read x) = x
          address_of (host_write x v) = 0
          address_of (advance n) = 0
          address_of (take_frame buffer) = 0
          address_of (deliver bytes parities last_bits) = 0

          at_page : (x : ℕ) → host_read address ≡ host_read x → mapped m.page x ≡ 0x02 → mapped m.page address ≡ 0x02
          at_page x same at = ap (λ (c : Call). mapped m.page (address_of c)) same ∙ at

  -- A host write.
  write_parts : (address v : ℕ) → refusal m (host_write address v) ≡ 0 → Parts (host_write address v) (written address v m) (enter_accepted (host_write address v) m j)
  unfolding written alerted
  write_parts address v ok =
      let l = written_enters image (mapped m.page address) v m j a in
      inside_parts (host_write address v) (written address v m) _ l.entries l.appended l.inside (λ n is. no_refusal (host_write address v) n ok is) (no_read (host_write address v) refl)
      (entered_ends (written address v m) (enter_accepted (host_write address v) m j) (record { entries = l.entries; appended = l.appended; inside = l.inside; waits = l.waits }))

  -- An advance.
  advance_parts : (n : ℕ) → refusal m (advance n) ≡ 0 → Parts (advance n) (advanced n m) (enter_clocks n m j)
  unfolding advanced alerted
  advance_parts n ok =
      let l = clocks_enter image n m j a in
      inside_parts (advance n) (advanced n m) (enter_clocks n m j) l.entries l.appended l.inside (λ k z. no_refusal (advance n) k ok z) (no_read (advance n) refl)
      (record { ended = l.ended; in_order = l.in_order; at_addresses = l.at_addresses })

  -- A take.
  take_parts : (buffer : List ℕ) → refusal m (take_frame buffer) ≡ 0 → NextCall before → Parts (take_frame buffer) (taken m) (leave_all (e.left e.frame) e.took_frame j)
  unfolding taken sent alerted leave_all refusal collect
  take_parts buffer ok next =
      let xs = map (e.left e.frame) j.held ++ e.took_frame ∷ [] in
      let rest = (passed_test (ltb (length buffer) 66) 5 _ (passed_test (not (well_formed m)) 6 _ ok).1).1 in
      let sends = not_false _ (or_first _ _ (passed_test (not (sending m.command) || eqb (length m.held) 0) 3 _ rest).0) in
      let frames : collect (bytes_to e.frame) xs ≡ j.held =
      collect_append (bytes_to e.frame) (map (e.left e.frame) j.held) (e.took_frame ∷ [])
      ∙ ap (λ (z : List ℕ). z ++ []) (map_all (bytes_to e.frame) (e.left e.frame) (λ b. refl) j.held)
      ∙ append-nil j.held in
      record {
        entries = xs;
        appended = append_assoc j.entries (map (e.left e.frame) j.held) (e.took_frame ∷ []);
        refused_none = λ n is. no_refusal (take_frame buffer) n ok is;
        host = λ b bs h. none_some (sym (all_none (bytes_to e.host) (e.left e.frame) e.took_frame (λ b. refl) refl j.held) ∙ h);
        none_host = λ r h. no_read (take_frame buffer) refl r;
        frame = subst (λ (f : List ℕ). take (length f) (perform m (take_frame buffer)).buffer ≡ f) (sym frames) (next.frame_begins buffer ok);
        ends = λ h. same_waiting xs (taken m) (all_none memory_bytes (e.left e.frame) e.took_frame (λ b. refl) refl j.held) (sending_latch m.command sends ∙ sym (sent_latch m.command (raised_tx (tx_ended (tx_begun (with_held [] m))))));
        restarts = λ other others h. none_some (sym (all_none start_images (e.left e.frame) e.took_frame (λ b. refl) refl j.held) ∙ h);
      }

  -- A delivery.
  deliver_parts : (bytes parities : List ℕ) (last_bits : ℕ) → refusal m (deliver bytes parities last_bits) ≡ 0 →
      Parts (deliver bytes parities last_bits) (delivered bytes parities last_bits m) (offer_all (passed m bytes last_bits) j)
  unfolding delivered received alerted refusal
  deliver_parts bytes parities last_bits ok =
      let rest = (passed_test (not (frame_formed bytes parities last_bits)) 4 _ (passed_test (not (well_formed m)) 6 _ ok).1).1 in
      let waits = receiving_latch image m.command (not_false _ (passed_test (not (receiving m.command)) 3 _ rest).0) in
      let l = offers_add Apart moved (passed m bytes last_bits) j in
      inside_parts (deliver bytes parities last_bits) (delivered bytes parities last_bits m) _ l.entries l.appended (apart_inside l.entries l.each) (λ n is. no_refusal (deliver bytes parities last_bits) n ok is)
      (no_read (deliver bytes parities last_bits) refl) (same_waiting l.entries (delivered bytes parities last_bits m) (none_of Apart memory_bytes (λ x p. p.of_memory) l.entries l.each) waits)

  accepted_parts : (c : Call) → refusal m c ≡ 0 → NextCall before → Parts c (accepted m c).next (enter_accepted c m j)
  accepted_parts (start image') ok next = start_parts image' ok
  accepted_parts (host_read address) ok next = read_parts address ok next
  accepted_parts (host_write address v) ok next = write_parts address v ok
  accepted_parts (advance n) ok next = advance_parts n ok
  accepted_parts (take_frame buffer) ok next = take_parts buffer ok next
  accepted_parts (deliver bytes parities last_bits) ok next = deliver_parts bytes parities last_bits ok

  -- Any call; one that is refused enters nothing.
  call_parts : (c : Call) → NextCall before → Parts c (perform m c).next (enter c m j)
  unfolding perform enter collect
  call_parts c next = go (eqb (refusal m c) 0) refl
    where
      go : (t : Bool) → eqb (refusal m c) 0 ≡ t → Parts c (cond t (accepted m c) (record { answer = refused (refusal m c); next = m; buffer = buffer_of c })).next (cond t (enter_accepted c m j) j)
      go true is = accepted_parts c (eqb-true (refusal m c) 0 is) next
      go false is =
          inside_parts c m j [] (sym (append-nil j.entries)) inside_none (λ n z. refl) (λ r. absurd (true≢false (sym (eq-eqb (refusal m c) 0 r.not_refused) ∙ is))) (same_waiting [] m refl refl)

  accounted_by : (code : Answer → ℕ) (c : Call) → let o = perform m c in Accounted code before c (code o.answer) o.buffer o.next
  accounted_by code c =
      let next = next_call image before a in
      let p = call_parts c next in
      let b = call_agrees image c m j a in
      let xs = p.entries in
      let o = perform m c in
      let l = call_loses image c m j a in
      let away : length (collect bytes_away xs) ≡ lost_in o.answer =
      ap (λ (z : List Entry). length (collect bytes_away z)) (append_cancel_left j.entries xs l.entries (sym p.appended ∙ l.appended)) ∙ l.told in
      let same : added c before ≡ xs = ap (drop (length j.entries)) p.appended ∙ drop-append_seam j.entries xs in
      subst (λ (z : List Entry). AccountedBy z code before c (code o.answer) o.buffer o.next) (sym same)
      (record {
        appended = p.appended;
        refused_adds_nothing = p.refused_none;
        away_answer = λ is ok. ap code (offer_says c m is ok ∙ ap lost (sym away));
        none_away = λ is. drop_of_length-le (collect bytes_away xs) {i = 0} (omega (arith, away, other_says c m is));
        to_host = λ x bs h. let (alone, is) = p.host x bs h in (alone, ap code is);
        none_to_host = λ r h. ap code (p.none_host r h);
        length_read = λ r. ap code (next.length_answer c r);
        crc_low_read = λ r. ap code (next.crc_low_answer c r);
        crc_high_read = λ r. ap code (next.crc_high_answer c r);
        to_frame = p.frame;
        to_key =
            λ k ks h.
            next.key_judged_lem c (k ∷ ks) k ks refl
            (ap (collect key_bytes) p.appended ∙ collect_append key_bytes j.entries xs ∙ ap (λ (z : List ℕ). collect key_bytes j.entries ++ z) h);
        to_memory_lem =
            λ h.
            let q = p.ends h in
            record {
              ended = q.ended;
              in_order = q.in_order;
              stored = stored_since image m o.next j (enter c m j) xs q.ended a b p.appended h q.in_order;
              at_addresses = q.at_addresses;
            };
        restarted = p.restarts;
        same_held = sym b.same_held;
      })

-- Every call from a machine and a journal that agree.
pub accounted : (image : List ℕ) (code : Answer → ℕ) (s : Both) → AgreesWith image s.machine s.journal → (c : Call) →
    let o = perform s.machine c in Accounted code s c (code o.answer) o.buffer o.next
accounted image code s a c = accounted_by image s.machine s.journal a code c

pub every_call : EveryCall
every_call = record { accounted = λ code image size calls c. accounted image code (run image calls) (run_agrees image size calls) c }
