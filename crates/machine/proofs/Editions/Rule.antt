-- What an edition decides: the statements of specs/Editions.antt.
-- Assumes nothing.
use Prim.Native.Nat.{ℕ, ◌≤◌}
use mathlib.Core.Path.{◌≡◌, refl, sym, ap, subst, ◌∙◌}
use mathlib.Core.Bool.{Bool, true, false, cond, not, ◌&&◌, ◌||◌, true≢false}
use mathlib.Core.List.{List, [], ◌∷◌, ◌++◌}
use native.Mathlib.Omega.{arith}
use lib.Dec.{ltb, leb, eqb}
use lib.ListN.{length, take, drop, take-append-drop}
use borrow.Author.Tests.{eqb-true, ltb-false, leb-true}
use Rattle.edition.specs.Edition.{is_of, of_either, edition_of, product_type}
use Rattle.edition.specs.declared.Edition.{Edition}
use Rattle.edition.specs.declared.Edition.TheVariants.{Mfrc531, Rc530}
use Rattle.edition.proofs.Laws.{own_type, has_type}
use Rattle.profile.specs.Shipped.{shipped, image_of}
use Rattle.machine.specs.State.{Machine, Command, Idle, WriteE2, ReadE2, LoadConfig, LoadKeyE2, LoadKey, CalcCRC, Transmit, Receive, TransceiveSending, TransceiveReceiving, machine_of}
use Rattle.machine.specs.Fifo.{offered, offered_all, lo_alert, hi_alert, alerted}
use Rattle.machine.specs.Memory.{address_of, over_registers, bytes_from}
use Rattle.machine.specs.Commands.{command_written, stepped, settled, argument, read_bytes, readable}
use Rattle.machine.specs.Frames.{sending, receiving}
use Rattle.machine.specs.Registers.{mapped, register_read, register_written}
use Rattle.machine.specs.WellFormed.{fifo_formed, well_formed}
use Rattle.machine.specs.Power.{stands_still}
use Rattle.machine.specs.Refusals.{Call, start, host_read, host_write, advance, take_frame, deliver, refusal, refuse_if, frame_formed}
use Rattle.machine.specs.Events.{Outcome, refused, lost, accepted, buffer_of, buffer_taken, read_byte, perform, after_calls, started, written}
use Rattle.machine.specs.Editions.{is_start, starts_anew, NoneStarts, command_reads_type, reads_type, Alike, OwnType, AnswersAlike, EachAlike, NoneReads, type_read, Editions}
use Rattle.machine.proofs.Cases.{by_cond}
use Rattle.machine.proofs.Performing.{as_accepted, passed_test, not_false}
use Rattle.machine.proofs.WellFormed.Parts.{each, others_formed, well_command}
use Rattle.machine.proofs.Editions.Block0.{above, formed_above, Keeps, keeps_all, keeps_then, keeps_type}
use Rattle.machine.proofs.Editions.Recast.{recast, Same, SameReads, written_same, lost_writing_same, after_read_same, taken_same, delivered_same, lost_receiving_same, advanced_same}
use Rattle.machine.proofs.Editions.Front.{front, drop_front, stored_front, read_front}
use Rattle.machine.proofs.Editions.Kept.{accepted_kept}

-- A call but a start that is not refused finds a well-formed machine.
well_there : (m : Machine) (c : Call) → is_start c ≡ false → refusal m c ≡ 0 → well_formed m ≡ true
unfolding refusal
well_there m (start image) other e = absurd (true≢false other)
well_there m (host_read address) other e = not_false _ (passed_test (not (well_formed m)) 6 _ e).0
well_there m (host_write address v) other e = not_false _ (passed_test (not (well_formed m)) 6 _ e).0
well_there m (advance n) other e = not_false _ (passed_test (not (well_formed m)) 6 _ e).0
well_there m (take_frame buffer) other e = not_false _ (passed_test (not (well_formed m)) 6 _ e).0
well_there m (deliver bytes parities last_bits) other e = not_false _ (passed_test (not (well_formed m)) 6 _ e).0

above_there : (m : Machine) (c : Call) → is_start c ≡ false → refusal m c ≡ 0 → above m.command ≡ true
above_there m c other e = formed_above m.command (well_command m (well_there m c other e))

-- Any call that is no start, or is refused.
no_start : (s : Bool) (t : Bool) → (s && t) ≡ false → t ≡ true → s ≡ false
no_start true t h e = absurd (true≢false (sym e ∙ h))
no_start false t h e = refl

kept : (m : Machine) (c : Call) → starts_anew m c ≡ false → Keeps m (perform m c).next
unfolding perform
kept m c none =
    by_cond (λ (o : Outcome). Keeps m o.next) (eqb (refusal m c) 0) (accepted m c) _
    (λ e. let other = no_start (is_start c) (eqb (refusal m c) 0) none e in accepted_kept m c other (above_there m c other (eqb-true (refusal m c) 0 e)))
    (λ e. keeps_all m)

always_kept : (m : Machine) (cs : List Call) → NoneStarts m cs → Keeps m (after_calls m cs)
unfolding NoneStarts after_calls
always_kept m [] none = keeps_all m
always_kept m (c ∷ cs) (first, rest) = keeps_then (kept m c first) (always_kept (perform m c).next cs rest)

-- A start that is not refused.
started_as : (m : Machine) (image : List ℕ) → refusal m (start image) ≡ 0 → ((perform m (start image)).next.edition ≡ edition_of image) × (is_of (edition_of image) image ≡ true)
unfolding refusal started
started_as m image e =
    let tests = passed_test (not (eqb (length image) 512)) 1 _ e in (
      ap (λ (o : Outcome). o.next.edition) (as_accepted m (start image) e),
      own_type image (not_false _ (passed_test (not (of_either image)) 21 0 tests.1).0),
    )

own_started : (m : Machine) (c : Call) → starts_anew m c ≡ true → OwnType (perform m c).next
unfolding started
own_started m (start image) t =
    let passed = eqb-true (refusal m (start image)) 0 t in
    subst (λ (o : Outcome). OwnType o.next) (sym (as_accepted m (start image) passed)) (started_as m image passed).1
own_started m (host_read address) t = absurd (true≢false (sym t))
own_started m (host_write address v) t = absurd (true≢false (sym t))
own_started m (advance n) t = absurd (true≢false (sym t))
own_started m (take_frame buffer) t = absurd (true≢false (sym t))
own_started m (deliver bytes parities last_bits) t = absurd (true≢false (sym t))

-- After any call a memory of the machine's edition is so again.
own_again : (m : Machine) (c : Call) → OwnType m → OwnType (perform m c).next
own_again m c own = go (starts_anew m c) refl
  where
    go : (t : Bool) → starts_anew m c ≡ t → OwnType (perform m c).next
    go true t = own_started m c t
    go false t = keeps_type (kept m c t) own

-- No other call is refused with 22: its numbers are 7, one or two more and 0.
never : (a b c d : Bool) (p q : ℕ) → p ≤ 6 → q ≤ 6 → refuse_if a 7 (refuse_if b p (refuse_if c q (refuse_if d q 0))) ≡ 22 → ⊥
never true b c d p q hp hq h = omega (arith, h)
never false true c d p q hp hq h = omega (arith, h, hp)
never false false true d p q hp hq h = omega (arith, h, hq)
never false false false true p q hp hq h = omega (arith, h, hq)
never false false false false p q hp hq h = omega (arith, h)

only_of_start : (m : Machine) (c : Call) → refusal m c ≡ 22 → is_start c ≡ true
unfolding refusal
only_of_start m (start image) h = refl
only_of_start m (host_read address) h = absurd (never (not (well_formed m)) (ltb 63 address) false false 1 0 (omega arith) (omega arith) h)
only_of_start m (host_write address v) h = absurd (never (not (well_formed m)) (ltb 63 address) false false 1 0 (omega arith) (omega arith) h)
only_of_start m (advance n) h = absurd (never (not (well_formed m)) false false false 0 0 (omega arith) (omega arith) h)
only_of_start m (take_frame buffer) h =
    absurd (never (not (well_formed m)) (ltb (length buffer) 66) (not (sending m.command) || eqb (length m.held) 0) (stands_still m) 6 4 (omega arith) (omega arith) h)
only_of_start m (deliver bytes parities last_bits) h =
    absurd (never (not (well_formed m)) (not (frame_formed bytes parities last_bits)) (not (receiving m.command)) (stands_still m) 5 4 (omega arith) (omega arith) h)

-- A machine as another edition: e, with the first four bytes of b.
module _ (e : Edition) (b : List ℕ) (has : 4 ≤ length b) where
  abbrev g : List ℕ → List ℕ
  g = front b 4

  -- What does not read the type reads the same.
  read_unread : (l : List ℕ) (a n : ℕ) → (ltb a 4 && (readable a n && not (eqb n 0))) ≡ false → read_bytes (g l) a n ≡ read_bytes l a n
  read_unread l a n = go (ltb a 4) refl (readable a n) refl (eqb n 0) refl
    where
      go : (near : Bool) → ltb a 4 ≡ near → (may : Bool) → readable a n ≡ may → (none : Bool) → eqb n 0 ≡ none → (near && (may && not none)) ≡ false →
          read_bytes (g l) a n ≡ read_bytes l a n
      go false far may em none en h = ap (λ (bs : List ℕ). cond (readable a n) bs []) (read_front b 4 has l a n (ltb-false a 4 far))
      go true near false em none en h = ap (λ (t : Bool). cond t (bytes_from (g l) a n) []) em ∙ sym (ap (λ (t : Bool). cond t (bytes_from l a n) []) em)
      go true near true em true en h =
          let zero = eqb-true n 0 en in ap (read_bytes (g l) a) zero ∙ sym (ap (read_bytes l a) zero)
      go true near true em false en h = absurd (true≢false h)

  unread : (c : Command) (m : Machine) → command_reads_type c m ≡ false → SameReads e g c m
  unread Idle m h = tt
  unread (WriteE2 w) m h = tt
  unread ReadE2 m h = λ t.
      let a = address_of (argument 0 m) (argument 1 m) in
      let n = argument 2 m in
      read_unread m.eeprom a n (ap (λ (x : Bool). x && (ltb a 4 && (readable a n && not (eqb n 0)))) (sym t) ∙ h)
  unread LoadConfig m h = λ t u.
      let a = address_of (argument 0 m) (argument 1 m) in
      let low = leb-true 0x10 a (each (leb 0x10 a) _ u).0 in read_front b 4 has m.eeprom a 32 (omega (arith, low))
  unread LoadKeyE2 m h = λ t.
      let a = address_of (argument 0 m) (argument 1 m) in
      read_front b 4 has m.eeprom a 12 (ltb-false a 4 (ap (λ (x : Bool). x && ltb a 4) (sym t) ∙ h))
  unread LoadKey m h = tt
  unread CalcCRC m h = tt
  unread Transmit m h = tt
  unread Receive m h = tt
  unread TransceiveSending m h = tt
  unread TransceiveReceiving m h = tt

  module _ (m : Machine) (own : is_of e (g m.eeprom) ≡ is_of m.edition m.eeprom) where
    abbrev R : Machine
    R = recast e g m

    well_alike : well_formed R ≡ well_formed m
    unfolding well_formed
    well_alike = ap (λ (t : Bool). t && (fifo_formed m.held && others_formed m)) own

    first : (rest : ℕ) → refuse_if (not (well_formed R)) 7 rest ≡ refuse_if (not (well_formed m)) 7 rest
    first rest = ap (λ (t : Bool). refuse_if (not t) 7 rest) well_alike

    refusal_alike : (c : Call) → refusal R c ≡ refusal m c
    unfolding refusal
    refusal_alike (start image) = refl
    refusal_alike (host_read address) = first _
    refusal_alike (host_write address v) = first _
    refusal_alike (advance n) = first 0
    refusal_alike (take_frame buffer) = first _
    refusal_alike (deliver bytes parities last_bits) = first _

    -- The same answer and buffer, and the next machine recast.
    abbrev AlikeOutcome : Outcome → Outcome → Type 0
    AlikeOutcome o' o = (o'.answer ≡ o.answer) × (o'.buffer ≡ o.buffer) × Same e g o'.next o.next

    accepted_alike : (c : Call) → is_start c ≡ false → above m.command ≡ true → reads_type m c ≡ false → AlikeOutcome (accepted R c) (accepted m c)
    unfolding read_byte register_read lo_alert hi_alert buffer_taken
    accepted_alike (start image) other h unread-it = absurd (true≢false other)
    accepted_alike (host_read address) other h unread-it = (refl, refl, after_read_same e g address m)
    accepted_alike (host_write address v) other h unread-it =
        let n = register_written (mapped m.page address) v m in
        let reads = unread n.command n unread-it in
        (ap lost (lost_writing_same e g address v m reads), refl, written_same e g address v m reads)
    accepted_alike (advance n) other h unread-it = (refl, refl, advanced_same e g (λ l a bs low. stored_front b 4 has l a bs (omega (arith, low))) n m h)
    accepted_alike (take_frame buffer) other h unread-it = (refl, refl, taken_same e g m)
    accepted_alike (deliver bytes parities last_bits) other h unread-it =
        (ap lost (lost_receiving_same e g bytes last_bits m), refl, delivered_same e g bytes parities last_bits m)

    perform_alike : (c : Call) → is_start c ≡ false → reads_type m c ≡ false → AlikeOutcome (perform R c) (perform m c)
    unfolding perform
    perform_alike c other unread-it =
        subst (λ (k : ℕ). AlikeOutcome (cond (eqb k 0) (accepted R c) (record { answer = refused k; next = R; buffer = buffer_of c })) (perform m c))
        (sym (refusal_alike c)) (go (eqb (refusal m c) 0) refl)
      where
        go : (t : Bool) → eqb (refusal m c) 0 ≡ t →
            AlikeOutcome (cond t (accepted R c) (record { answer = refused (refusal m c); next = R; buffer = buffer_of c }))
            (cond t (accepted m c) (record { answer = refused (refusal m c); next = m; buffer = buffer_of c }))
        go true is = accepted_alike c other (above_there m c other (eqb-true (refusal m c) 0 is)) unread-it
        go false is = (refl, refl, record { is = refl })

-- Two machines that are alike: the second is the first one recast, and a machine recast is alike.
alike_same : {x y : Machine} (e : Edition) (b : List ℕ) → 4 ≤ length b → Same e (front b 4) y x → Alike x y
alike_same {x} {y} e b has s =
    record {
      page = part (λ z. z.page);
      command = part (λ z. z.command);
      held = part (λ z. z.held);
      lost_sum = part (λ z. z.lost_sum);
      status = part (λ z. z.status);
      timer = part (λ z. z.timer);
      checksum = part (λ z. z.checksum);
      key = part (λ z. z.key);
      bit_framing = part (λ z. z.bit_framing);
      registers = part (λ z. z.registers);
      beyond_type = sym (drop_front b 4 has x.eeprom) ∙ part (λ z. drop 4 z.eeprom);
    }
  where
    part : {A : Type 0} (f : Machine → A) → f (recast e (front b 4) x) ≡ f y
    part f = sym (ap f s.is)

recast_alike : {m n : Machine} → Alike m n → recast n.edition (front n.eeprom 4) m ≡ n
recast_alike {m} {n} a =
    let memory = ap (λ (l : List ℕ). take 4 n.eeprom ++ l) a.beyond_type ∙ take-append-drop 4 n.eeprom in
    λ i. machine_of (a.page i) (a.command i) (a.held i) (a.lost_sum i) (a.status i) (a.timer i) (a.checksum i) (a.key i) (a.bit_framing i) (a.registers i) (memory i) n.edition

-- A start, refused or not, does not go by the machine that it finds.
alike_started : (image : List ℕ) → Alike (started image) (started image)
alike_started image =
    record { page = refl; command = refl; held = refl; lost_sum = refl; status = refl; timer = refl; checksum = refl; key = refl; bit_framing = refl; registers = refl; beyond_type = refl }

start_alike : (m n : Machine) (image : List ℕ) → Alike m n → AnswersAlike m n (start image)
unfolding perform refusal
start_alike m n image a = go (eqb (refusal m (start image)) 0)
  where
    left : Machine → Outcome
    left x = record { answer = refused (refusal m (start image)); next = x; buffer = [] }

    after : Bool → Machine → Outcome
    after t x = cond t (accepted x (start image)) (left x)

    go : (t : Bool) → ((after t m).answer ≡ (after t n).answer) × ((after t m).buffer ≡ (after t n).buffer) × Alike (after t m).next (after t n).next
    go true = (refl, refl, alike_started image)
    go false = (refl, refl, a)

other_alike : (m n : Machine) (c : Call) → is_start c ≡ false → OwnType m → OwnType n → Alike m n → reads_type m c ≡ false → AnswersAlike m n c
other_alike m n c other own-m own-n a unread-it =
    let has = has_type n.edition n.eeprom own-n in
    let back = recast_alike a in
    let own : is_of n.edition (front n.eeprom 4 m.eeprom) ≡ is_of m.edition m.eeprom =
    ap (λ (x : Machine). is_of x.edition x.eeprom) back ∙ own-n ∙ sym own-m in
    let (answer, buffer, next) = perform_alike n.edition n.eeprom has m own c other unread-it in
    subst (λ (x : Machine). AnswersAlike m x c) back
    (sym answer, sym buffer, alike_same n.edition n.eeprom has next)

answer_alike : (m n : Machine) (c : Call) → OwnType m → OwnType n → Alike m n → reads_type m c ≡ false → AnswersAlike m n c
answer_alike m n (start image) p q a u = start_alike m n image a
answer_alike m n (host_read address) p q a u = other_alike m n (host_read address) refl p q a u
answer_alike m n (host_write address v) p q a u = other_alike m n (host_write address v) refl p q a u
answer_alike m n (advance k) p q a u = other_alike m n (advance k) refl p q a u
answer_alike m n (take_frame buffer) p q a u = other_alike m n (take_frame buffer) refl p q a u
answer_alike m n (deliver bytes parities last_bits) p q a u = other_alike m n (deliver bytes parities last_bits) refl p q a u

always_alike : (m n : Machine) (cs : List Call) → OwnType m → OwnType n → Alike m n → NoneReads m cs → EachAlike m n cs
unfolding EachAlike NoneReads
always_alike m n [] p q a none = tt
always_alike m n (c ∷ cs) p q a (first, rest) =
    let alike = answer_alike m n c p q a first in
    (alike, always_alike (perform m c).next (perform n c).next cs (own_again m c p) (own_again n c q) alike.2 rest)

-- The product type, read by ReadE2.
type_read_lem : (e : Edition) → (type_read e).held ≡ product_type e
unfolding offered offered_all lo_alert hi_alert alerted over_registers command_written stepped settled register_written well_formed refusal started written perform after_calls
type_read_lem Mfrc531 = refl
type_read_lem Rc530 = refl

-- An image of either edition.
either_taken : (m : Machine) (e : Edition) → refusal m (start (image_of e shipped)) ≡ 0
unfolding refusal
either_taken m Mfrc531 = refl
either_taken m Rc530 = refl

either_edition : (e : Edition) → (started (image_of e shipped)).edition ≡ e
unfolding started
either_edition Mfrc531 = refl
either_edition Rc530 = refl

-- The statement.
pub editions : Editions
unfolding refusal started
editions =
    record {
      started_as = started_as;
      only_of_start = only_of_start;
      kept = λ m c none. let k = kept m c none in (k.edition, k.block_0);
      always_kept = λ m cs none. let k = always_kept m cs none in (k.edition, k.block_0);
      answer_alike = answer_alike;
      always_alike = always_alike;
      type_read_lem = type_read_lem;
      short_image = λ m. refl;
      image_of_zeros = λ m. refl;
      image_of_both = λ m. refl;
      image_of_either = either_taken;
      edition_of_either = either_edition;
    }
