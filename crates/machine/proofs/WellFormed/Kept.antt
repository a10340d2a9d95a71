-- Every call leads from a well-formed machine to a well-formed one.
-- Assumes nothing.
use Prim.Native.Nat.{ℕ, suc}
use mathlib.Core.Path.{◌≡◌, refl}
use mathlib.Core.Bool.{true, false, not, ◌||◌}
use mathlib.Core.List.{List, [], ◌∷◌}
use lib.Dec.{ltb, leb, eqb, eqb-suc-zero}
use lib.ListN.{length}
use borrow.Author.Tests.{eqb-true, leb-true}
use Rattle.edition.specs.Edition.{is_of, of_either}
use Rattle.edition.proofs.Laws.{own_type}
use Rattle.machine.specs.State.{Machine}
use Rattle.machine.specs.Frames.{sending, receiving}
use Rattle.machine.specs.Registers.{mapped}
use Rattle.machine.specs.WellFormed.{well_formed}
use Rattle.machine.specs.Refusals.{Call, start, host_read, host_write, advance, take_frame, deliver, ByteCall, all_bits, frame_formed, refusal}
use Rattle.machine.specs.Events.{Outcome, refused, buffer_of, accepted, perform, after_calls, after_read, started, clocks}
use Rattle.machine.specs.WellFormedness.{Formed, EachByteCall, WellFormedness}
use Rattle.machine.proofs.Cases.{by_cond, neither}
use Rattle.machine.proofs.WellFormed.Parts.{Good, each, good_formed, formed_good, well_edition, well_held, well_command, well_modes}
use Rattle.machine.proofs.WellFormed.Modes.{Modal, after_read_modal, written_modal, clocks_modal, advanced_modal, taken_modal, delivered_modal}
use Rattle.machine.proofs.Performing.{passed_test, not_false}
use Rattle.machine.proofs.WellFormed.Events.{started_good, written_good, after_read_good, clocks_good, advanced_good, taken_good, delivered_good}
use Rattle.machine.proofs.Editions.Block0.{formed_above, keeps_type, clocks_kept}
use Rattle.machine.proofs.Editions.Kept.{accepted_kept}

-- A call that is not refused leads to a good machine.
accepted_good : (m : Machine) (c : Call) → ByteCall c → refusal m c ≡ 0 → Good m → Good (accepted m c).next
unfolding refusal
accepted_good m (start image) w e g = started_good image w (eqb-true (length image) 512 (not_false _ (passed_test (not (eqb (length image) 512)) 1 _ e).0))
accepted_good m (host_read address) w e g = after_read_good address m g
accepted_good m (host_write address v) w e g = written_good address v m w g
accepted_good m (advance n) w e g = advanced_good n m g
accepted_good m (take_frame buffer) w e g = taken_good m g
accepted_good m (deliver bytes parities last_bits) w e g =
    let tests = passed_test (not (well_formed m)) 6 _ e in
    let formed = not_false (frame_formed bytes parities last_bits) (passed_test (not (frame_formed bytes parities last_bits)) 4 _ tests.1).0 in
    let (some, h₁) = each (leb 1 (length bytes)) _ formed in
    let (most, h₂) = each (leb (length bytes) 64) _ h₁ in
    let (same, h₃) = each (eqb (length parities) (length bytes)) _ h₂ in
    let (flags, few) = each (all_bits parities) _ h₃ in delivered_good bytes parities last_bits m w (leb-true last_bits 7 few) g

-- And its memory is of its edition.
accepted_type : (m : Machine) (c : Call) → refusal m c ≡ 0 → Good m → is_of m.edition m.eeprom ≡ true → is_of (accepted m c).next.edition (accepted m c).next.eeprom ≡ true
unfolding refusal started
accepted_type m (start image) e g own =
    own_type image (not_false _ (passed_test (not (of_either image)) 21 0 (passed_test (not (eqb (length image) 512)) 1 _ e).1).0)
accepted_type m (host_read address) e g own = keeps_type (accepted_kept m (host_read address) refl (formed_above m.command g.0.command.formed)) own
accepted_type m (host_write address v) e g own = keeps_type (accepted_kept m (host_write address v) refl (formed_above m.command g.0.command.formed)) own
accepted_type m (advance n) e g own = keeps_type (accepted_kept m (advance n) refl (formed_above m.command g.0.command.formed)) own
accepted_type m (take_frame buffer) e g own = keeps_type (accepted_kept m (take_frame buffer) refl (formed_above m.command g.0.command.formed)) own
accepted_type m (deliver bytes parities last_bits) e g own = keeps_type (accepted_kept m (deliver bytes parities last_bits) refl (formed_above m.command g.0.command.formed)) own

-- And its power modes are formed.
accepted_modal : (m : Machine) (c : Call) → refusal m c ≡ 0 → Modal m → Modal (accepted m c).next
unfolding refusal started
accepted_modal m (start image) e h = refl
accepted_modal m (host_read address) e h = after_read_modal address m h
accepted_modal m (host_write address v) e h = written_modal address v m h
accepted_modal m (advance n) e h = advanced_modal n m h
accepted_modal m (take_frame buffer) e h =
    let room = (passed_test (not (well_formed m)) 6 _ e).1 in
    let waits = (passed_test (ltb (length buffer) 66) 5 _ room).1 in
    let sends = (neither (not (sending m.command)) _ (passed_test (not (sending m.command) || eqb (length m.held) 0) 3 _ waits).0).0 in
    taken_modal m (not_false (sending m.command) sends) h
accepted_modal m (deliver bytes parities last_bits) e h =
    let formed = (passed_test (not (well_formed m)) 6 _ e).1 in
    let receives = (passed_test (not (frame_formed bytes parities last_bits)) 4 _ formed).1 in
    delivered_modal bytes parities last_bits m (not_false (receiving m.command) (passed_test (not (receiving m.command)) 3 _ receives).0) h

-- Any call.
kept : (m : Machine) (c : Call) → ByteCall c → Formed m → Formed (perform m c).next
unfolding perform
kept m c w f =
    by_cond (λ (o : Outcome). Formed o.next) (eqb (refusal m c) 0) (accepted m c) _
    (λ e.
    let passed = eqb-true (refusal m c) 0 e in
    let good = formed_good m f in
    good_formed (accepted m c).next (accepted_good m c w passed good) (accepted_type m c passed good (well_edition m f.well)) (accepted_modal m c passed (well_modes m f.well)))
    (λ e. f)

-- Any list of calls.
always : (m : Machine) (cs : List Call) → EachByteCall cs → Formed m → Formed (after_calls m cs)
unfolding EachByteCall after_calls
always m [] w f = f
always m (c ∷ cs) (w, ws) f = always (perform m c).next cs ws (kept m c w f)

-- A refused call.
refused_keeps : (m : Machine) (c : Call) (n : ℕ) → refusal m c ≡ suc n → ((perform m c).next ≡ m) × ((perform m c).buffer ≡ buffer_of c) × ((perform m c).answer ≡ refused (suc n))
unfolding perform
refused_keeps m c n e = rw (e, eqb-suc-zero n) (refl, refl, refl)

-- A read of another register than FIFOData.
plain_read : (m : Machine) (address : ℕ) → eqb (mapped m.page address) 0x02 ≡ false → (perform m (host_read address)).next ≡ m
unfolding perform after_read
plain_read m address h = by_cond (λ (o : Outcome). o.next ≡ m) (eqb (refusal m (host_read address)) 0) _ _ (λ e. rw h) (λ e. refl)

-- Any number of clocks.
pub clocks_formed : (n : ℕ) (m : Machine) → Formed m → Formed (clocks n m)
clocks_formed n m f =
    let good = formed_good m f in good_formed (clocks n m) (clocks_good n m good) (keeps_type (clocks_kept n m (formed_above m.command (well_command m f.well))) (well_edition m f.well)) (clocks_modal n m (well_modes m f.well))

-- The statement.
pub well_formedness : WellFormedness
unfolding started
well_formedness =
    record {
      starts = λ image w sized either. good_formed (started image) (started_good image w sized) (own_type image either) refl;
      kept = kept;
      always = always;
      refused_changes_nothing = refused_keeps;
      plain_read = plain_read;
      held_at_most_64 = well_held;
    }
