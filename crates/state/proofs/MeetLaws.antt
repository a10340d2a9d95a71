-- From an event's work on a chip to its promise: a call that is refused, and one that is not.
-- Assumes nothing.
use Rattle.std.proofs.Common.{◌≡◌, ℕ, suc, ◌/◌, ◌%◌, ◌<◌, ◌≤◌, Bool, true, false, cond, not, ◌&&◌, ◌||◌, eqb, ltb, List, length, sym, refl, ap, ◌∙◌, subst, arith, ltb-true, le-ltb, lt-ltb}
use Rattle.edition.specs.Edition.{of_either}
use Rattle.machine.specs.WellFormed.{well_formed, timer_formed, command_formed, nothing_pends, checksum_formed, modes_formed}
use Rattle.machine.specs.WellFormedness.{Formed}
use Rattle.machine.specs.Refusals.{Call, start, host_read, host_write, advance, take_frame, deliver, refusal, refuse_if, frame_formed, ByteCall}
use Rattle.machine.specs.Commands.{programs}
use Rattle.machine.specs.Power.{stands_still}
use Rattle.machine.specs.Frames.{sending, receiving, frame_waits}
use Rattle.machine.specs.Events.{Outcome, accepted, buffer_of}
use Rattle.machine.proofs.Performing.{as_accepted}
use Rattle.machine.proofs.WellFormed.Parts.{both, each, well_others}
use Rattle.machine.proofs.WellFormed.Kept.{well_formedness}
use Rattle.state.specs.View.{core, view, view_of}
use Rattle.state.specs.Formed.{fields_formed, chip_formed}
use Rattle.state.specs.Turns.{Sizes}
use Rattle.state.specs.Meets.{coded, chip_refusal, Meets, Whole, Promises}
use Rattle.state.specs.declared.Chip.{Chip}

-- A frame does not wait where the chip does not send or holds no byte.
waits_not : (sends empty : Bool) → (not sends || empty) ≡ not (sends && not empty)
waits_not true true = refl
waits_not true false = refl
waits_not false empty = refl

-- A refused call: the number, and chip and buffer as they were.
pub refused : (c : Chip) (call : Call) (n : ℕ) → chip_refusal c call ≡ suc n → Promises c call c (suc n) (buffer_of call)
refused c call n is whole =
    (record { refuses = λ k e. (sym is ∙ e, refl, refl); accepts = λ e. absurd (omega (arith, sym is ∙ e)) }, whole)

-- What an accepted call has to show: answer, next machine and buffer by the definition, and the next chip's own fields and arrays.
pub record Done (c : Chip) (call : Call) (next : Chip) (answer : ℕ) (buffer : List ℕ) : Type 0 where
  pub answered : answer ≡ coded (accepted (view c) call).answer
  pub turned : view next ≡ (accepted (view c) call).next
  pub lent : buffer ≡ (accepted (view c) call).buffer
  pub fields : fields_formed next ≡ true
  pub sizes : Sizes next

module _ (c : Chip) (call : Call) (next : Chip) (answer : ℕ) (buffer : List ℕ) where
  -- The next machine is well formed.
  pub accepted_as : chip_refusal c call ≡ 0 → Done c call next answer buffer → Formed (accepted (view c) call).next → Meets c call next answer buffer × Whole next
  unfolding chip_formed
  accepted_as none done formed =
      let here : Formed (view next) = subst Formed (sym done.turned) formed in (
        record {
          refuses = λ n e. absurd (omega (arith, sym none ∙ e));
          accepts = λ e. (done.answered, done.turned, done.lent, both done.fields here.well);
        },
        record { sizes = done.sizes; sized = here.sized },
      )

-- A start judges the image alone, its length and then whose it is.
pub start_refusal : (c : Chip) (image : List ℕ) (t u : Bool) → eqb (length image) 512 ≡ t → of_either image ≡ u →
    chip_refusal c (start image) ≡ refuse_if (not t) 2 (refuse_if (not u) 22 0)
unfolding chip_refusal refusal
start_refusal c image t u e o = λ i. refuse_if (not (e i)) 2 (refuse_if (not (o i)) 22 0)

module _ (c : Chip) (formed : chip_formed c ≡ true) where
  -- The parts of being well formed.
  pub own_fields_formed : fields_formed c ≡ true
  unfolding chip_formed
  own_fields_formed = (each (fields_formed c) _ formed).0

  pub machine_well : well_formed (view c) ≡ true
  unfolding chip_formed
  machine_well = (each (fields_formed c) _ formed).1

  pub machine_formed : Whole c → Formed (view c)
  machine_formed whole = record { well = machine_well; sized = whole.sized }

  -- A call that is not refused.
  pub accepted_here : (call : Call) (next : Chip) (answer : ℕ) (buffer : List ℕ) → ByteCall call → Whole c → (chip_refusal c call ≡ 0) × (refusal (view c) call ≡ 0) →
      Done c call next answer buffer → Meets c call next answer buffer × Whole next
  accepted_here call next answer buffer bytes whole (none, passed) done =
      accepted_as c call next answer buffer none done
      (subst (λ (o : Outcome). Formed o.next) (as_accepted (view c) call passed) (well_formedness.kept (view c) call bytes (machine_formed whole)))

  -- At most 64 bytes are held.
  pub few_held : length (view c).held ≤ 64
  few_held = well_formedness.held_at_most_64 (view c) machine_well

  -- RxLastBits is below 8.
  pub last_bits_small : (core c).rx_last_bits < 8
  unfolding well_formed view_of
  last_bits_small =
      let m = view c in
      let (timed, h₂) = each (timer_formed m.timer) _ (well_others m machine_well) in
      let (commanded, h₃) = each (command_formed m.command) _ h₂ in
      let (rests, h₄) = each (nothing_pends m.command m.held) _ h₃ in
      let (summed, h₅) = each (checksum_formed m.checksum) _ h₄ in
      let (modes, bits) = each (modes_formed (programs m.command) m.status.modes) _ h₅ in ltb-true (core c).rx_last_bits 8 (each (eqb ((core c).page / 8 % 16) 0) _ bits).1

  -- The order of refusals, from 7 on, of a chip that is well formed: the number, and that the machine's is the same.
  by_call : (call : Call) (n : ℕ) → refusal (view c) call ≡ n → cond (chip_formed c) (refusal (view c) call) 7 ≡ n
  by_call call n e = ap (λ (t : Bool). cond t (refusal (view c) call) 7) formed ∙ e

  well_then : (rest : ℕ) → refuse_if (not (well_formed (view c))) 7 rest ≡ rest
  well_then rest = ap (λ (t : Bool). refuse_if (not t) 7 rest) machine_well

  pub read_refusal : (address n : ℕ) → refuse_if (ltb 63 address) 1 0 ≡ n → (chip_refusal c (host_read address) ≡ n) × (refusal (view c) (host_read address) ≡ n)
  unfolding chip_refusal refusal
  read_refusal address n e = let m = well_then _ ∙ e in (by_call (host_read address) n m, m)

  pub write_refusal : (address v n : ℕ) → refuse_if (ltb 63 address) 1 0 ≡ n → (chip_refusal c (host_write address v) ≡ n) × (refusal (view c) (host_write address v) ≡ n)
  unfolding chip_refusal refusal
  write_refusal address v n e = let m = well_then _ ∙ e in (by_call (host_write address v) n m, m)

  pub advance_refusal : (clocks : ℕ) → (chip_refusal c (advance clocks) ≡ 0) × (refusal (view c) (advance clocks) ≡ 0)
  unfolding chip_refusal refusal
  advance_refusal clocks = let m = well_then 0 in (by_call (advance clocks) 0 m, m)

  -- A take, by the room in the buffer, by whether a frame waits, and by whether a power mode has hold, which are judged of the core.
  module _ (buffer : List ℕ) where
    abbrev take_then : ℕ
    take_then = refuse_if (not (sending (view c).command) || eqb (length (view c).held) 0) 4 (refuse_if (stands_still (view c)) 4 0)

    take_refusal : (n : ℕ) → refuse_if (ltb (length buffer) 66) 6 take_then ≡ n →
        (chip_refusal c (take_frame buffer) ≡ n) × (refusal (view c) (take_frame buffer) ≡ n)
    unfolding chip_refusal refusal
    take_refusal n e = let m = well_then _ ∙ e in (by_call (take_frame buffer) n m, m)

    pub take_short : length buffer < 66 → (chip_refusal c (take_frame buffer) ≡ 6) × (refusal (view c) (take_frame buffer) ≡ 6)
    take_short short = take_refusal 6 (ap (λ (t : Bool). refuse_if t 6 take_then) (lt-ltb (length buffer) 66 short))

    pub take_judged : 66 ≤ length buffer → (t s : Bool) → frame_waits (view c) ≡ t → stands_still (view c) ≡ s →
        let n = refuse_if (not t) 4 (refuse_if s 4 0) in (chip_refusal c (take_frame buffer) ≡ n) × (refusal (view c) (take_frame buffer) ≡ n)
    take_judged room t s waits stands =
        take_refusal (refuse_if (not t) 4 (refuse_if s 4 0))
        (ap (λ (b : Bool). refuse_if b 6 take_then) (le-ltb (length buffer) 66 room)
        ∙ ap (λ (b : Bool). refuse_if b 4 (refuse_if (stands_still (view c)) 4 0))
        (waits_not (sending (view c).command) (eqb (length (view c).held) 0) ∙ ap not waits)
        ∙ ap (λ (b : Bool). refuse_if (not t) 4 (refuse_if b 4 0)) stands)

  -- A delivery, by whether the frame is formed, whether the chip receives, and whether a power mode has hold.
  module _ (bytes parities : List ℕ) (last_bits : ℕ) {f : Bool} (judges : f ≡ frame_formed bytes parities last_bits) where
    abbrev deliver_then : ℕ
    deliver_then = refuse_if (not (receiving (view c).command)) 4 (refuse_if (stands_still (view c)) 4 0)

    deliver_refusal : (n : ℕ) → refuse_if (not (frame_formed bytes parities last_bits)) 5 deliver_then ≡ n →
        (chip_refusal c (deliver bytes parities last_bits) ≡ n) × (refusal (view c) (deliver bytes parities last_bits) ≡ n)
    unfolding chip_refusal refusal
    deliver_refusal n e = let m = well_then _ ∙ e in (by_call (deliver bytes parities last_bits) n m, m)

    pub deliver_unformed : f ≡ false → (chip_refusal c (deliver bytes parities last_bits) ≡ 5) × (refusal (view c) (deliver bytes parities last_bits) ≡ 5)
    deliver_unformed e = deliver_refusal 5 (ap (λ (t : Bool). refuse_if (not t) 5 deliver_then) (sym judges ∙ e))

    pub deliver_judged : f ≡ true → (t s : Bool) → receiving (view c).command ≡ t → stands_still (view c) ≡ s →
        let n = refuse_if (not t) 4 (refuse_if s 4 0) in (chip_refusal c (deliver bytes parities last_bits) ≡ n) × (refusal (view c) (deliver bytes parities last_bits) ≡ n)
    deliver_judged whole t s receives stands =
        deliver_refusal (refuse_if (not t) 4 (refuse_if s 4 0))
        (ap (λ (b : Bool). refuse_if (not b) 5 deliver_then) (sym judges ∙ whole)
        ∙ ap (λ (b : Bool). refuse_if (not b) 4 (refuse_if (stands_still (view c)) 4 0)) receives
        ∙ ap (λ (b : Bool). refuse_if (not t) 4 (refuse_if b 4 0)) stands)

-- A call but a start on a malformed chip.
abbrev JudgesChip : Call → Type 0
JudgesChip (start image) = ⊥
JudgesChip (host_read address) = Unit {0}
JudgesChip (host_write address v) = Unit {0}
JudgesChip (advance clocks) = Unit {0}
JudgesChip (take_frame buffer) = Unit {0}
JudgesChip (deliver bytes parities last_bits) = Unit {0}

pub malformed : (c : Chip) (call : Call) → JudgesChip call → chip_formed c ≡ false → Promises c call c 7 (buffer_of call)
unfolding chip_refusal
malformed c (start image) j e = absurd j
malformed c (host_read address) j e = refused c (host_read address) 6 (ap (λ (t : Bool). cond t (refusal (view c) (host_read address)) 7) e)
malformed c (host_write address v) j e = refused c (host_write address v) 6 (ap (λ (t : Bool). cond t (refusal (view c) (host_write address v)) 7) e)
malformed c (advance clocks) j e = refused c (advance clocks) 6 (ap (λ (t : Bool). cond t (refusal (view c) (advance clocks)) 7) e)
malformed c (take_frame buffer) j e = refused c (take_frame buffer) 6 (ap (λ (t : Bool). cond t (refusal (view c) (take_frame buffer)) 7) e)
malformed c (deliver bytes parities last_bits) j e = refused c (deliver bytes parities last_bits) 6 (ap (λ (t : Bool). cond t (refusal (view c) (deliver bytes parities last_bits)) 7) e)
