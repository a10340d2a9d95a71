-- The edition over the program, from the events' relation and the statements of the definition.
-- Assumes nothing.
use Prim.Native.Nat.{ℕ, zero, suc}
use native.Mathlib.Omega.{arith}
use mathlib.Core.Path.{◌≡◌, refl, sym, ap, ◌∙◌}
use mathlib.Core.Bool.{Bool, true, false, cond, ◌&&◌, true≢false}
use mathlib.Core.List.{List, [], ◌∷◌}
use lib.Dec.{eqb}
use lib.ListN.{take}
use borrow.Author.Tests.{eq-eqb}
use Rattle.edition.specs.Edition.{is_of, edition_of}
use Rattle.machine.specs.State.{Machine}
use Rattle.machine.specs.Refusals.{Call, start, host_read, host_write, advance, take_frame, deliver, refusal}
use Rattle.machine.specs.Events.{Outcome, accepted, started}
use Rattle.machine.specs.Editions.{is_start}
use Rattle.machine.proofs.Performing.{as_accepted}
use Rattle.machine.proofs.Editions.Rule.{editions}
use Rattle.state.specs.View.{view, view_of}
use Rattle.state.specs.Formed.{chip_formed}
use Rattle.state.specs.Meets.{coded, chip_refusal, Meets}
use Rattle.state.specs.declared.Chip.{Chip}
use Rattle.journal_runs.specs.Run.{Step, step, Called, Run, end, next}
use Rattle.journal_runs.specs.Editions.{NoneStarted, ProgramEditions}
use Rattle.journal_runs.proofs.Kept.{called_meets, start_passed, all_promised}

-- A start that succeeds.
started_as : (image : List ℕ) (old fresh : Chip) → Called old (step (start image) 0 [] fresh) →
    ((view fresh).edition ≡ edition_of image) × (fresh.eeprom ≡ image) × (is_of (edition_of image) image ≡ true)
unfolding chip_refusal view_of started
started_as image old fresh begins =
    let passed = start_passed image (called_meets begins) in
    let machine = ((called_meets begins).accepts passed).1 in
    (ap (λ (m : Machine). m.edition) machine, ap (λ (m : Machine). m.eeprom) machine, (editions.started_as (view old) image passed).1)

past : (t : Bool) (n : ℕ) → cond t n 7 ≡ 0 → n ≡ 0
past true n e = e
past false n e = absurd (omega (arith, e))

-- A call but a start that is not refused finds a machine that does not refuse it.
passes : (c : Chip) (call : Call) → is_start call ≡ false → chip_refusal c call ≡ 0 → refusal (view c) call ≡ 0
unfolding chip_refusal
passes c (start image) other e = absurd (true≢false other)
passes c (host_read address) other e = past (chip_formed c) (refusal (view c) (host_read address)) e
passes c (host_write address v) other e = past (chip_formed c) (refusal (view c) (host_write address v)) e
passes c (advance n) other e = past (chip_formed c) (refusal (view c) (advance n)) e
passes c (take_frame buffer) other e = past (chip_formed c) (refusal (view c) (take_frame buffer)) e
passes c (deliver bytes parities last_bits) other e = past (chip_formed c) (refusal (view c) (deliver bytes parities last_bits)) e

abbrev Kept : Chip → Chip → Type 0
Kept c d = ((view d).edition ≡ (view c).edition) × (take 0x10 d.eeprom ≡ take 0x10 c.eeprom)

-- A start that is not refused answers 0.
no_start_here : (call : Call) (m : Machine) {answer : ℕ} → (is_start call && eqb answer 0) ≡ false → answer ≡ coded (accepted m call).answer → is_start call ≡ false
no_start_here (start image) m none is = absurd (true≢false (sym (eq-eqb _ 0 is) ∙ none))
no_start_here (host_read address) m none is = refl
no_start_here (host_write address v) m none is = refl
no_start_here (advance n) m none is = refl
no_start_here (take_frame buffer) m none is = refl
no_start_here (deliver bytes parities last_bits) m none is = refl

-- One call.
step_kept : {c d : Chip} {call : Call} {answer : ℕ} {buffer : List ℕ} → Meets c call d answer buffer → (is_start call && eqb answer 0) ≡ false → Kept c d
unfolding view_of
step_kept {c} {d} {call} {answer} {buffer} meets none = go (chip_refusal c call) refl
  where
    go : (n : ℕ) → chip_refusal c call ≡ n → Kept c d
    go (suc n) is = let same = (meets.refuses n is).1 in (ap (λ (x : Chip). (view x).edition) same, ap (λ (x : Chip). take 0x10 x.eeprom) same)
    go zero is =
        let no_start = no_start_here call (view c) none (meets.accepts is).0 in
        let passed = passes c call no_start is in
        let machine = (meets.accepts is).1 ∙ sym (ap (λ (o : Outcome). o.next) (as_accepted (view c) call passed)) in
        let (edition, block) = editions.kept (view c) call (ap (λ (t : Bool). t && eqb (refusal (view c) call) 0) no_start) in
        (ap (λ (m : Machine). m.edition) machine ∙ edition, ap (λ (m : Machine). take 0x10 m.eeprom) machine ∙ block)

-- A run.
kept : (c last : Chip) (steps : List Step) → Run c steps last → NoneStarted steps → Kept c last
unfolding NoneStarted
kept c last [] end none = (refl, refl)
kept c last (s ∷ steps) (next called rest) (first, others) =
    let one = step_kept (called_meets called) first in
    let more = kept s.chip last steps rest others in (more.0 ∙ one.0, more.1 ∙ one.1)

pub program_editions : ProgramEditions
program_editions = record { promised = all_promised; started_as = started_as; kept = kept }
