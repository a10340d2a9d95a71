-- The single-clock rule over the program, from the events' relation and the rule of the definition. A malformed chip refuses every advance, and stays.
-- Assumes nothing.
use Prim.Native.Nat.{ℕ, zero, suc, ◌+◌}
use native.Mathlib.Omega.{arith}
use mathlib.Core.Path.{◌≡◌, refl, sym, ap, ◌∙◌, subst}
use mathlib.Core.Bool.{Bool, true, false, cond}
use mathlib.Core.List.{List, [], ◌∷◌, head-eq_of_cons-eq, tail-eq_of_cons-eq}
use lib.ListN.{length, replicate}
use Rattle.machine.specs.State.{Machine}
use Rattle.machine.specs.Refusals.{Call, advance, refusal}
use Rattle.machine.specs.Events.{advanced}
use Rattle.machine.specs.SingleClock.{singly}
use Rattle.machine.proofs.SingleClock.Rule.{single_clock_rule}
use Rattle.state.specs.View.{view}
use Rattle.state.specs.Formed.{chip_formed}
use Rattle.state.specs.Meets.{chip_refusal, Meets}
use Rattle.state.specs.declared.Chip.{Chip}
use Rattle.state.proofs.MeetLaws.{advance_refusal}
use Rattle.journal_runs.specs.Run.{Step, step, calls_of, Called, Run, end, next}
use Rattle.journal_runs.specs.SingleClock.{ProgramSingleClock}
use Rattle.journal_runs.proofs.Kept.{called_meets, all_promised}

-- An advance of a well-formed chip, and of one that is not.
record Advanced (n : ℕ) (c d : Chip) (answer : ℕ) : Type 0 where
  done : answer ≡ 0
  machine : view d ≡ advanced n (view c)
  formed : chip_formed d ≡ true

module _ {n answer : ℕ} {c d : Chip} {buffer : List ℕ} (meets : Meets c (advance n) d answer buffer) where
  accepted : chip_formed c ≡ true → Advanced n c d answer
  accepted well = let given = meets.accepts (advance_refusal c well n).0 in record { done = given.0; machine = given.1; formed = given.3 }

  stays : chip_formed c ≡ false → (answer ≡ 7) × (d ≡ c)
  unfolding chip_refusal
  stays ill = let given = meets.refuses 6 (ap (λ (t : Bool). cond t (refusal (view c) (advance n)) 7) ill) in (given.0, given.1)

sums : (a b first second answer : ℕ) (c between last whole : Chip) → Called c (step (advance a) first [] between) →
    Called between (step (advance b) second [] last) → Called c (step (advance (a + b)) answer [] whole) → (answer ≡ second) × (view whole ≡ view last)
sums a b first second answer c between last whole one two both = go (chip_formed c) refl
  where
    go : (t : Bool) → chip_formed c ≡ t → (answer ≡ second) × (view whole ≡ view last)
    go true well =
        let x = accepted (called_meets one) well in
        let y = accepted (called_meets two) x.formed in
        let z = accepted (called_meets both) well in
        (z.done ∙ sym y.done, z.machine ∙ single_clock_rule.sums a b (view c) ∙ ap (advanced b) (sym x.machine) ∙ sym y.machine)
    go false ill =
        let (none, same) = stays (called_meets one) ill in
        let (second_is, last-is) = stays (called_meets two) (ap chip_formed same ∙ ill) in
        let (answer-is, whole_is) = stays (called_meets both) ill in
        (answer-is ∙ sym second_is, ap view (whole_is ∙ sym same ∙ sym last-is))

-- So many advances by one clock, of chips of a kind that an advance keeps: f is what one does to the machine, and g what so many do.
module _ (Kind : Chip → Type 0) (f : Machine → Machine) (g : ℕ → Machine → Machine) (none : (m : Machine) → g 0 m ≡ m) (more : (n : ℕ) (m : Machine) → g (suc n) m ≡ g n (f m))
    (one : (c d : Chip) (answer : ℕ) (buffer : List ℕ) → Kind c → Meets c (advance 1) d answer buffer → (view d ≡ f (view c)) × Kind d) where
  one_by_one : (n : ℕ) (c last : Chip) (steps : List Step) → Run c steps last → calls_of steps ≡ replicate n (advance 1) → Kind c → view last ≡ g n (view c)
  one_by_one zero c last [] end is kind = sym (none (view c))
  one_by_one zero c last (s ∷ steps) (next called rest) is kind = absurd (let z : suc (length (calls_of steps)) ≡ 0 = ap length is in omega arith)
  one_by_one (suc n) c last [] end is kind = absurd (let z : 0 ≡ suc (length (replicate n (advance 1))) = ap length is in omega arith)
  one_by_one (suc n) c last (s ∷ steps) (next called rest) is kind =
      let (machine, still) = one c s.chip s.answer s.buffer kind (subst (λ (call : Call). Meets c call s.chip s.answer s.buffer) (head-eq_of_cons-eq is) (called_meets called)) in
      one_by_one n s.chip last steps rest (tail-eq_of_cons-eq is) still ∙ ap (g n) machine ∙ sym (more n (view c))

singles : (n answer : ℕ) (c last whole : Chip) (steps : List Step) → Run c steps last → calls_of steps ≡ replicate n (advance 1) →
    Called c (step (advance n) answer [] whole) → view whole ≡ view last
unfolding singly
singles n answer c last whole steps run is once = go (chip_formed c) refl
  where
    go : (t : Bool) → chip_formed c ≡ t → view whole ≡ view last
    go true well =
        (accepted (called_meets once) well).machine
        ∙ single_clock_rule.singles n (view c)
        ∙ sym (one_by_one (λ x. chip_formed x ≡ true) (advanced 1) singly (λ m. refl) (λ k m. refl) (λ x y r buffer kind meets. let done = accepted meets kind in (done.machine, done.formed)) n c last steps run is well)
    go false ill =
        ap view (stays (called_meets once) ill).1
        ∙ sym (one_by_one (λ x. chip_formed x ≡ false) (λ m. m) (λ k m. m) (λ m. refl) (λ k m. refl) (λ x y r buffer kind meets. let same = (stays meets kind).1 in (ap view same, ap chip_formed same ∙ kind)) n c last steps run is ill)

pub program_single_clock : ProgramSingleClock
program_single_clock = record { promised = all_promised; sums = sums; singles = singles }
