-- A turn of the loop over the ends of programmings: what is known of the chip then, and what more clocks make of it.
-- Assumes nothing.
use Rattle.std.proofs.Common.{◌≡◌, ℕ, ◌+◌, ◌-◌, ◌≤◌, true, false, take, sym, ap, subst, ◌∙◌, arith}
use Rattle.machine.specs.State.{WriteE2, programming}
use Rattle.machine.specs.Power.{stands_still}
use Rattle.machine.specs.WellFormedness.{Formed}
use Rattle.machine.specs.Events.{clocks}
use Rattle.machine.proofs.WellFormed.Kept.{clocks_formed}
use Rattle.machine.proofs.ManyClocks.Pieces.{in_parts}
use Rattle.state.specs.View.{batch_start, core, view, view_of, with_clocks, with_numbers, with_state, with_latch, with_eeprom}
use Rattle.state.specs.Formed.{fields_formed}
use Rattle.state.specs.Turns.{Sizes, Turned}
use Rattle.state.specs.declared.Chip.{Chip}
use Rattle.state.proofs.TurnLaws.{then, becomes}
use Rattle.event_clock_advance.proofs.BatchLaws.{programs_here, is_programming}

-- A chip in which no power mode has hold, so that clocks reach timer and programming.
pub record Runs (c : Chip) : Type 0 where
  pub sizes : Sizes c
  pub fields : fields_formed c ≡ true
  pub well : Formed (view c)
  pub without : stands_still (view c) ≡ false

pub entered : {c : Chip} → Sizes c → fields_formed c ≡ true → Formed (view c) → stands_still (view c) ≡ false → Runs c
entered sizes formed well without = record { sizes = sizes; fields = formed; well = well; without = without }

-- What clocks leave of a chip: its registers, its slots and its key.
abbrev pub others : Chip → Chip → Chip
others d old = with_clocks d.clocks (with_numbers d.numbers (with_state d.state (with_latch d.latch (with_eeprom d.eeprom old))))

pub leaves : (old : Chip) {x y : Chip} → x ≡ y → y ≡ others y old → x ≡ others x old
leaves old is left = subst (λ d. d ≡ others d old) (sym is) left

pub leaves_then : (a b d : Chip) → b ≡ others b a → d ≡ others d b → d ≡ others d a
leaves_then a b d first second = second ∙ ap (others d) first

-- Of so many clocks the chip has had all but the rest; the loop knows how many the programming has left, and clocks reach it.
pub record Turn (by rest left : ℕ) (old x : Chip) : Type 0 where
  pub within : rest ≤ by
  pub known : left ≡ (core x).left
  pub so_far : Runs old → Turned (clocks (by - rest)) old x
  pub runs : Runs old → stands_still (view x) ≡ false
  pub left_be : x ≡ others x old

module _ {by rest left : ℕ} {old x : Chip} (turn : Turn by rest left old x) (entry : Runs old) where
  pub runs_here : Runs x
  runs_here =
      let so_far = turn.so_far entry in
      record {
        sizes = so_far.sizes;
        fields = so_far.fields entry.fields;
        well = subst Formed (sym so_far.machine) (clocks_formed (by - rest) (view old) entry.well);
        without = turn.runs entry;
      }

  -- so many more clocks
  pub further : {z : Chip} (n : ℕ) → n ≤ rest → Turned (clocks n) x z → Turned (clocks (by - (rest - n))) old z
  further n less turned =
      let m = view old in
      let sum : by - rest + n ≡ by - (rest - n) = omega (arith, turn.within) in
      becomes (clocks (by - (rest - n))) (then (turn.so_far entry) turned) (sym (in_parts (by - rest) n m) ∙ ap (λ (k : ℕ). clocks k m) sum)

  -- all clocks but none are had
  pub all : {z : Chip} → Turned (clocks (by - (rest - rest))) old z → Turned (clocks by) old z
  all turned =
      let whole : by - (rest - rest) ≡ by = omega arith in
      becomes (clocks by) turned (ap (λ (n : ℕ). clocks n (view old)) whole)

  -- the programming that runs, where one does
  module _ (some : left ≡ 0 → ⊥) where
    left_here : (core x).left ≡ 0 → ⊥
    left_here none = some (turn.known ∙ none)

    pub is_run : let k = core x in (view x).command ≡ WriteE2 (programming (batch_start k.next k.latched) (take k.latched x.latch) left)
    unfolding view_of
    is_run =
        let k = core x in
        is_programming k x.latch (programs_here x runs_here.fields left_here).0 left_here
        ∙ ap (λ (n : ℕ). WriteE2 (programming (batch_start k.next k.latched) (take k.latched x.latch) n)) (sym turn.known)
