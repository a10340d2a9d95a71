-- The pieces into which clocks are split, each from the timer's clocks and what the programming does: up to its end, before it, and without one.
-- Assumes nothing.
use Prim.Native.Nat.{ℕ, ◌-◌, ◌<◌, ◌≤◌}
use native.Mathlib.Omega.{arith}
use mathlib.Core.Path.{◌≡◌, refl, sym, ap, ◌∙◌}
use mathlib.Core.Bool.{Bool, true, false, not, ◌&&◌, true≢false}
use mathlib.Core.List.{List}
use lib.Dec.{eqb, leb}
use borrow.Author.Tests.{eq-eqb, ne_eqb, leb-true, leb-false}
use Rattle.machine.specs.State.{Machine, Command, Modes, WriteE2, programming, while_programming, with_command, with_modes}
use Rattle.machine.specs.Power.{modes_clocked, stands_still}
use Rattle.machine.specs.WellFormedness.{Formed}
use Rattle.machine.specs.Commands.{programs}
use Rattle.machine.specs.Events.{programmed, clocks}
use Rattle.machine.specs.ManyClocks.{timer_after}
use Rattle.machine.proofs.Clock.{end_any}
use Rattle.machine.proofs.WellFormed.Parts.{each, well_timer, some_left}
use Rattle.machine.proofs.ManyClocks.Pieces.{formula_command, formula_modes, timer_alone, before_end, at_end}
use Rattle.state.specs.View.{core, view, view_of}
use Rattle.state.specs.declared.Chip.{Chip}
use Rattle.event_clock_advance.specs.Clock.{programming_ended, programming_left, hold_taken}
use Rattle.event_clock_advance.proofs.BatchLaws.{is_idle}

module _ (m : Machine) (formed : Formed m) where
  -- The timer's clocks leave the command.
  same_command : (n : ℕ) → (timer_after n m).command ≡ m.command
  same_command n = formula_command m (well_timer m formed.well) n

  -- So after them the arrays still have a programming's clocks.
  pub still_left : (y : Chip) (n : ℕ) → view y ≡ timer_after n m → programs m.command ≡ true → (core y).left ≡ 0 → ⊥
  unfolding view_of
  still_left y n is runs none =
      true≢false (sym runs ∙ sym (ap (λ (x : Machine). programs x.command) is ∙ ap programs (same_command n)) ∙ is_idle (core y) y.latch none)

  -- No power mode has hold.
  module _ (runs : stands_still m ≡ false) where
    pub piece_rests : (n : ℕ) → programs m.command ≡ false → timer_after n m ≡ clocks n m
    piece_rests n idle = sym (timer_alone m (well_timer m formed.well) runs idle n)

    module _ (a left : ℕ) (bs : List ℕ) (is : m.command ≡ WriteE2 (programming a bs left)) where
      -- Up to the end of a programming; the modes are kept, and then one that has waited takes hold.
      ends_so : programming_ended (timer_after left m) ≡ programmed a bs (timer_after left m)
      ends_so = let y = timer_after left m in ap (λ (c : Command). while_programming (λ s cs k. programmed s cs y) y c) (same_command left ∙ is)

      pub modes_kept : (programming_ended (timer_after left m)).status.modes ≡ m.status.modes
      modes_kept =
          let y = timer_after left m in
          ap (λ (z : Machine). z.status.modes) ends_so
          ∙ end_any a bs y (λ (z : Machine). z.status.modes ≡ y.status.modes) refl refl (λ some far. refl)
          ∙ formula_modes m (well_timer m formed.well) left

      pub piece_ends : hold_taken (programming_ended (timer_after left m)) ≡ clocks left m
      piece_ends =
          ap (λ (x : Modes). with_modes (modes_clocked true x) (programming_ended (timer_after left m))) modes_kept
          ∙ ap (with_modes (modes_clocked true m.status.modes)) ends_so
          ∙ sym (at_end m (well_timer m formed.well) runs a left bs is (some_left m formed.well a left bs is))

      pub piece_goes_on : (n : ℕ) → n < left → programming_left (left - n) (timer_after n m) ≡ clocks n m
      piece_goes_on n within =
          let y = timer_after n m in
          ap (λ (c : Command). while_programming (λ s cs k. with_command (WriteE2 (programming s cs (left - n))) y) y c) (same_command n ∙ is)
          ∙ sym (before_end m (well_timer m formed.well) runs a left bs is n within)

-- Whether a programming ends within the clocks that are left to go: it does, or, where one runs, it has more clocks left.
pub ends_here : (left rest : ℕ) → (not (eqb left 0) && leb left rest) ≡ true → (left ≡ 0 → ⊥) × (left ≤ rest)
ends_here left rest h =
    let (some, within) = each (not (eqb left 0)) _ h in
    (λ none. true≢false (sym some ∙ ap not (eq-eqb left 0 none)), omega (arith, leb-true left rest within))

pub goes_past : (left rest : ℕ) → (not (eqb left 0) && leb left rest) ≡ false → (left ≡ 0 → ⊥) → rest < left
goes_past left rest h some = leb-false left rest (sym (ap (λ (t : Bool). not t && leb left rest) (ne_eqb left 0 some)) ∙ h)
