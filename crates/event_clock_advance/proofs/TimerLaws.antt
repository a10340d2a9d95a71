-- The timer after many clocks, by the tests that the code makes, and the stores that it makes.
-- Assumes nothing.
use Prim.Native.Nat.{ℕ, ◌+◌, ◌-◌, ◌/◌, ◌%◌, ◌^◌, ◌<◌, ◌≤◌}
use native.Mathlib.Omega.{arith}
use mathlib.Core.Path.{◌≡◌, refl, sym, ap, ◌∙◌}
use mathlib.Core.Bool.{Bool, true, false, cond, not, ◌&&◌}
use lib.ListN.{set, length-set}
use lib.Dec.{eqb, ltb}
use borrow.Author.Tests.{lt-ltb, le-ltb}
use Rattle.machine.specs.State.{Machine, with_timer}
use Rattle.machine.specs.Timer.{t_auto_restart, timer_reload, stopped_at, running_at, raised_timer}
use Rattle.machine.specs.WellFormed.{timer_formed}
use Rattle.machine.specs.ManyClocks.{after_steps, timer_after}
use Rattle.machine.proofs.WellFormed.Timer.{running}
use Rattle.state.specs.View.{view_of, with_clocks, with_state}
use Rattle.state.specs.Turns.{Turns}
use Rattle.state.specs.declared.Chip.{Chip}
use Rattle.state.proofs.StoreLaws.{at_set, stored, keeps_byte}
use Rattle.state.proofs.TurnLaws.{sized_clocks, sized_state}

-- A timer at another value and phase; TRunning and the prescaler stay.
abbrev pub goes_on : ℕ → ℕ → Machine → Machine
goes_on value phase m = with_timer (record { running = m.timer.running; value = value; prescaler = m.timer.prescaler; phase = phase }) m

-- Its value becomes 0.
abbrev pub value_gone : Machine → Machine
value_gone m = with_timer (record { running = m.timer.running; value = 0; prescaler = m.timer.prescaler; phase = m.timer.phase }) m

-- A timer that rests.
pub after_rests : (m : Machine) (n : ℕ) → m.timer.running ≡ false → m ≡ timer_after n m
unfolding timer_after
after_rests m n rests = sym (rw rests refl)

-- One that runs, by the steps and the phase that the code has found.
module _ (m : Machine) (n steps phase : ℕ) (runs : m.timer.running ≡ true) (formed : timer_formed m.timer ≡ true)
    (quotient : steps ≡ (m.timer.phase + n) / 2 ^ (m.timer.prescaler % 32)) (remainder : phase ≡ (m.timer.phase + n) % 2 ^ (m.timer.prescaler % 32)) where
  found : after_steps steps phase m ≡ timer_after n m
  unfolding timer_after
  found =
      let total = m.timer.phase + n in
      let p = m.timer.prescaler in
      let low : p % 32 ≡ p = omega (arith, (running m.timer runs formed).scaled) in
      ap (λ (s : ℕ). after_steps s phase m) (quotient ∙ ap (λ (q : ℕ). total / 2 ^ q) low)
      ∙ ap (λ (f : ℕ). after_steps (total / 2 ^ p) f m) (remainder ∙ ap (λ (q : ℕ). total % 2 ^ q) low)
      ∙ sym (ap (λ (t : Bool). cond t (after_steps (total / 2 ^ p) (total % 2 ^ p) m) m) runs)

  runs_on : (value : ℕ) → goes_on value phase m ≡ with_timer (running_at value m.timer.prescaler phase) m
  runs_on value = ap (λ (r : Bool). with_timer (record { running = r; value = value; prescaler = m.timer.prescaler; phase = phase }) m) runs

  abbrev again : Bool
  again = t_auto_restart m && not (eqb (timer_reload m) 0)

  abbrev past : Bool → Machine
  past t = with_timer (cond t (running_at (timer_reload m - (steps - m.timer.value) % timer_reload m) m.timer.prescaler phase) (stopped_at 0)) (raised_timer m)

  by_value : (t : Bool) → ltb steps m.timer.value ≡ t → cond t (with_timer (running_at (m.timer.value - steps) m.timer.prescaler phase) m) (past again) ≡ timer_after n m
  by_value t is = sym (ap (λ (u : Bool). cond u (with_timer (running_at (m.timer.value - steps) m.timer.prescaler phase) m) (past again)) is) ∙ found

  -- The value falls, the timer goes round TimerReload, or it stops.
  pub after_falls : steps < m.timer.value → goes_on (m.timer.value - steps) phase m ≡ timer_after n m
  after_falls below = runs_on (m.timer.value - steps) ∙ by_value true (lt-ltb steps m.timer.value below)

  pub after_restarts : m.timer.value ≤ steps → again ≡ true → raised_timer (goes_on (timer_reload m - (steps - m.timer.value) % timer_reload m) phase m) ≡ timer_after n m
  after_restarts all on = ap raised_timer (runs_on (timer_reload m - (steps - m.timer.value) % timer_reload m)) ∙ sym (ap past on) ∙ by_value false (le-ltb steps m.timer.value all)

  pub after_stops : m.timer.value ≤ steps → again ≡ false → raised_timer (with_timer (stopped_at 0) m) ≡ timer_after n m
  after_stops all off = sym (ap past off) ∙ by_value false (le-ltb steps m.timer.value all)

-- A store to the phase and the value.
pub goes_on_lem : (old : Chip) (value phase : ℕ) → Turns (goes_on value phase) old (with_clocks (set old.clocks 0 phase) (with_state (set old.state 15 value) old))
unfolding view_of
goes_on_lem old value phase sizes =
    let clocks = set old.clocks 0 phase in
    let l = set old.state 15 value in
    stored (with_clocks clocks (with_state l old)) (at_set old.clocks 0 phase (omega (arith, sizes.clock_count))) refl (at_set old.state 15 value (omega (arith, sizes.state_count)))
    (goes_on value phase) old
    (sized_clocks (sized_state sizes l (length-set old.state 15 value ∙ sizes.state_count)) clocks (length-set old.clocks 0 phase ∙ sizes.clock_count))
    refl (keeps_byte old 15 value refl (λ bytes. refl))
