-- `event_clock_advance::timer::timer_clocked` meets its contract: a timer that rests, one whose value falls, one that goes round TimerReload, and one that stops. Assumes nothing.
use Prim.Native.Nat.{ℕ, ◌<◌, ◌≤◌}
use native.Mathlib.Omega.{arith}
use mathlib.Core.Path.{◌≡◌, refl, sym, ap, ◌∙◌}
use mathlib.Core.Bool.{true}
use lib.Dec.{eqb, lit<}
use borrow.Author.Tests.{eq-eqb, ne_eqb, leb-true, leb-false}
use Rattle.bits.specs.Bits.{bit_set}
use Rattle.machine.specs.Timer.{raised_timer}
use Rattle.machine.specs.ManyClocks.{timer_after}
use Rattle.machine.proofs.WellFormed.Parts.{well_timer}
use Rattle.machine.proofs.ManyClocks.Timer.{goes_round}
use Rattle.state.specs.View.{at, core, view, view_of}
use Rattle.state.proofs.StoreLaws.{set_byte}
use Rattle.state.proofs.TurnLaws.{stays, then, becomes}
use Rattle.event_clock_advance.proofs.TimerLaws.{goes_on, value_gone, goes_on_lem, after_rests, after_falls, after_restarts, after_stops}
use Rattle.event_clock_advance.proofs.timer.timer_clocked.Goals as goal
use Rattle.event_clock_advance.proofs.timer.timer_clocked.Goals.{After-comes_to_end, Else-not-comes_to_end, Then-not-comes_to_end}

-- What the test for the end says of them.
goes_on_still : (c : Then-not-comes_to_end) → c.steps_made-steps.result < (core c.args.chip.now).value
goes_on_still c = leb-false (core c.args.chip.now).value c.steps_made-steps.result (sym c.comes_to_end.ensures ∙ c.if-not-comes_to_end.true)

comes_to_its_end : (c : Else-not-comes_to_end) → (core c.args.chip.now).value ≤ c.steps_made-steps.result
comes_to_its_end c = omega (arith, leb-true (core c.args.chip.now).value c.steps_made-steps.result (sym c.comes_to_end.ensures ∙ c.if-not-comes_to_end.false))

-- The timer runs.
runs : (asked : After-comes_to_end) → eqb (core asked.args.chip.now).running 1 ≡ true
runs asked = eq-eqb (core asked.args.chip.now).running 1 asked.if-chip-ne1.false

pub returns-then-chip-ne1-clause-turns : goal.returns-then-chip-ne1-clause-turns
unfolding view_of
returns-then-chip-ne1-clause-turns c sizes formed well =
    let old = c.args.chip.now in
    becomes (timer_after c.args.by) (stays old sizes) (after_rests (view old) c.args.by (ne_eqb (core old).running 1 c.if-chip-ne1.true))

pub fallen-requires : goal.fallen-requires
fallen-requires c = goes_on_still (goal.at.fallen-requires c).Then-not-comes_to_end

pub returns-then-not-comes_to_end-clause-turns : goal.returns-then-not-comes_to_end-clause-turns
unfolding view_of
returns-then-not-comes_to_end-clause-turns c sizes formed well =
    let old = c.args.chip.now in
    let steps = c.steps_made-steps in
    let next = c.phase_after-next in
    becomes (timer_after c.args.by) (goes_on_lem old c.fallen.result next.result sizes)
    (ap (λ (v : ℕ). goes_on v next.result (view old)) c.fallen.ensures
    ∙ after_falls (view old) c.args.by steps.result next.result (runs (goal.at.returns-then-not-comes_to_end-clause-turns c).After-comes_to_end) (well_timer (view old) well.well) steps.ensures next.ensures
    (goes_on_still (goal.at.returns-then-not-comes_to_end-clause-turns c).Then-not-comes_to_end))

pub gone_round-requires : goal.gone_round-requires
gone_round-requires c =
    let registers = c.args.chip.now.registers in
    (comes_to_its_end (goal.at.gone_round-requires c).Else-not-comes_to_end, goes_round (bit_set (at registers 0x1A) 5) (at registers 0x1C) (sym c.restarts.ensures ∙ c.if-restarts.true))

pub returns-then-restarts-clause-turns : goal.returns-then-restarts-clause-turns
unfolding view_of
returns-then-restarts-clause-turns c sizes formed well =
    let old = c.args.chip.now in
    let steps = c.steps_made-steps in
    let next = c.phase_after-next in
    let stores = goes_on_lem old c.gone_round.result next.result sizes in
    becomes (timer_after c.args.by) (then stores (c.requested.ensures.turns stores.sizes))
    (ap (λ (v : ℕ). raised_timer (goes_on v next.result (view old))) c.gone_round.ensures
    ∙ after_restarts (view old) c.args.by steps.result next.result (runs (goal.at.returns-then-restarts-clause-turns c).After-comes_to_end) (well_timer (view old) well.well) steps.ensures next.ensures
    (comes_to_its_end (goal.at.returns-then-restarts-clause-turns c).Else-not-comes_to_end) (sym c.restarts.ensures ∙ c.if-restarts.true))

pub returns-clause-turns : goal.returns-clause-turns
unfolding view_of
returns-clause-turns c sizes formed well =
    let old = c.args.chip.now in
    let steps = c.steps_made-steps in
    let next = c.phase_after-next in
    let stopped = c.timer_stopped.new.chip in
    let stop = c.timer_stopped.ensures.turns sizes in
    let none = set_byte value_gone stopped.state 15 0 stopped (lit< tt) refl stop.sizes refl (λ bytes. refl) in
    becomes (timer_after c.args.by) (then (then stop none) (c.requested-2.ensures.turns none.sizes))
    (after_stops (view old) c.args.by steps.result next.result (runs (goal.at.returns-clause-turns c).After-comes_to_end) (well_timer (view old) well.well) steps.ensures next.ensures
    (comes_to_its_end (goal.at.returns-clause-turns c).Else-not-comes_to_end) (sym c.restarts.ensures ∙ c.if-restarts.false))
