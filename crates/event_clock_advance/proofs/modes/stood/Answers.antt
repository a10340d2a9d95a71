-- `event_clock_advance::modes::stood` meets its contract where no mode has hold. Assumes nothing.
use Prim.Native.Nat.{ℕ, ◌-◌}
use native.Mathlib.Omega.{arith}
use mathlib.Core.Path.{◌≡◌, sym, ap, ◌∙◌}
use Rattle.machine.specs.Events.{clocks}
use Rattle.state.specs.View.{view}
use Rattle.state.proofs.TurnLaws.{stays, becomes}
use Rattle.event_clock_advance.proofs.modes.stood.Goals as goal

pub returns-then-not-stands_still-clause-turns : goal.returns-then-not-stands_still-clause-turns
unfolding clocks
returns-then-not-stands_still-clause-turns c sizes formed well =
    let old = c.args.chip.now in
    let by = c.args.by in
    let none : 0 ≡ by - by = omega arith in
    record {
      within = omega arith;
      stood = becomes (clocks (by - by)) (stays old sizes) (ap (λ (n : ℕ). clocks n (view old)) none);
      reaches = λ some. sym (c.stands_still.ensures formed) ∙ c.if-not-stands_still.true;
    }
