-- `event_clock_advance::clock::clocked_times` meets its contract: the clocks while a mode has hold, and then those that reach timer and programming. Assumes nothing.
use Prim.Native.Nat.{ℕ, ◌+◌, ◌-◌}
use native.Mathlib.Omega.{arith}
use mathlib.Core.Path.{◌≡◌, sym, ap, subst, ◌∙◌}
use Rattle.machine.specs.WellFormedness.{Formed}
use Rattle.machine.specs.Events.{clocks}
use Rattle.machine.proofs.WellFormed.Kept.{clocks_formed}
use Rattle.machine.proofs.ManyClocks.Pieces.{in_parts}
use Rattle.state.specs.View.{view}
use Rattle.state.proofs.TurnLaws.{then, becomes}
use Rattle.event_clock_advance.proofs.clock.clocked_times.Goals as goal

pub returns-then-rest-eq0-clause-turns : goal.returns-then-rest-eq0-clause-turns
returns-then-rest-eq0-clause-turns c sizes formed well =
    let by = c.args.by in
    let all : by - c.stood-rest.result ≡ by = omega (arith, c.if-rest-eq0.true) in
    becomes (clocks by) (c.stood-rest.ensures.turns sizes formed well).stood (ap (λ (n : ℕ). clocks n (view c.args.chip.now)) all)

pub returns-clause-turns : goal.returns-clause-turns
returns-clause-turns c sizes formed well =
    let m = view c.args.chip.now in
    let by = c.args.by in
    let rest = c.stood-rest.result in
    let stood = c.stood-rest.ensures.turns sizes formed well in
    let sum : by - rest + rest ≡ by = omega (arith, stood.within) in
    let first = stood.stood in
    becomes (clocks by)
    (then first
    (c.clocked_reaching.ensures.turns first.sizes (first.fields formed) (subst Formed (sym first.machine) (clocks_formed (by - rest) m well)) (stood.reaches c.if-rest-eq0.false)))
    (sym (in_parts (by - rest) rest m) ∙ ap (λ (n : ℕ). clocks n m) sum)
