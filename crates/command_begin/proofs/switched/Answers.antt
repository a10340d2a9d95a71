-- `command_begin::switched` meets its contract: three stores, of which the fields' agreement asks only that the stage is listed. Assumes nothing.
use borrow.Author.Tests.{not-true}
use native.Mathlib.Omega.{arith}
use mathlib.Core.Path.{refl, ap, ◌∙◌}
use mathlib.Core.Bool.{not, and-false}
use lib.Dec.{eqb}
use lib.ListN.{set, length-set}
use Rattle.machine.specs.State.{Command, with_command}
use Rattle.machine.proofs.WellFormed.Parts.{both, each}
use Rattle.state.specs.View.{view, view_of, with_clocks, with_state}
use Rattle.state.specs.Parts.{clocks_state}
use Rattle.state.specs.Formed.{listed, writes}
use Rattle.state.proofs.StoreLaws.{at_set, at_set_two, stored, next_near, others_agree}
use Rattle.state.proofs.TurnLaws.{sized_clocks, sized_state}
use Rattle.command_begin.specs.Begins.{begun}
use Rattle.command_begin.proofs.switched.Goals as goal

pub returns-clause-others : goal.returns-clause-others
unfolding view_of
returns-clause-others c begin chip sizes =
    let stage = c.args.stage in
    let old = clocks_state c.args.chip.now chip in
    let parts = each (listed stage) _ begin in
    let clocks = set old.clocks 1 0 in
    let staged = set old.state 12 stage in
    let l = set staged 10 0 in
    stored (with_clocks clocks (with_state l old)) (at_set old.clocks 1 0 (omega (arith, sizes.clock_count))) refl
    (at_set_two old.state 12 stage 10 0 (omega (arith, sizes.state_count)) (omega (arith, sizes.state_count)))
    (with_command (begun stage)) old
    (sized_clocks (sized_state sizes l (length-set staged 10 0 ∙ length-set old.state 12 stage ∙ sizes.state_count)) clocks (length-set old.clocks 1 0 ∙ sizes.clock_count))
    (ap (λ (x : Command). with_command x (view old)) (simp (not-true (eqb stage 0x41) parts.1)))
    (λ formed. both (both parts.0 (both (ap not (and-false (writes stage))) (next_near old formed))) (others_agree old formed))

pub returns-clause-turns : goal.returns-clause-turns
returns-clause-turns c begin sizes = returns-clause-others c begin c.args.chip.now sizes
