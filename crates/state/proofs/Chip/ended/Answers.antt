-- `Chip::ended` meets its contract: Idle with no clocks left, and then the request. Assumes nothing.
use Rattle.std.proofs.Common.{set, refl, ap, ◌∙◌, arith, length-set}
use Rattle.machine.specs.State.{Idle, with_command}
use Rattle.machine.proofs.WellFormed.Parts.{both}
use Rattle.state.specs.View.{view_of, with_clocks, with_state}
use Rattle.state.specs.Parts.{clocks_state}
use Rattle.state.specs.declared.Chip.{Chip}
use Rattle.state.proofs.StoreLaws.{at_set, stored, next_near, others_agree}
use Rattle.state.proofs.TurnLaws.{then, here, sized_clocks, sized_state}
use Rattle.state.proofs.Chip.ended.Goals as goal

pub returns-clause-others : goal.returns-clause-others
unfolding view_of
returns-clause-others c chip sizes =
    let own = c.args.self.now in
    let old = clocks_state own chip in
    let clocks = set own.clocks 1 0 in
    let l = set own.state 12 0x00 in
    let idle = with_clocks clocks (with_state l chip) in
    let stops = stored idle (at_set own.clocks 1 0 (omega (arith, sizes.clock_count))) refl (at_set own.state 12 0x00 (omega (arith, sizes.state_count)))
    (with_command Idle) old
    (sized_clocks (sized_state sizes l (length-set own.state 12 0x00 ∙ sizes.state_count)) clocks (length-set own.clocks 1 0 ∙ sizes.clock_count))
    refl (λ formed. both (next_near old formed) (others_agree old formed)) in
    then stops (here (ap (λ (d : Chip). clocks_state d chip) c.requested.ensures.rest) (c.requested.ensures.others idle stops.sizes))

pub returns-clause-turns : goal.returns-clause-turns
unfolding view_of
returns-clause-turns c sizes =
    let old = c.args.self.now in
    let clocks = set old.clocks 1 0 in
    let l = set old.state 12 0x00 in
    let idle = with_clocks clocks (with_state l old) in
    let stops = stored idle (at_set old.clocks 1 0 (omega (arith, sizes.clock_count))) refl (at_set old.state 12 0x00 (omega (arith, sizes.state_count)))
    (with_command Idle) old
    (sized_clocks (sized_state sizes l (length-set old.state 12 0x00 ∙ sizes.state_count)) clocks (length-set old.clocks 1 0 ∙ sizes.clock_count))
    refl (λ formed. both (next_near old formed) (others_agree old formed)) in
    then stops (c.requested.ensures.turns stops.sizes)
