-- `state_fifo::offered` meets its contract, by whether there is room. Assumes nothing.
use Rattle.std.proofs.Common.{◌≤◌, length, ap, arith}
use Rattle.machine.specs.Fifo.{offered}
use Rattle.state.specs.View.{view, view_of}
use Rattle.state.specs.Parts.{numbers_state_slots}
use Rattle.state.specs.declared.Chip.{Chip}
use Rattle.state.proofs.RingLaws.{count_length}
use Rattle.state.proofs.TurnLaws.{becomes, here}
use Rattle.state_fifo.proofs.FifoLaws.{offer_lost, none_lost, one_is_lost}
use Rattle.state_fifo.proofs.offered.Goals as goal

pub returns-then-held-ge64-clause-turns : goal.returns-then-held-ge64-clause-turns
unfolding view_of
returns-then-held-ge64-clause-turns c sizes =
    let byte = c.args.byte in
    let old = c.args.chip.now in
    let full : 64 ≤ length (view old).held = omega (arith, count_length c.held.ensures old.slots) in
    (becomes (offered byte) (c.one_lost.ensures.turns sizes) (offer_lost byte (view old) full), one_is_lost (view old) full)

pub returns-clause-turns : goal.returns-clause-turns
unfolding view_of
returns-clause-turns c sizes =
    let old = c.args.chip.now in (
      c.stored.ensures.turns _ c.held.ensures (omega arith) sizes,
      none_lost (view old) (omega (arith, count_length c.held.ensures old.slots)),
    )

pub returns-then-held-ge64-clause-others : goal.returns-then-held-ge64-clause-others
unfolding view_of
returns-then-held-ge64-clause-others c chip sizes =
    let byte = c.args.byte in
    let old = numbers_state_slots c.args.chip.now chip in
    let full : 64 ≤ length (view old).held = omega (arith, count_length c.held.ensures old.slots) in
    let lost = here (ap (λ (d : Chip). numbers_state_slots d chip) c.one_lost.ensures.rest) (c.one_lost.ensures.others old sizes) in
    (becomes (offered byte) lost (offer_lost byte (view old) full), one_is_lost (view old) full)

pub returns-clause-others : goal.returns-clause-others
unfolding view_of
returns-clause-others c chip sizes =
    let old = numbers_state_slots c.args.chip.now chip in (
      here (ap (λ (d : Chip). numbers_state_slots d chip) c.stored.ensures.rest) (c.stored.ensures.others _ c.held.ensures (omega arith) old sizes),
      none_lost (view old) (omega (arith, count_length c.held.ensures old.slots)),
    )
