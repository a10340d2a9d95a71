-- `command_calc_crc::calc_crc` meets its contract, by whether a byte is held. Assumes nothing.
use Rattle.std.proofs.Common.{set, refl, ap, arith, rules}
use Rattle.machine.specs.State.{CalcCRC}
use Rattle.machine.specs.Commands.{stepped_as}
use Rattle.state.specs.View.{view, view_of, with_numbers}
use Rattle.state.specs.Parts.{numbers_state_slots}
use Rattle.state.specs.declared.Chip.{Chip}
use Rattle.state.proofs.RingLaws.{count_length}
use Rattle.state.proofs.TurnLaws.{stays, then, becomes, here, own}
use Rattle.command_arguments.proofs.ArgumentLaws.{too_few, all_held}
use Rattle.command_calc_crc.proofs.AbsorbLaws.{sum_stored}
use Rattle.command_calc_crc.proofs.calc_crc.Goals as goal

pub returns-then-count-eq0-clause-others : goal.returns-then-count-eq0-clause-others
unfolding view_of
returns-then-count-eq0-clause-others c chip sizes =
    let old = numbers_state_slots c.args.chip.now chip in
    becomes (stepped_as CalcCRC) (stays old sizes)
    (too_few 1 (view old) _ _ (count_length c.held-count.ensures old.slots) (omega (arith, c.if-count-eq0.true)))

pub returns-then-count-eq0-clause-turns : goal.returns-then-count-eq0-clause-turns
returns-then-count-eq0-clause-turns c sizes = returns-then-count-eq0-clause-others c c.args.chip.now sizes

pub returns-clause-others : goal.returns-clause-others
unfolding view_of
returns-clause-others c chip sizes =
    let on : Chip → Chip = λ d. numbers_state_slots d chip in
    let old = on c.args.chip.now in
    let p = c.held-count in
    let sums = sum_stored old p.result c.absorbed.result p.ensures c.absorbed.ensures sizes in
    let leaves = here (ap on c.emptied.ensures.rest) (c.emptied.ensures.others (with_numbers (set old.numbers 0 c.absorbed.result) old) sums.sizes) in
    let requests = here (ap on c.requested.ensures.rest) (c.requested.ensures.others (on c.emptied.new.chip) leaves.sizes) in
    becomes (stepped_as CalcCRC) (then (then sums leaves) requests)
    (all_held 1 (view old) _ _ (count_length p.ensures old.slots) (omega (arith, c.if-count-eq0.false)))

pub returns-clause-rest : goal.returns-clause-rest
returns-clause-rest c = search rules

pub returns-clause-turns : goal.returns-clause-turns
returns-clause-turns c sizes = own numbers_state_slots (returns-clause-rest c) refl (returns-clause-others c c.args.chip.now sizes)
