-- `state_fifo::one_lost` meets its contract; the flag, and then the sum. Assumes nothing.
use Rattle.std.proofs.Common.{refl, ap, arith}
use Rattle.machine.specs.Fifo.{one_lost}
use Rattle.state.specs.View.{view_of}
use Rattle.state.specs.Parts.{numbers_state}
use Rattle.state.specs.declared.Chip.{Chip}
use Rattle.state.proofs.TurnLaws.{then, becomes, here}
use Rattle.state_fifo.proofs.FifoLaws.{counted}
use Rattle.state_fifo.proofs.one_lost.Goals as goal

pub returns-clause-turns : goal.returns-clause-turns
unfolding view_of
returns-clause-turns c sizes =
    let first = c.failed.ensures.turns sizes in
    becomes one_lost (then first (counted c.failed.new.self first.sizes _ (omega arith))) refl

pub returns-clause-others : goal.returns-clause-others
unfolding view_of
returns-clause-others c chip sizes =
    let next = numbers_state c.failed.new.self chip in
    let first = here (ap (λ (d : Chip). numbers_state d chip) c.failed.ensures.rest) (c.failed.ensures.others (numbers_state c.args.chip.now chip) sizes) in
    becomes one_lost (then first (counted next first.sizes _ (omega arith))) refl
