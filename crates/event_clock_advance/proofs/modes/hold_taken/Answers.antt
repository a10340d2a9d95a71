-- `event_clock_advance::modes::hold_taken` meets its contract: both modes are off where Control is 0, and else each takes hold by its bit. Assumes nothing.
use Rattle.event_clock_advance.proofs.StandLaws.{hold_stored, none_hold}
use Rattle.event_clock_advance.proofs.modes.hold_taken.Goals as goal

pub returns-then-control-eq0-clause-turns : goal.returns-then-control-eq0-clause-turns
returns-then-control-eq0-clause-turns c sizes formed runs = none_hold c.args.chip.now sizes c.if-control-eq0.true

pub returns-clause-turns : goal.returns-clause-turns
returns-clause-turns c sizes formed runs =
    hold_stored c.args.chip.now formed runs sizes c.number_held.result c.number_held-2.result c.number_held.ensures c.number_held-2.ensures
