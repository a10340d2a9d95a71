-- `event_clock_advance::modes::stands_still` meets its contract: the two numbers, of fields that agree. Assumes nothing.
use Rattle.state.proofs.PowerLaws.{stands_by_word}
use Rattle.event_clock_advance.proofs.modes.stands_still.Goals as goal

pub returns : goal.returns
returns c formed = stands_by_word c.args.chip.now c.modes_word.result formed c.modes_word.ensures
