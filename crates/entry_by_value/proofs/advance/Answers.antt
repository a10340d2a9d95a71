-- The number of what the event promises of every chip that is what its types say. Assumes nothing.
use Rattle.entry_walk.proofs.NumberLaws.{numbered}
use Rattle.entry_by_value.proofs.advance.Goals as goal

pub returns : goal.returns
returns c = numbered c.advance.ensures.turns c.whole.ensures c.code-advanced.ensures
