-- What the query promises of every chip that is what its types say. Assumes nothing.
use Rattle.std.proofs.Common.{◌∙◌}
use Rattle.entry_by_value.proofs.lost_sum.Goals as goal

pub returns : goal.returns
returns c = c.sum_number.ensures ∙ c.lost_sum.ensures c.whole.ensures.sizes
