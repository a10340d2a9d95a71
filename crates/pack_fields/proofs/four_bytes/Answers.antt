-- `pack_fields::four_bytes` meets its contract. Assumes nothing.
use Rattle.pack.specs.Layout.{four_bytes}
use Rattle.pack_fields.proofs.four_bytes.Goals as goal

pub returns : goal.returns
unfolding four_bytes
returns c = c.to_le_bytes.ensures
