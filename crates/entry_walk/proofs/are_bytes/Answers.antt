-- Assumes nothing.
use Rattle.std.proofs.Common.{arith}
use Rattle.entry_walk.proofs.TypeLaws.{each_byte}
use Rattle.entry_walk.proofs.are_bytes.Goals as goal

pub returns : goal.returns
returns c = each_byte c.args.slice.now (λ k. omega (arith, c.type_inv.slice k))
