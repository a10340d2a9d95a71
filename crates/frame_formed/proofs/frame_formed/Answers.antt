-- `frame_formed::frame_formed` meets its contract, where the tests before that of the parity values hold. Assumes nothing.
use Rattle.std.proofs.Common.{true, ◌∙◌}
use Rattle.frame_formed.proofs.FormedLaws.{values_last}
use Rattle.frame_formed.proofs.frame_formed.Goals as goal

pub returns-then-measured : goal.returns-then-measured
returns-then-measured c =
    let a = c.args in
    c.all_bits.ensures ∙ values_last a.bytes.now a.parities.now a.last_bits true c.if-measured.true
