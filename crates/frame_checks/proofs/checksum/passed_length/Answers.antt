-- `frame_checks::checksum::passed_length` meets its contract: all but the trailing bytes. Assumes nothing.
use mathlib.Core.Path.{refl}
use Rattle.state.specs.View.{view, view_of}
use Rattle.frame_checks.proofs.CrcLaws.{passed_front}
use Rattle.frame_checks.proofs.checksum.passed_length.Goals as goal

pub returns-clause-passes : goal.returns-clause-passes
unfolding view_of
returns-clause-passes c =
    let a = c.args in
    let m = view a.chip.now in
    passed_front m a.bytes.now a.last_bits c.trailing_crc-width.result (c.trailing_crc-width.ensures.counts m a.bytes.now refl refl)
