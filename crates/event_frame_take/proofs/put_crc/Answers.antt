-- `event_frame_take::put_crc` meets its contract, by of how many bytes the checksum is. Assumes nothing.
use Rattle.std.proofs.Common.{arith, rules}
use Rattle.bits.specs.Bits.{Bytes}
use Rattle.state.proofs.ByteLaws.{known_bytes}
use Rattle.event_frame_take.proofs.CrcLaws.{put_one, put_two}
use Rattle.event_frame_take.proofs.put_crc.Goals as goal

pub returns-then-redundancy-eq1-clause-puts : goal.returns-then-redundancy-eq1-clause-puts
returns-then-redundancy-eq1-clause-puts c =
    let a = c.args in
    let all : Bytes a.buffer.now = search (rules, known_bytes) in
    put_one a.redundancy a.lsb a.msb a.buffer.now a.end c.checksum-sum.result (omega arith) c.checksum-sum.ensures (omega arith) (omega arith) all

pub returns-clause-puts : goal.returns-clause-puts
returns-clause-puts c =
    let a = c.args in
    put_two a.redundancy a.lsb a.msb a.buffer.now a.end c.checksum-sum.result (omega arith) c.checksum-sum.ensures (omega arith)
