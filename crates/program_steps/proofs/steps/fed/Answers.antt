-- `steps::fed` meets its contract, by what the bytes left lead to.
use Rattle.program_steps.proofs.LeadLaws.{feed_turn, feed_end}
use Rattle.program_steps.proofs.steps.fed.Goals as goal

pub loop-byte-preserved : goal.loop-byte-preserved
loop-byte-preserved c e rest = c.loop-byte.invariant e (feed_turn c.args.bytes.now c.loop-byte.byte-index c.loop-byte-test.true c.host_write-last.ensures rest)

pub returns : goal.returns
returns c = c.loop-byte.invariant c.loop-byte.last.chip (feed_end c.args.bytes.now c.loop-byte.byte-index c.loop-byte.last.chip c.loop-byte-test.false)
