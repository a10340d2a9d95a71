-- What the bytes left lead to, all bytes lead to.
use Rattle.state.specs.declared.Chip.{Chip}
use Rattle.program_steps.proofs.LeadLaws.{FeedsFrom}
use Rattle.program_steps.proofs.steps.fed.Given as goal

abbrev pub invariant-loop-byte : goal.invariant-loop-byte
invariant-loop-byte l = (e : Chip) → FeedsFrom l.bytes l.byte-index l.last.chip e → FeedsFrom l.bytes 0 l.fn.out.chip e
