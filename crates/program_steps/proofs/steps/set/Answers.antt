-- `steps::set` meets its contract, by the host write's promise.
use Rattle.program_steps.specs.Leads.{none, next}
use Rattle.program_steps.proofs.steps.set.Goals as goal

pub returns : goal.returns
returns c = next c.host_write.ensures none
