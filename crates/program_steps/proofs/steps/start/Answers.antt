-- `steps::start` meets its contract, by the promises of its two calls.
use Rattle.program_steps.specs.Leads.{next}
use Rattle.program_steps.proofs.steps.start.Goals as goal

pub returns : goal.returns
returns g c = next c.start-out.ensures c.set-next.ensures
