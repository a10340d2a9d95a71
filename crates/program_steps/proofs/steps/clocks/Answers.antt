-- `steps::clocks` meets its contract, by the promises of its two calls.
use Rattle.program_steps.proofs.LeadLaws.{leads_last}
use Rattle.program_steps.proofs.steps.clocks.Goals as goal

pub returns : goal.returns
returns g c = leads_last c.cleared.ensures c.advance.ensures c.shown.ensures
