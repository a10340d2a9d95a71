-- `steps::feed` meets its contract, by the promises of the host write that clears and of those that feed.
use Rattle.program_steps.proofs.LeadLaws.{leads_to}
use Rattle.program_steps.specs.Leads.{next}
use Rattle.program_steps.proofs.steps.feed.Goals as goal

pub returns : goal.returns
returns g c = leads_to (next c.host_write-ready.ensures c.fed.ensures) c.shown.ensures
