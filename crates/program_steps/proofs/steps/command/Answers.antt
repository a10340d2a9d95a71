-- `steps::command` meets its contract, by the promises of the host write that clears, of that of the code, and of those that feed.
use Rattle.program_steps.proofs.LeadLaws.{leads_then, leads_to}
use Rattle.program_steps.specs.Leads.{next}
use Rattle.program_steps.proofs.steps.command.Goals as goal

pub returns : goal.returns
returns g c = leads_to (leads_then c.cleared.ensures (next c.host_write-active.ensures c.fed.ensures)) c.shown.ensures
