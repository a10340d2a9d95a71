-- `Chip::receives` meets its contract, by the stage. Assumes nothing.
use Rattle.state.specs.View.{core, view_of}
use Rattle.state.proofs.StageLaws.{stage_receives}
use Rattle.state.proofs.Chip.receives.Goals as goal

pub returns : goal.returns
unfolding view_of
returns c = stage_receives (core c.args.self.now) c.args.self.now.latch
