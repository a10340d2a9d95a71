-- `state_timer::timer_stopped` meets its contract: its callee sets the value that there was. Assumes nothing.
use mathlib.Core.Path.{refl}
use Rattle.machine.specs.Timer.{timer_stopped}
use Rattle.state.specs.View.{view_of}
use Rattle.state.proofs.TurnLaws.{becomes}
use Rattle.state_timer.proofs.timer_stopped.Goals as goal

pub returns-clause-turns : goal.returns-clause-turns
unfolding view_of
returns-clause-turns c sizes = becomes timer_stopped (c.timer_set.ensures.turns sizes) refl

pub returns-clause-others : goal.returns-clause-others
unfolding view_of
returns-clause-others c chip sizes = becomes timer_stopped (c.timer_set.ensures.others chip sizes) refl
