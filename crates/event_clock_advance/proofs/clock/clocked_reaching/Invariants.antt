use Rattle.event_clock_advance.proofs.Reaching.{Turn}
use Rattle.event_clock_advance.proofs.clock.clocked_reaching.Given as goal

abbrev pub invariant-loop-chip : goal.invariant-loop-chip
invariant-loop-chip l = Turn l.by l.rest l.left l.initial.chip l.chip

abbrev pub decreases-loop-chip : goal.decreases-loop-chip
decreases-loop-chip l = l.rest
