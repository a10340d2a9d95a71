-- `event_frame_take::sent::begun_and_ended` meets its contract, by whether a bit of TimerControl is set. Assumes nothing.
use Rattle.machine.specs.Frames.{tx_begun, tx_ended}
use Rattle.state.specs.View.{view, view_of}
use Rattle.state.proofs.TurnLaws.{stays, becomes}
use Rattle.event_frame_take.proofs.SentLaws.{not_started, is_started}
use Rattle.event_frame_take.proofs.sent.begun_and_ended.Goals as goal

pub returns-then-chip-eq0-clause-turns : goal.returns-then-chip-eq0-clause-turns
unfolding view_of
returns-then-chip-eq0-clause-turns c sizes =
    let old = c.args.chip.now in
    becomes (λ m. tx_ended (tx_begun m)) (stays old sizes) (not_started (view old) c.if-chip-eq0.true)

pub returns-clause-turns : goal.returns-clause-turns
unfolding view_of
returns-clause-turns c sizes =
    becomes (λ m. tx_ended (tx_begun m)) (c.timer_started.ensures.turns sizes) (is_started (view c.args.chip.now) c.if-chip-eq0.false)
