-- `event_frame_take::sent::taken` meets its contract: its callees' turns in order. Assumes nothing.
use Rattle.machine.specs.Events.{taken}
use Rattle.state.specs.View.{view}
use Rattle.state.proofs.TurnLaws.{then, becomes}
use Rattle.event_frame_take.proofs.SentLaws.{steps_take}
use Rattle.event_frame_take.proofs.sent.taken.Goals as goal

pub returns-clause-turns : goal.returns-clause-turns
returns-clause-turns c sizes =
    let first = c.emptied.ensures.turns sizes in
    let second = c.begun_and_ended.ensures.turns first.sizes in
    let third = c.requested.ensures.turns second.sizes in
    let fourth = c.after_sending.ensures.turns third.sizes in
    becomes taken (then first (then second (then third (then fourth (c.alerted.ensures.turns fourth.sizes)))))
    (steps_take c.alerts_of-before.result (view c.args.chip.now) c.alerts_of-before.ensures.is)
