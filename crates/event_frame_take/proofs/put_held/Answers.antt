-- `event_frame_take::put_held` meets its contract: the bytes before i are copied. Assumes nothing.
use Rattle.std.proofs.Common.{refl, arith, length-set}
use Rattle.state.specs.View.{held_from}
use Rattle.event_frame_take.proofs.FrontLaws.{held_turn}
use Rattle.event_frame_take.proofs.put_held.Goals as goal

pub loop-i-init : goal.loop-i-init
unfolding held_from
loop-i-init c = (refl, refl)

pub loop-i-preserved : goal.loop-i-preserved
loop-i-preserved c =
    let a = c.args in (
      simp length-set c.loop-i.invariant.0,
      held_turn a.slots.now a.buffer.now c.loop-i.buffer a.position c.loop-i.i (omega arith) c.loop-i.invariant.1,
    )
