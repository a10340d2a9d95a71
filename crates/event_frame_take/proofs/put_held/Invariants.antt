use Rattle.std.proofs.Common.{◌≡◌, length}
use Rattle.state.specs.View.{held_from}
use Rattle.event_frame_take.specs.Front.{at_front}
use Rattle.event_frame_take.proofs.put_held.Given as goal

abbrev pub invariant-loop-i : goal.invariant-loop-i
invariant-loop-i l = (length l.buffer ≡ length l.initial.buffer) × (l.buffer ≡ at_front (held_from l.slots l.position l.i) l.initial.buffer)
