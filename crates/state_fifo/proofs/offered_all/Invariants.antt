use Rattle.std.proofs.Common.{◌≡◌, ◌≤◌, take}
use Rattle.machine.specs.Fifo.{offered_all, lost_of}
use Rattle.state.specs.View.{with_numbers, with_state, with_slots}
use Rattle.state.specs.Parts.{numbers_state_slots}
use Rattle.state.specs.Turns.{TurnsLosing, TurnsLosingAny}
use Rattle.state_fifo.proofs.offered_all.Given as goal

-- Of those before an index, at most so many were lost; and only the arrays of the FIFO and the sum have changed.
abbrev pub invariant-loop-byte : goal.invariant-loop-byte
invariant-loop-byte l = (l.lost ≤ l.byte-index)
    × TurnsLosing (offered_all (take l.byte-index l.bytes)) (lost_of (take l.byte-index l.bytes)) l.initial.chip l.chip l.lost
    × (l.chip ≡ with_numbers l.chip.numbers (with_state l.chip.state (with_slots l.chip.slots l.initial.chip)))
    × TurnsLosingAny numbers_state_slots (offered_all (take l.byte-index l.bytes)) (lost_of (take l.byte-index l.bytes)) l.initial.chip l.chip l.lost
