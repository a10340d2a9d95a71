use Rattle.std.proofs.Common.{◌≡◌, ◌≤◌}
use Rattle.machine.specs.Fifo.{offered_all, lost_of}
use Rattle.machine.specs.Memory.{bytes_from}
use Rattle.state.specs.View.{with_numbers, with_state, with_slots}
use Rattle.state.specs.Parts.{numbers_state_slots_eeprom}
use Rattle.state.specs.Turns.{TurnsLosingAny}
use Rattle.command_read_e2.proofs.offered_memory.Given as goal

abbrev pub invariant-loop-i : goal.invariant-loop-i
invariant-loop-i l = (l.lost ≤ l.i)
    × TurnsLosingAny numbers_state_slots_eeprom (offered_all (bytes_from l.initial.chip.eeprom l.address l.i)) (lost_of (bytes_from l.initial.chip.eeprom l.address l.i)) l.initial.chip l.chip l.lost
    × (l.chip ≡ with_numbers l.chip.numbers (with_state l.chip.state (with_slots l.chip.slots l.initial.chip)))
