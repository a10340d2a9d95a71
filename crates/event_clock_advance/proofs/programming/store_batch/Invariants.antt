use mathlib.Core.Path.{◌≡◌}
use Rattle.event_clock_advance.specs.Clock.{stored_wrapped}
use Rattle.event_clock_advance.proofs.programming.store_batch.Given as goal

-- The bytes before i are stored.
abbrev pub invariant-loop-i : goal.invariant-loop-i
invariant-loop-i l = l.eeprom ≡ stored_wrapped l.initial.eeprom l.latch l.address l.i
