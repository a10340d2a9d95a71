use mathlib.Core.Path.{◌≡◌}
use Rattle.machine.specs.Memory.{over_registers}
use Rattle.state.specs.View.{with_registers}
use Rattle.register_load.specs.Wrapped.{wrapped_from}
use Rattle.register_load.proofs.load_registers.Given as goal

abbrev pub invariant-loop-i : goal.invariant-loop-i
invariant-loop-i l = l.chip ≡ with_registers (over_registers 0 l.initial.chip.registers (wrapped_from l.initial.chip.eeprom l.address l.i)) l.initial.chip
