-- A write to a register other than Command and FIFOData, and to the bits of the power modes in Control.
-- Assumes nothing.
use Rattle.std.specs.Prelude.{ℕ, ◌-◌, Bool, true, cond, ◌||◌, ◌≡◌, eqb}
use Rattle.machine.specs.State.{Machine, with_modes}
use Rattle.machine.specs.Power.{mode_written, modes_written}
use Rattle.machine.specs.Commands.{programs}
use Rattle.machine.specs.Registers.{register_written}
use Rattle.state.specs.View.{mode_of}
use Rattle.state.specs.Formed.{mode_agrees}
use Rattle.register_write.specs.declared.Mode.{Mode}

-- By its address after mapping; nothing is done at 01h and 02h, since a write to Command or FIFOData also has the active command take bytes, and functions of
-- their own do these.
unfoldable pub other_written : ℕ → ℕ → Machine → Machine
other_written register v m = cond (eqb register 0x01 || eqb register 0x02) m (register_written register v m)

-- A power mode that a write of a bit leaves: it is the mode written, with its bit and its number, which agree. `begun` is the number of a leaving with all
-- its clocks to go.
pub record ModeWritten (was : Mode) (bit programs : Bool) (begun : ℕ) (next : Mode) : Type 0 where
  pub mode : mode_of next.bit next.number ≡ mode_written (begun - 0x8000) programs bit (mode_of was.bit was.number)
  pub agrees : mode_agrees next.bit next.number ≡ true

-- Both modes, by bits 5 and 4 of the byte written.
abbrev pub both_written : ℕ → Machine → Machine
both_written v m = with_modes (modes_written (programs m.command) v m.status.modes) m
