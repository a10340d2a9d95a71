-- Manual 9.10: the power modes, StandBy and PowerDown. A mode is off, waits for a programming's end, has hold, or is being left, each by itself.
-- Assumes nothing.
use Rattle.std.specs.Prelude.{ℕ, ◌-◌, Bool, true, false, cond, ◌||◌, leb}
use Rattle.bits.specs.Bits.{bit_set}
use Rattle.machine.specs.State.{Machine, Mode, Modes, off, waiting, in_hold, leaving}

-- How many clocks the leaving of each takes.
abbrev pub stand_by_clocks : ℕ
stand_by_clocks = 4

abbrev pub power_down_clocks : ℕ
power_down_clocks = 512

-- Its bit of Control reads 1, until the last clock of its leaving.
abbrev pub bit_reads : Mode → Bool
bit_reads off = false
bit_reads waiting = true
bit_reads in_hold = true
bit_reads (leaving n) = true

-- It has hold, also while it is being left.
abbrev pub has_hold : Mode → Bool
has_hold off = false
has_hold waiting = false
has_hold in_hold = true
has_hold (leaving n) = true

-- A write to its bit, with a programming in the machine or without: one that stands still is one. Set from 0, it takes hold, or waits where there is a
-- programming; set again, it stays, and is no longer being left. Cleared, it is off where it waits, and else is left by its whole number of clocks; a
-- leaving that has begun goes on.
abbrev pub mode_written : ℕ → Bool → Bool → Mode → Mode
mode_written whole programs bit off = cond bit (cond programs waiting in_hold) off
mode_written whole programs bit waiting = cond bit waiting off
mode_written whole programs bit in_hold = cond bit in_hold (leaving whole)
mode_written whole programs bit (leaving n) = cond bit in_hold (leaving n)

-- A clock given, which ends a programming or does not: a mode that waits takes hold behind the end, and one that is being left is off with the last clock.
abbrev pub mode_clocked : Bool → Mode → Mode
mode_clocked ends off = off
mode_clocked ends waiting = cond ends in_hold waiting
mode_clocked ends in_hold = in_hold
mode_clocked ends (leaving n) = cond (leb n 1) off (leaving (n - 1))

-- The same of both, by bits 5 and 4 of the byte written to Control.
abbrev pub modes_written : Bool → ℕ → Modes → Modes
modes_written programs v x =
    record {
      stand_by = mode_written stand_by_clocks programs (bit_set v 5) x.stand_by;
      power_down = mode_written power_down_clocks programs (bit_set v 4) x.power_down;
    }

abbrev pub modes_clocked : Bool → Modes → Modes
modes_clocked ends x = record { stand_by = mode_clocked ends x.stand_by; power_down = mode_clocked ends x.power_down }

-- A mode has hold, so that no clock reaches timer or programming.
abbrev pub stands_still : Machine → Bool
stands_still m = has_hold m.status.modes.stand_by || has_hold m.status.modes.power_down
