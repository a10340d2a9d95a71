-- How many bytes ReadE2's own function loses.
-- Assumes nothing.
use Rattle.std.specs.Prelude.{ℕ}
use Rattle.machine.specs.State.{Machine}
use Rattle.machine.specs.Fifo.{lost_of}
use Rattle.machine.specs.Commands.{read_bytes}

-- Of the bytes that it offers from an address on, which are none where one of them may not be read.
abbrev pub lost_reading : ℕ → ℕ → Machine → ℕ
lost_reading address count m = lost_of (read_bytes m.eeprom address count) m
