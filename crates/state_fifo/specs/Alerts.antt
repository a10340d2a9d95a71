-- HiAlert and LoAlert as bits 1 and 0 of a number, and the requests for those that are new.
-- Assumes nothing.
use Rattle.std.specs.Prelude.{ℕ, ◌+◌, ◌-◌, ◌*◌, length, bit_and, nat_le}
use Rattle.machine.specs.State.{Machine}
use Rattle.machine.specs.Fifo.{water_level}
use Rattle.machine.specs.Registers.{flag}
use Rattle.state.specs.View.{raised}

abbrev pub alert_bits : ℕ → ℕ → ℕ
alert_bits held level = 2 * flag (nat_le (64 - held) level) + flag (nat_le held level)

abbrev pub alerts_of : Machine → ℕ
alerts_of m = alert_bits (length m.held) (water_level m)

-- The machine after an event, from the alerts before it.
abbrev pub alerted_from : ℕ → Machine → Machine
alerted_from before m = raised (bit_and (alerts_of m) (255 - before)) m
