-- What a timer that goes round TimerReload has for its value, so many steps after its end.
-- Assumes nothing.
use Prim.Native.Nat.{ℕ, ◌-◌, ◌%◌}

abbrev pub round_of : ℕ → ℕ → ℕ
round_of reload since = reload - since % reload
