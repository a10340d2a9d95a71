-- Where WriteE2's next byte goes, after it has waited for its address. Assumes nothing.
use Rattle.std.specs.Prelude.{ℕ, cond}
use Rattle.machine.specs.State.{Machine}
use Rattle.machine.specs.Memory.{address_of}
use Rattle.machine.specs.Commands.{enough, argument}

abbrev pub next_after : ℕ → Machine → ℕ
next_after next m = cond (enough 2 m) (address_of (argument 0 m) (argument 1 m)) next
