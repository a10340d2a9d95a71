-- What registers show of a chip that is well formed.
-- Assumes nothing.
use Rattle.std.specs.Prelude.{ℕ, true, ◌≡◌}
use Rattle.machine.specs.State.{Machine}
use Rattle.state.specs.View.{view}
use Rattle.state.specs.Formed.{chip_formed}
use Rattle.state.specs.declared.Chip.{Chip}

-- A function that reads where the chip is well formed: its answer is what a definition gives of the machine.
abbrev pub Shows : (Machine → ℕ) → Chip → ℕ → Type 0
Shows f c r = chip_formed c ≡ true → r ≡ f (view c)
