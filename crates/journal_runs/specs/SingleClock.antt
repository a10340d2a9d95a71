-- The single-clock rule over the program (manual 9.7), of every chip, well formed or not: advances as the functions' contracts promise them, in place or by
-- value. A number of clocks is what a function was given, so that the sums are those of 32 bits.
-- Assumes nothing.
use Rattle.std.specs.Prelude.{ℕ, ◌+◌, List, [], ◌≡◌, replicate}
use Rattle.machine.specs.Refusals.{advance}
use Rattle.state.specs.View.{view}
use Rattle.state.specs.declared.Chip.{Chip}
use Rattle.journal_runs.specs.Run.{Step, step, calls_of, Called, Run}
use Rattle.journal_runs.specs.Promised as contracts

pub record ProgramSingleClock : Type 2 where
  -- what a call rests on is what its function's contract says, whole
  pub promised : contracts.AllPromised
  -- An advance by a sum answers what the second of two does, each by one part, and leaves the same machine.
  pub sums :
      (a b first second answer : ℕ) (c between last whole : Chip) → Called c (step (advance a) first [] between) →
      Called between (step (advance b) second [] last) → Called c (step (advance (a + b)) answer [] whole) →
      (answer ≡ second) × (view whole ≡ view last)
  -- An advance by n clocks leaves the machine that n advances by one clock do.
  pub singles :
      (n answer : ℕ) (c last whole : Chip) (steps : List Step) → Run c steps last → calls_of steps ≡ replicate n (advance 1) →
      Called c (step (advance n) answer [] whole) → view whole ≡ view last
