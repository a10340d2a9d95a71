-- The sum of lost bytes over the program (manual 9.9): what the call for it, in place or by value, answers at any moment of a run, by its own contract.
-- Assumes nothing.
use Rattle.std.specs.Prelude.{ℕ, min, false, List, [], ◌≡◌}
use Rattle.machine.specs.Refusals.{start}
use Rattle.journal.specs.Entries.{away_from}
use Rattle.journal.specs.Demand.{run}
use Rattle.state.specs.Formed.{chip_formed}
use Rattle.state.specs.LostSum.{coded_sum}
use Rattle.state.specs.declared.Chip.{Chip}
use Rattle.journal_runs.specs.Run.{Step, step, calls_of, Called, Run}
use Rattle.journal_runs.specs.Promised as contracts
use Rattle.std.specs.Borrow.{Bor}
use contract.Lifetimes.{Lfts}

-- The call on a chip, with its answer. In place the chip is lent to read, by value it is the caller's: no form has a chip that it could change.
pub data Asked : Chip → ℕ → Type 0 where
  in_place : (κs : Lfts 1) (chip : Bor Chip) (r : ℕ) → (contracts.sum_in_place).Promise κs (chip, tt) r (chip, tt) → Asked chip.now r
  by_value : (chip : Chip) (r : ℕ) → (contracts.sum_by_value).Promise tt (chip, tt) r (chip, tt) → Asked chip r

pub record ProgramLostSum : Type 2 where
  -- what a call rests on is what its function's contract says, whole
  pub promised : contracts.AllPromised
  -- after a start that succeeds and any run: every byte that the journal has turned away since the last flush or start, up to 65,535
  pub answers :
      (image : List ℕ) (old fresh c : Chip) (steps : List Step) (answer : ℕ) → Called old (step (start image) 0 [] fresh) → Run fresh steps c → Asked c answer →
      answer ≡ coded_sum (min 65_535 (away_from 0 (run image (calls_of steps)).journal.entries))
  -- of any chip: where it is malformed, the answer is 7
  pub refuses : (c : Chip) (answer : ℕ) → Asked c answer → chip_formed c ≡ false → answer ≡ 7
