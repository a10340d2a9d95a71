-- The edition over the program (manual 6.4), of every chip, well formed or not: what a start that succeeds gives, and what any run without one leaves, each call as
-- its function's contract promises it, in place or by value.
-- Assumes nothing.
use Rattle.std.specs.Prelude.{ℕ, Bool, true, false, ◌&&◌, List, [], ◌∷◌, ◌≡◌, eqb, take}
use Rattle.edition.specs.Edition.{is_of, edition_of}
use Rattle.machine.specs.Refusals.{start}
use Rattle.machine.specs.Editions.{is_start}
use Rattle.state.specs.View.{view}
use Rattle.state.specs.declared.Chip.{Chip}
use Rattle.journal_runs.specs.Run.{Step, step, Called, Run}
use Rattle.journal_runs.specs.Promised as contracts

-- A start that answered 0; and none of a run's steps is one.
abbrev pub started_anew : Step → Bool
started_anew s = is_start s.call && eqb s.answer 0

unfoldable pub NoneStarted : List Step → Type 0
NoneStarted [] = Unit {0}
NoneStarted (s ∷ steps) = (started_anew s ≡ false) × NoneStarted steps

pub record ProgramEditions : Type 2 where
  -- what a call rests on is what its function's contract says, whole
  pub promised : contracts.AllPromised
  -- the chip that a start leaves is of its image's edition, which has that product type
  pub started_as :
      (image : List ℕ) (old fresh : Chip) → Called old (step (start image) 0 [] fresh) →
      ((view fresh).edition ≡ edition_of image) × (fresh.eeprom ≡ image) × (is_of (edition_of image) image ≡ true)
  -- a run without such a start leaves the edition and block 0
  pub kept :
      (c last : Chip) (steps : List Step) → Run c steps last → NoneStarted steps →
      ((view last).edition ≡ (view c).edition) × (take 0x10 last.eeprom ≡ take 0x10 c.eeprom)
