-- What the C interface answers beside the events: the profile check for an edition by its number, and a choice of profile as a number, in the fields of an event's
-- number: bits 7-0 the refusal, 0 for none; bits 15-8 the value.
-- Assumes nothing.
use Rattle.std.specs.Prelude.{ℕ, cond, List, eqb, length}
use Rattle.edition.specs.Edition.{fixed_bits, is_number, numbered}
use Rattle.profile.specs.Answer.{Answer, refuse}
use Rattle.profile.specs.Check.{judged}
use Rattle.profile_choice.specs.Choice.{Chosen, from_user, from_rescue, refused}

-- The profile check for the edition that a number stands for. Where it stands for none, 9 is judged all the same, and 7 follows.
abbrev pub judged_for : ℕ → List ℕ → Answer
judged_for number profile =
    cond (is_number number) (judged (fixed_bits (numbered number)) profile)
    (cond (eqb (length profile) 32) (refuse 7) (refuse 9))

-- The choice for a safe start: value 1 for the user's profile and 2 for the rescue's.
abbrev pub choice_number : Chosen → ℕ
choice_number from_user = 0x100
choice_number from_rescue = 0x200
choice_number (refused n) = n
