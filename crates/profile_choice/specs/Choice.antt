-- The choice for a safe start (manual 11.5): of two images, the user's and the rescue image, the first one whose start-up profile passes the check of
-- its own edition, and that part of it. Its refusals are 2 and 8.
-- Assumes nothing.
use Rattle.std.specs.Prelude.{ℕ, Bool, true, false, ◌&&◌, cond, List, [], eqb, length, take, drop}
use Rattle.profile.specs.Answer.{is_pass}
use Rattle.edition.specs.Edition.{fixed_bits, of_either, edition_of}
use Rattle.profile.specs.Check.{judged}
use Rattle.std.specs.declared.result.Result.{Result}
use Rattle.std.specs.declared.result.Result.TheVariants.{Ok, Err}
use Rattle.profile_choice.specs.declared.Choice.{Choice}
use Rattle.profile_choice.specs.declared.Choice.TheVariants.{User, Rescue}
use Rattle.profile_choice.specs.declared.Refusal.{Refusal}
use Rattle.profile_choice.specs.declared.Refusal.TheVariants.{ImageLength, BothFail}

-- The start-up profile of an image: its bytes 010h-02Fh.
abbrev pub start_up_profile : List ℕ → List ℕ
start_up_profile image = take 0x20 (drop 0x10 image)

-- The image's start-up profile passes the check of the edition that the image is of; that of an image of neither does not.
unfoldable pub passing : List ℕ → Bool
passing image = of_either image && is_pass (judged (fixed_bits (edition_of image)) (start_up_profile image))

-- Whose profile is chosen, or the number of the refusal.
pub data Chosen : Type 0 where
  from_user : Chosen
  from_rescue : Chosen
  refused : ℕ → Chosen

-- 2: an image is not 512 bytes, either one. 8: both profiles fail.
abbrev pub chosen : List ℕ → List ℕ → Chosen
chosen user rescue =
    cond (eqb (length user) 512 && eqb (length rescue) 512)
    (cond (passing user) from_user (cond (passing rescue) from_rescue (refused 8)))
    (refused 2)

-- A profile is chosen, or the choice is refused.
abbrev pub has_profile : Chosen → Bool
has_profile from_user = true
has_profile from_rescue = true
has_profile (refused n) = false

-- The part of what was lent that is handed back; a refusal hands back nothing, the empty part.
abbrev pub part_of : Chosen → List ℕ → List ℕ → List ℕ
part_of from_user user rescue = start_up_profile user
part_of from_rescue user rescue = start_up_profile rescue
part_of (refused n) user rescue = []

-- What each case of the program's enums stands for.
abbrev pub chosen_of : Result Choice Refusal → Chosen
chosen_of (Ok User) = from_user
chosen_of (Ok Rescue) = from_rescue
chosen_of (Err ImageLength) = refused 2
chosen_of (Err BothFail) = refused 8
