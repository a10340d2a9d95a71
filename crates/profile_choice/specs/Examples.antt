-- The choice of profile by examples: it goes by the check, water levels included (manual 11.4), and by each image's own edition (manual 6.4).
-- Assumes nothing.
use Rattle.std.specs.Prelude.{ℕ, List, [], ◌≡◌, set}
use Rattle.edition.specs.declared.Edition.TheVariants.{Mfrc531, Rc530}
use Rattle.profile.specs.Shipped.{shipped, shipped_rc530, shipped_image, image_of}
use Rattle.profile.specs.Examples.{rc530_profile}
use Rattle.profile_choice.specs.Choice.{from_user, from_rescue, refused, chosen}

-- The shipped image with another water level in its start-up profile.
abbrev pub with_level : ℕ → List ℕ
with_level level = set shipped_image 0x029 level

pub record WaterLevelsChosen : Type 0 where
  pub level_31 : chosen (with_level 31) shipped_image ≡ from_user
  pub level_32 : chosen (with_level 32) shipped_image ≡ from_rescue
  pub both_fail : chosen (with_level 32) (with_level 63) ≡ refused 8

-- A good image of each edition, and one whose first four bytes are of both, 30h 88h FFh 0Fh.
abbrev pub good_rc530 : List ℕ
good_rc530 = image_of Rc530 rc530_profile

abbrev pub mixed : List ℕ
mixed = set shipped_image 0x001 0x88

pub record EditionsChosen : Type 0 where
  -- each image is judged by its own edition: either may be of either
  pub user_rc530 : chosen good_rc530 shipped_image ≡ from_user
  pub rescue_rc530 : chosen (with_level 32) good_rc530 ≡ from_rescue
  -- the MFRC531's shipped profile does not pass in an MF RC530's image, and neither does the MF RC530's own
  pub user_of_other : chosen (image_of Rc530 shipped) shipped_image ≡ from_rescue
  pub user_rc530_shipped : chosen (image_of Rc530 shipped_rc530) shipped_image ≡ from_rescue
  pub both_rc530_shipped : chosen (image_of Rc530 shipped_rc530) (image_of Rc530 shipped_rc530) ≡ refused 8
  -- and the same profile passes in an MFRC531's image
  pub rc530_shipped_as_mfrc531 : chosen (image_of Mfrc531 shipped_rc530) good_rc530 ≡ from_user
  -- an image of neither fails, whatever its profile is
  pub user_mixed : chosen mixed good_rc530 ≡ from_rescue
  pub both_mixed : chosen mixed mixed ≡ refused 8
  -- and its length is judged before that
  pub short_and_mixed : chosen mixed [] ≡ refused 2
