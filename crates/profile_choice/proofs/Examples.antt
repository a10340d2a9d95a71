-- The choice by examples, computed from the definitions.
-- Assumes nothing.
use mathlib.Core.Path.{refl}
use Rattle.profile.specs.Check.{first_refusal, judged}
use Rattle.profile_choice.specs.Choice.{passing}
use Rattle.profile_choice.specs.Examples.{WaterLevelsChosen, EditionsChosen}

pub water_levels_chosen : WaterLevelsChosen
unfolding first_refusal judged passing
water_levels_chosen = record { level_31 = refl; level_32 = refl; both_fail = refl }

pub editions_chosen : EditionsChosen
unfolding first_refusal judged passing
editions_chosen =
    record {
      user_rc530 = refl;
      rescue_rc530 = refl;
      user_of_other = refl;
      user_rc530_shipped = refl;
      both_rc530_shipped = refl;
      rc530_shipped_as_mfrc531 = refl;
      user_mixed = refl;
      both_mixed = refl;
      short_and_mixed = refl;
    }
