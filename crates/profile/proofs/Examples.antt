-- The check by examples, computed from the definitions.
-- Assumes nothing.
use mathlib.Core.Path.{refl}
use Rattle.profile.specs.Check.{first_refusal, judged}
use Rattle.profile.specs.Examples.{WaterLevelsJudged, EditionsJudged}

pub water_levels_judged : WaterLevelsJudged
unfolding first_refusal judged
water_levels_judged =
    record {
      level_31 = refl;
      level_32 = refl;
      level_40 = refl;
      level_63 = refl;
      fixed_bit_60 = refl;
      fixed_bit_5f = refl;
      lower_address = refl;
      before_10_at_2a = refl;
      before_11 = refl;
      before_12 = refl;
    }

pub editions_judged : EditionsJudged
unfolding first_refusal judged
editions_judged =
    record {
      mfrc531_shipped = refl;
      rc530_shipped = refl;
      rc530_shipped_as_mfrc531 = refl;
      mfrc531_shipped_as_rc530 = refl;
      rc530_passes = refl;
      txcontrol_48 = refl;
      preset13_3e = refl;
      preset13_40 = refl;
      preset13_7f = refl;
      codercontrol_18 = refl;
      codercontrol_1b = refl;
      rxcontrol1_63 = refl;
      rxcontrol1_7b = refl;
      decodercontrol_00 = refl;
      decodercontrol_18 = refl;
      length_31 = λ e. refl;
      prescaler_24 = refl;
      reload_0 = refl;
      level_40 = refl;
    }
