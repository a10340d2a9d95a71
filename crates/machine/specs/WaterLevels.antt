-- Manual 11.4: the profile check refuses just the water levels at which the chip never rests, and the chip itself judges no level.
-- Assumes nothing.
use Rattle.std.specs.Prelude.{Bool, true, false, ◌||◌, List, [], ◌∷◌, ◌≡◌, length, set}
use Rattle.profile.specs.Check.{water_level_refused}
use Rattle.profile.specs.Shipped.{shipped_image}
use Rattle.machine.specs.State.{Machine}
use Rattle.machine.specs.Refusals.{host_write}
use Rattle.machine.specs.Fifo.{register_at, lo_alert, hi_alert}
use Rattle.machine.specs.Events.{started, after_calls}
use Rattle.machine.specs.Numbers.{after_start, command}

-- LoAlert or HiAlert is on, so that firmware which enables both finds one at once.
abbrev pub alert_on : Machine → Bool
alert_on m = lo_alert m || hi_alert m

-- The check refuses the byte that is in FIFOLevel.
abbrev pub level_refused : Machine → Bool
level_refused m = water_level_refused 0x29 (register_at m 0x29)

pub record WaterLevels : Type 0 where
  -- at a level that the check refuses an alert is on, whatever is held
  pub refused_never_rests : (m : Machine) → level_refused m ≡ true → alert_on m ≡ true
  -- at every other level none is on with half of the FIFO full
  pub others_rest : (m : Machine) → level_refused m ≡ false → length m.held ≡ 32 → alert_on m ≡ false
  -- a start, a host write and LoadConfig bring in level 63 all the same
  pub start_judges_nothing : register_at (started (set shipped_image 0x029 63)) 0x29 ≡ 63
  pub write_judges_nothing : register_at (after_start (host_write 0x00 0x00 ∷ host_write 0x29 63 ∷ [])) 0x29 ≡ 63
  pub load_config_judges_nothing : register_at (after_calls (started (set shipped_image 0x049 63)) (command 0x07 (0x30 ∷ 0x00 ∷ []))) 0x29 ≡ 63
