-- The water levels that the profile check refuses are those at which the chip never rests; the chip's own examples by computation.
-- Assumes nothing.
use Prim.Native.Nat.{ℕ, ◌-◌, ◌≤◌}
use native.Mathlib.Omega.{arith}
use mathlib.Core.Bool.{Bool, true, false, ◌||◌}
use mathlib.Core.Path.{◌≡◌, refl}
use lib.Dec.{leb}
use lib.ListN.{length}
use borrow.Author.Tests.{ltb-true, ltb-false, leb-false, le-leb, lt-leb}
use Rattle.machine.specs.Fifo.{water_level, offered, lo_alert, hi_alert, alerted}
use Rattle.machine.specs.Memory.{over_registers}
use Rattle.machine.specs.Commands.{command_written, stepped, settled}
use Rattle.machine.specs.Registers.{register_written}
use Rattle.machine.specs.WellFormed.{well_formed}
use Rattle.machine.specs.Refusals.{refusal}
use Rattle.machine.specs.Events.{started, written, perform, after_calls}
use Rattle.machine.specs.WaterLevels.{WaterLevels}

-- Held bytes or free places, one of the two is at most 32.
half : (held level : ℕ) → 32 ≤ level → (leb held level || leb (64 - held) level) ≡ true
half held level h = go (leb held level) refl
  where
    go : (low : Bool) → leb held level ≡ low → (low || leb (64 - held) level) ≡ true
    go true is = refl
    go false is = le-leb (64 - held) level (omega (arith, leb-false held level is))

pub water_levels : WaterLevels
unfolding offered lo_alert hi_alert alerted over_registers command_written stepped settled register_written well_formed refusal started written perform after_calls
water_levels =
    record {
      refused_never_rests = λ m h. half (length m.held) (water_level m) (ltb-true _ _ h);
      others_rest =
          λ m h half_full.
          let level : water_level m ≤ 31 = ltb-false _ _ h in
          simp (
            lt-leb (length m.held) (water_level m) (omega arith),
            lt-leb (64 - length m.held) (water_level m) (omega arith),
          );
      start_judges_nothing = refl;
      write_judges_nothing = refl;
      load_config_judges_nothing = refl;
    }
