use mathlib.Core.Path.{◌≡◌}
use lib.ListN.{length}
use lib.Seq.{paste}
use Rattle.event_image_start.proofs.store_image.Given as goal

-- The bytes before i are the image's.
abbrev pub invariant-loop-i : goal.invariant-loop-i
invariant-loop-i l = length l.initial.eeprom ≡ 512 → l.eeprom ≡ paste l.initial.eeprom 0 l.image l.i
