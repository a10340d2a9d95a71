-- A chip whose numbers are all 0, and an image of the MFRC531 with zeros behind its product type.
-- Assumes nothing.
use Rattle.std.specs.Prelude.{ℕ, List, ◌++◌, replicate}
use Rattle.edition.specs.Edition.{product_type}
use Rattle.edition.specs.declared.Edition.TheVariants.{Mfrc531}
use Rattle.state.specs.declared.Chip.{Chip}

abbrev pub blank_chip : Chip
blank_chip =
    record {
      clocks = replicate 2 0;
      numbers = replicate 6 0;
      state = replicate 24 0;
      registers = replicate 32 0;
      slots = replicate 64 0;
      latch = replicate 16 0;
      key = replicate 6 0;
      eeprom = replicate 512 0;
    }

abbrev pub blank_image : List ℕ
blank_image = product_type Mfrc531 ++ replicate 508 0
