-- The chip that a start leaves.
-- Assumes nothing.
use Prim.Native.Nat.{ℕ}
use mathlib.Core.Path.{◌≡◌, refl, ap, ◌∙◌}
use mathlib.Core.Bool.{true}
use mathlib.Core.List.{List, []}
use lib.ListN.{length, set, replicate}
use Rattle.edition.specs.Edition.{edition_of, number_of}
use Rattle.edition.proofs.Laws.{own_number}
use Rattle.edition.specs.declared.Edition.{Edition}
use Rattle.edition.specs.declared.Edition.TheVariants.{Mfrc531, Rc530}
use Rattle.machine.specs.State.{with_edition}
use Rattle.machine.specs.Memory.{bytes_from, over_registers}
use Rattle.machine.specs.Refusals.{start}
use Rattle.machine.specs.Events.{started}
use Rattle.machine.proofs.WellFormed.Memory.{over_length}
use Rattle.state.specs.View.{view_of, held_from}
use Rattle.state.specs.Formed.{fields_formed}
use Rattle.state.specs.declared.Chip.{Chip}
use Rattle.state.proofs.MeetLaws.{Done}

-- Every element 0 but Page, ErrorFlag, the edition, the registers and the EEPROM.
abbrev pub fresh : ℕ → List ℕ → List ℕ → Chip
fresh number registers eeprom =
    record {
      clocks = replicate 2 0;
      numbers = replicate 6 0;
      state = set (set (set (replicate 24 0) 0 0x80) 7 0x40) 11 number;
      registers = registers;
      slots = replicate 64 0;
      latch = replicate 16 0;
      key = replicate 6 0;
      eeprom = eeprom;
    }

fields_fresh : (edition : Edition) (registers eeprom : List ℕ) → fields_formed (fresh (number_of edition) registers eeprom) ≡ true
unfolding fields_formed
fields_fresh Mfrc531 registers eeprom = refl
fields_fresh Rc530 registers eeprom = refl

-- With the image as its EEPROM, the registers that are loaded from it, and the number of the image's edition it is all that a start owes.
pub fresh_done : (c : Chip) (edition : Edition) (image : List ℕ) → edition ≡ edition_of image → length image ≡ 512 →
    Done c (start image) (fresh (number_of edition) (over_registers 0 (replicate 32 0) (bytes_from image 0x10 32)) image) 0 []
unfolding view_of held_from started
fresh_done c edition image is whole =
    record {
      answered = refl;
      turned = ap (λ (e : Edition). with_edition e (started image)) ((own_number edition).1 ∙ is);
      lent = refl;
      fields = fields_fresh edition (over_registers 0 (replicate 32 0) (bytes_from image 0x10 32)) image;
      sizes =
          record {
            clock_count = refl;
            number_count = refl;
            state_count = refl;
            register_count = over_length 0 (replicate 32 0) (bytes_from image 0x10 32);
            slot_count = refl;
            latch_count = refl;
            key_count = refl;
            eeprom_count = whole;
          };
    }
