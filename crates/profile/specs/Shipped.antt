-- The start-up profiles that the chips are shipped with, EEPROM bytes 010h-02Fh: data sheet 005, Table 15, and 008, Table 6-5; and memory images
-- with a profile.
-- Assumes nothing.
use Rattle.std.specs.Prelude.{ℕ, ◌-◌, List, [], ◌∷◌, ◌++◌, set, replicate}
use Rattle.edition.specs.Edition.{product_type}
use Rattle.edition.specs.declared.Edition.{Edition}
use Rattle.edition.specs.declared.Edition.TheVariants.{Mfrc531}

-- The MFRC531's.
abbrev pub shipped : List ℕ
shipped =
    0x00 ∷ 0x58 ∷ 0x3F ∷ 0x3F ∷ 0x19 ∷ 0x13 ∷ 0x3F ∷ 0x3B
    ∷ 0x00 ∷ 0x73 ∷ 0x08 ∷ 0xAD ∷ 0xFF ∷ 0x1E ∷ 0x41 ∷ 0x00
    ∷ 0x00 ∷ 0x06 ∷ 0x03 ∷ 0x63 ∷ 0x63 ∷ 0x00 ∷ 0x00 ∷ 0x00
    ∷ 0x00 ∷ 0x08 ∷ 0x07 ∷ 0x06 ∷ 0x0A ∷ 0x02 ∷ 0x00 ∷ 0x00
    ∷ []

-- A profile with another byte for one register.
abbrev pub with_byte : ℕ → ℕ → List ℕ → List ℕ
with_byte register byte profile = set profile (register - 0x10) byte

-- The shipped profile with another byte for one register.
abbrev pub shipped_with : ℕ → ℕ → List ℕ
shipped_with register byte = with_byte register byte shipped

-- The MF RC530's: another byte at 16h.
abbrev pub shipped_rc530 : List ℕ
shipped_rc530 = shipped_with 0x16 0x00

-- The memory image of an edition with a profile at 010h-02Fh, and zeros elsewhere.
abbrev pub image_of : Edition → List ℕ → List ℕ
image_of e profile = product_type e ++ (replicate 12 0 ++ (profile ++ replicate 464 0))

-- The MFRC531 as shipped.
abbrev pub shipped_image : List ℕ
shipped_image = image_of Mfrc531 shipped
