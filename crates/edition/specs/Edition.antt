-- The editions of the chip (manual 6.4): the MFRC531 and the MF RC530. Two things tell them apart: the product type, which is the first four bytes of
-- the memory, and the bits of registers 10h-2Fh that each data sheet fixes.
-- Assumes nothing.
use Rattle.std.specs.Prelude.{ℕ, Bool, cond, ◌||◌, List, [], ◌∷◌, eqb, leb, get_or}
use Rattle.bits.proofs.Below.{all}
use Rattle.edition.specs.FixedBits.{mfrc531_bits, rc530_bits}
use Rattle.edition.specs.declared.FixedBits.{FixedBits}
use Rattle.edition.specs.declared.Edition.{Edition}
use Rattle.edition.specs.declared.Edition.TheVariants.{Mfrc531, Rc530}

-- Bytes 000h-003h: 005 Table 13, 008 Table 6-3. Byte 004h is the version, which is any.
abbrev pub product_type : Edition → List ℕ
product_type Mfrc531 = 0x30 ∷ 0xCC ∷ 0xFF ∷ 0x0F ∷ []
product_type Rc530 = 0x30 ∷ 0x88 ∷ 0xFE ∷ 0x03 ∷ []

-- The table of fixed bits, from 10h on.
abbrev pub fixed_bits : Edition → List FixedBits
fixed_bits Mfrc531 = mfrc531_bits
fixed_bits Rc530 = rc530_bits

-- An image, or a chip's memory, is of an edition where it begins with that product type.
abbrev pub is_of : Edition → List ℕ → Bool
is_of e image = all (λ k. eqb (get_or image k 0) (get_or (product_type e) k 0)) 4

-- It is of one edition or the other. Bytes of both, 30h 88h FFh 0Fh, are neither's.
abbrev pub of_either : List ℕ → Bool
of_either image = is_of Mfrc531 image || is_of Rc530 image

-- The edition of an image that is of one. Of an image of neither this decides nothing: a start refuses it, and for the choice it fails.
abbrev pub edition_of : List ℕ → Edition
edition_of image = cond (is_of Rc530 image) Rc530 Mfrc531

-- The number that stands for an edition, in a chip and for C: 0 and 1. Any other stands for none.
abbrev pub is_number : ℕ → Bool
is_number n = leb n 1

abbrev pub numbered : ℕ → Edition
numbered n = cond (eqb n 1) Rc530 Mfrc531

-- The number that stands for an edition.
abbrev pub number_of : Edition → ℕ
number_of Mfrc531 = 0
number_of Rc530 = 1
