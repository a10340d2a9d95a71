-- Laws of an image's edition.
-- Assumes nothing.
use Prim.Native.Nat.{ℕ, zero, suc, ◌<◌, ◌≤◌}
use native.Mathlib.Omega.{arith}
use mathlib.Core.Path.{◌≡◌, refl, sym, ap, ◌∙◌}
use mathlib.Core.Bool.{Bool, true, false, cond, ◌||◌, false≢true}
use mathlib.Core.List.{List}
use lib.Dec.{ltb}
use lib.ListN.{length, take, get_or-eq_default}
use lib.Seq.{get_or-take}
use borrow.Author.Tests.{ltb-true, ltb-false, leb-true}
use Rattle.edition.specs.Edition.{is_of, of_either, edition_of, is_number, numbered, number_of}
use Rattle.edition.specs.declared.Edition.{Edition}
use Rattle.edition.specs.declared.Edition.TheVariants.{Mfrc531, Rc530}

-- An image that is of either edition is of its own.
pub own_type : (image : List ℕ) → of_either image ≡ true → is_of (edition_of image) image ≡ true
own_type image either = go (is_of Mfrc531 image) refl (is_of Rc530 image) refl
  where
    go : (a : Bool) → is_of Mfrc531 image ≡ a → (b : Bool) → is_of Rc530 image ≡ b → is_of (edition_of image) image ≡ true
    go a ea true eb = ap (λ (t : Bool). is_of (cond t Rc530 Mfrc531) image) eb ∙ eb
    go true ea false eb = ap (λ (t : Bool). is_of (cond t Rc530 Mfrc531) image) eb ∙ ea
    go false ea false eb = absurd (false≢true (sym (λ i. ea i || eb i) ∙ either))

-- Fewer than four bytes are of neither, so that what is of one has four.
pub too_short : (e : Edition) (image : List ℕ) → length image < 4 → is_of e image ≡ false
too_short Mfrc531 image short = rw (get_or-eq_default image 0 {n = 3} (omega (arith, short)))
too_short Rc530 image short = rw (get_or-eq_default image 0 {n = 3} (omega (arith, short)))

pub has_type : (e : Edition) (image : List ℕ) → is_of e image ≡ true → 4 ≤ length image
has_type e image own = go (ltb (length image) 4) refl
  where
    go : (t : Bool) → ltb (length image) 4 ≡ t → 4 ≤ length image
    go true short = absurd (false≢true (sym (too_short e image (ltb-true (length image) 4 short)) ∙ own))
    go false enough = ltb-false (length image) 4 enough

-- The first sixteen bytes decide it.
pub by_block_0 : (e : Edition) (image : List ℕ) → is_of e (take 0x10 image) ≡ is_of e image
by_block_0 e image =
    rw (get_or-take 0x10 image 0 0 (omega arith), get_or-take 0x10 image 1 0 (omega arith), get_or-take 0x10 image 2 0 (omega arith), get_or-take 0x10 image 3 0 (omega arith))

-- The number that stands for an edition is one, and stands for that edition.
pub own_number : (e : Edition) → (is_number (number_of e) ≡ true) × (numbered (number_of e) ≡ e)
own_number Mfrc531 = (refl, refl)
own_number Rc530 = (refl, refl)

-- A number that stands for an edition is the only one that stands for it.
pub only_number : (n : ℕ) → is_number n ≡ true → number_of (numbered n) ≡ n
only_number zero h = refl
only_number (suc zero) h = refl
only_number (suc (suc n)) h = absurd (omega (arith, leb-true (suc (suc n)) 1 h))
