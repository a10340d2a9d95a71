-- Laws of the choice of profile.
-- Assumes nothing.
use mathlib.Core.Path.{◌≡◌, refl, ap, ◌∙◌}
use mathlib.Core.Bool.{Bool, true, false, cond}
use mathlib.Core.List.{List}
use Prim.Native.Nat.{ℕ, ◌-◌, min}
use native.Mathlib.Omega.{arith}
use lib.Dec.{eqb}
use lib.ListN.{length, drop, length-take, length-drop}
use borrow.Author.Tests.{eqb-true}
use Rattle.profile_choice.specs.Choice.{Chosen, from_user, from_rescue, refused, chosen, start_up_profile, has_profile, part_of}

-- Where the choice is not refusal 2, both images are 512 bytes.
pub images_whole : (user rescue : List ℕ) (x : Chosen) → x ≡ chosen user rescue → (x ≡ refused 2 → ⊥) → (length user ≡ 512) × (length rescue ≡ 512)
images_whole user rescue x is other = go (eqb (length user) 512) refl (eqb (length rescue) 512) refl
  where
    go : (u : Bool) → eqb (length user) 512 ≡ u → (r : Bool) → eqb (length rescue) 512 ≡ r → (length user ≡ 512) × (length rescue ≡ 512)
    go true eu true er = (eqb-true _ _ eu, eqb-true _ _ er)
    go true eu false er = absurd (other (is ∙ simp (eu, er)))
    go false eu r er = absurd (other (is ∙ simp eu))

pub user_is_chosen : from_user ≡ refused 2 → ⊥
user_is_chosen e = let z : ◌≡◌ {A = ℕ} 0 1 = cc in omega arith

pub rescue_is_chosen : from_rescue ≡ refused 2 → ⊥
rescue_is_chosen e = let z : ◌≡◌ {A = ℕ} 0 1 = cc in omega arith

start_up_length : (image : List ℕ) → length image ≡ 512 → length (start_up_profile image) ≡ 32
start_up_length image whole = length-take 32 (drop 16 image) ∙ ap (min 32) (length-drop 16 image ∙ ap (λ (n : ℕ). n - 16) whole)

-- A profile or a refusal: the part that is handed back has 32 bytes or none.
pub part_length : (user rescue : List ℕ) → length (part_of (chosen user rescue) user rescue) ≡ cond (has_profile (chosen user rescue)) 32 0
part_length user rescue = go (chosen user rescue) refl
  where
    go : (x : Chosen) → x ≡ chosen user rescue → length (part_of x user rescue) ≡ cond (has_profile x) 32 0
    go from_user is = start_up_length user (images_whole user rescue from_user is user_is_chosen).0
    go from_rescue is = start_up_length rescue (images_whole user rescue from_rescue is rescue_is_chosen).1
    go (refused n) is = refl
