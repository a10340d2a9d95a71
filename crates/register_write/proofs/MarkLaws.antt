-- The marked bits of InterruptEn and InterruptRq.
-- Assumes nothing.
use Prim.Native.Nat.{ℕ, ◌-◌, ◌/◌, ◌%◌, ◌<◌}
use native.Mathlib.Omega.{arith}
use mathlib.Core.Path.{◌≡◌, refl, sym, ap, ◌∙◌}
use mathlib.Core.Bool.{Bool, true, false, cond, not, ◌&&◌, ◌||◌}
use lib.Bits.{bit_or, bit_and, or_shr, and_shr}
use lib.Dec.{eqb, ltb, lit<}
use borrow.Author.Tests.{lt-ltb, ltb-true}
use Rattle.bits.specs.Bits.{bit, bit_set}
use Rattle.bits.proofs.Below.{all, each, agree}
use Rattle.machine.specs.State.{Interrupts}
use Rattle.machine.specs.Registers.{marked, interrupts_written}
use Rattle.state.specs.View.{interrupts_of}
use Rattle.state.proofs.FlagLaws.{or_bit, and_bit, turned_bit}

-- The flags of a byte are equal where its bits are.
abbrev interrupts_by : (ℕ → Bool) → Interrupts
interrupts_by f = record { timer = f 5; tx = f 4; rx = f 3; idle = f 2; hi_alert = f 1; lo_alert = f 0 }

same_interrupts : (f g : ℕ → Bool) → ((k : ℕ) → k < 6 → f k ≡ g k) → interrupts_by f ≡ interrupts_by g
same_interrupts f g e =
    λ i. record { timer = e 5 (lit< tt) i; tx = e 4 (lit< tt) i; rx = e 3 (lit< tt) i; idle = e 2 (lit< tt) i; hi_alert = e 1 (lit< tt) i; lo_alert = e 0 (lit< tt) i }

set_marked : (a old to : Bool) → to ≡ true → (a || old) ≡ cond a to old
set_marked true old to e = sym e
set_marked false old to e = refl

clear_marked : (a old to : Bool) → to ≡ false → (not a && old) ≡ cond a to old
clear_marked true old to e = sym e
clear_marked false old to e = refl

-- Bits 7 and 6 stay under marks of bits 5-0.
module _ (x marks : ℕ) (byte : x < 256) (low : marks < 64) where
  pub high_set : bit_or x marks / 64 ≡ x / 64
  high_set =
      let none : marks / 64 ≡ 0 = omega arith in
      or_shr x marks 6 ∙ ap (bit_or (x / 64)) none ∙ agree (λ n. bit_or n 0) (λ n. n) 4 tt (x / 64) (omega arith)

  pub high_cleared : bit_and x (255 - marks) / 64 ≡ x / 64
  high_cleared =
      let both : (255 - marks) / 64 ≡ 3 = omega arith in
      and_shr x (255 - marks) 6 ∙ ap (bit_and (x / 64)) both ∙ agree (λ n. bit_and n 3) (λ n. n) 4 tt (x / 64) (omega arith)

-- A byte with the same bits 7 and 6 has 0 there where the other has.
pub high_clear : (x y : ℕ) → y / 64 ≡ x / 64 → ltb x 64 ≡ true → ltb y 64 ≡ true
high_clear x y same clear = lt-ltb y 64 (omega (arith, same, ltb-true x 64 clear))

-- A byte written with bit 7, and without it.
module _ (x v : ℕ) (byte : v < 256) where
  mark : (k : ℕ) → k < 6 → bit_set (v % 64) k ≡ bit_set v k
  mark k l = ap (λ (n : ℕ). eqb n 1) (agree (λ j. bit (v % 64) j) (λ j. bit v j) 6 (each (λ w. all (λ j. eqb (bit (w % 64) j) (bit w j)) 6) 256 tt v byte) k l)

  mark_set : bit_set v 7 ≡ true → (k : ℕ) → k < 6 → bit_set (bit_or x (v % 64)) k ≡ marked v k (bit_set x k)
  mark_set e k l = or_bit x (v % 64) k ∙ ap (λ (b : Bool). b || bit_set x k) (mark k l) ∙ set_marked (bit_set v k) (bit_set x k) (bit_set v 7) e

  mark_cleared : bit_set v 7 ≡ false → (k : ℕ) → k < 6 → bit_set (bit_and x (255 - v % 64)) k ≡ marked v k (bit_set x k)
  mark_cleared e k l =
      and_bit x (255 - v % 64) k ∙ ap (λ (b : Bool). b && bit_set x k) (turned_bit (v % 64) (omega arith) k (omega arith) ∙ ap not (mark k l))
      ∙ clear_marked (bit_set v k) (bit_set x k) (bit_set v 7) e

  pub marks_set : bit_set v 7 ≡ true → interrupts_of (bit_or x (v % 64)) ≡ interrupts_written v (interrupts_of x)
  marks_set e = same_interrupts (bit_set (bit_or x (v % 64))) (λ k. marked v k (bit_set x k)) (mark_set e)

  pub marks_cleared : bit_set v 7 ≡ false → interrupts_of (bit_and x (255 - v % 64)) ≡ interrupts_written v (interrupts_of x)
  marks_cleared e = same_interrupts (bit_set (bit_and x (255 - v % 64))) (λ k. marked v k (bit_set x k)) (mark_cleared e)
