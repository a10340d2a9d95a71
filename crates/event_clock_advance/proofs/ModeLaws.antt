-- A power mode by its bit of Control and its number: what so many clocks leave of the two, how many of them begin while the mode has hold, and the hold that it
-- takes at the end of a programming.
-- Assumes nothing.
use Prim.Native.Nat.{ℕ, ◌-◌, ◌<◌, ◌≤◌}
use native.Mathlib.Omega.{arith}
use mathlib.Core.Path.{◌≡◌, refl, sym, ap, subst, ◌∙◌}
use mathlib.Core.Bool.{Bool, true, false, cond, not, ◌&&◌, ◌||◌, true≢false}
use lib.Dec.{ltb, leb, eqb}
use borrow.Author.Tests.{eqb-true, eqb-false, leb-true, leb-false, ltb-true, ltb-false, lt-ltb, le-ltb, le-leb, lt-leb, ne_eqb}
use Rattle.machine.specs.State.{Mode, off, leaving}
use Rattle.machine.specs.Power.{has_hold, mode_clocked}
use Rattle.machine.specs.PowerModes.{mode_after, holds_for}
use Rattle.machine.proofs.Cases.{either, by_cond, neither}
use Rattle.state.specs.View.{mode_of}
use Rattle.state.specs.Formed.{mode_agrees}
use Rattle.event_clock_advance.specs.Clock.{standing, left_within, number_after}

-- The fields of a mode that agree: off, waiting, in hold, and being left.
pub data Fields : Bool → ℕ → Type 0 where
  is_off : Fields false 0
  waits : Fields true 0
  held : Fields true 0x8000
  left : {number : ℕ} → 0x8000 < number → Fields true number

pub fields : (bit : Bool) (number : ℕ) → mode_agrees bit number ≡ true → Fields bit number
fields bit number = go bit (eqb number 0) (eqb number 0x8000) refl refl
  where
    go : (b none whole : Bool) → eqb number 0 ≡ none → eqb number 0x8000 ≡ whole → (none || (b && leb 0x8000 number)) ≡ true → Fields b number
    go false true whole e f h = subst (Fields false) (sym (eqb-true number 0 e)) is_off
    go true true whole e f h = subst (Fields true) (sym (eqb-true number 0 e)) waits
    go true false true e f h = subst (Fields true) (sym (eqb-true number 0x8000 f)) held
    go true false false e f h =
        let above : 0x8000 < number = omega (arith, leb-true 0x8000 number h, eqb-false number 0x8000 f) in left above
    go false false whole e f h = absurd (true≢false (sym h))

-- A mode that is being left, and what is counted of it.
module _ (number : ℕ) (above : 0x8000 < number) where
  is_leaving : mode_of true number ≡ leaving (number - 0x8000)
  is_leaving = rw (le-ltb number 0x8000 (omega arith), ne_eqb number 0x8000 (λ e. omega arith)) refl

  left_by : (by : ℕ) → left_within number by ≡ leb (number - 0x8000) by
  left_by by = ap (λ (t : Bool). t && leb (number - 0x8000) by) (lt-ltb 0x8000 number above)

  number_by : (by : ℕ) → number_after number by ≡ cond (leb (number - 0x8000) by) 0 (number - by)
  number_by by = ap (λ (t : Bool). cond t number (cond (leb (number - 0x8000) by) 0 (number - by))) (lt-leb number 0x8000 above)

  standing_by : (by : ℕ) → standing number by ≡ cond (ltb by (number - 0x8000)) by (number - 0x8000)
  standing_by by = rw (le-ltb number 0x8000 (omega arith), ne_eqb number 0x8000 (λ e. omega arith)) refl

-- The bit and the number after so many clocks are those of the mode after them, and agree.
pub mode_after_lem : {bit : Bool} {number : ℕ} (by : ℕ) → Fields bit number → mode_of (bit && not (left_within number by)) (number_after number by) ≡ mode_after by (mode_of bit number)
mode_after_lem by is_off = refl
mode_after_lem by waits = refl
mode_after_lem by held = refl
mode_after_lem {number = number} by (left above) =
    (λ i. mode_of (not (left_by number above by i)) (number_by number above by i)) ∙ go (leb (number - 0x8000) by) refl ∙ sym (ap (mode_after by) (is_leaving number above))
  where
    go : (t : Bool) → leb (number - 0x8000) by ≡ t → mode_of (not t) (cond t 0 (number - by)) ≡ cond t off (leaving (number - 0x8000 - by))
    go true e = refl
    go false e =
        let more = leb-false (number - 0x8000) by e in
        let same : number - by - 0x8000 ≡ number - 0x8000 - by = omega arith in
        is_leaving (number - by) (omega (arith, more)) ∙ ap leaving same

pub agrees_after : {bit : Bool} {number : ℕ} (by : ℕ) → Fields bit number → mode_agrees (bit && not (left_within number by)) (number_after number by) ≡ true
agrees_after by is_off = refl
agrees_after by waits = refl
agrees_after by held = refl
agrees_after {number = number} by (left above) =
    (λ i. mode_agrees (not (left_by number above by i)) (number_by number above by i)) ∙ go (leb (number - 0x8000) by) refl
  where
    go : (t : Bool) → leb (number - 0x8000) by ≡ t → mode_agrees (not t) (cond t 0 (number - by)) ≡ true
    go true e = refl
    go false e = let more = leb-false (number - 0x8000) by e in rw (ne_eqb (number - by) 0 (λ none. omega arith), le-leb 0x8000 (number - by) (omega arith)) refl

-- Of so many clocks given, no more are counted in which it has hold.
pub standing_within : (number by : ℕ) → standing number by ≤ by
standing_within number by =
    either (λ k. k ≤ by) (ltb number 0x8000) _ _ (omega arith)
    (by_cond (λ k. k ≤ by) (eqb number 0x8000 || ltb by (number - 0x8000)) by (number - 0x8000) (λ e. omega arith)
    (λ e. ltb-false by (number - 0x8000) (neither (eqb number 0x8000) _ e).1))

-- It has hold as each of those counted begins.
pub standing_holds : {bit : Bool} {number : ℕ} (by : ℕ) → Fields bit number → holds_for (standing number by) (mode_of bit number) ≡ true
standing_holds by is_off = refl
standing_holds by waits = refl
standing_holds by held = refl
standing_holds {number = number} by (left above) =
    (λ i. holds_for (standing_by number above by i) (is_leaving number above i)) ∙ go (ltb by (number - 0x8000)) refl
  where
    go : (t : Bool) → ltb by (number - 0x8000) ≡ t → leb (cond t by (number - 0x8000)) (number - 0x8000) ≡ true
    go true e = le-leb by (number - 0x8000) (omega (arith, ltb-true by (number - 0x8000) e))
    go false e = le-leb (number - 0x8000) (number - 0x8000) (omega arith)

-- Where fewer are counted than given, it has no hold behind them.
pub standing_over : {bit : Bool} {number : ℕ} (by n : ℕ) → Fields bit number → standing number by ≤ n → n < by → has_hold (mode_after n (mode_of bit number)) ≡ false
standing_over by n is_off enough less = refl
standing_over by n waits enough less = refl
standing_over by n held enough less = absurd (omega arith)
standing_over {number = number} by n (left above) enough less =
    ap (λ (x : Mode). has_hold (mode_after n x)) (is_leaving number above) ∙ go (ltb by (number - 0x8000)) refl (subst (λ (k : ℕ). k ≤ n) (standing_by number above by) enough)
  where
    go : (t : Bool) → ltb by (number - 0x8000) ≡ t → cond t by (number - 0x8000) ≤ n → has_hold (mode_after n (leaving (number - 0x8000))) ≡ false
    go true e all = absurd (omega arith)
    go false e all = ap (λ (t : Bool). has_hold (cond t off (leaving (number - 0x8000 - n)))) (le-leb (number - 0x8000) n all)

-- At the end of a programming a mode without hold takes it where its bit is set.
pub mode_held : (bit : Bool) → mode_of bit (cond bit 0x8000 0) ≡ mode_clocked true (mode_of bit 0)
mode_held true = refl
mode_held false = refl

pub agrees_held : (bit : Bool) → mode_agrees bit (cond bit 0x8000 0) ≡ true
agrees_held true = refl
agrees_held false = refl
