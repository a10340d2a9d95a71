-- A power mode in the arrays: its bit of Control reads as it is stored; where bit and number agree, it has hold exactly where the number is not 0; and both modes
-- are stored.
-- Assumes nothing.
use Rattle.std.proofs.Common.{◌≡◌, ℕ, ◌+◌, ◌-◌, ◌*◌, ◌^◌, ◌≤◌, Bool, true, false, cond, not, ◌&&◌, ◌||◌, eqb, ltb, leb, set, sym, refl, ap, ◌∙◌, true≢false, arith, length-set, le-ltb, eq-eqb, ne_eqb, eqb-true, leb-true}
use borrow.Author.Tests.{eqb-false}
use Rattle.bits.specs.Bits.{bit_set}
use Rattle.machine.specs.State.{Mode, Modes, waiting, in_hold, leaving, with_modes}
use Rattle.machine.specs.Power.{bit_reads, has_hold, stands_still}
use Rattle.machine.proofs.Cases.{either}
use Rattle.machine.proofs.WellFormed.Parts.{both, each}
use Rattle.state.specs.View.{at, core, mode_of, view, view_of, with_numbers, with_state}
use Rattle.state.specs.Formed.{mode_agrees, modes_agree, byte_formed, fields_formed}
use Rattle.state.specs.Turns.{Sizes, Turned}
use Rattle.state.specs.declared.Chip.{Chip}
use Rattle.state.proofs.StoreLaws.{at_set, at_set_two, stored, put_formed, stage_agrees, modes_agree_lem, bytes_agree}
use Rattle.state.proofs.TurnLaws.{sized_numbers, sized_state}

-- The bit reads as it is stored, whatever the number is.
pub mode_reads : (bit : Bool) (number : ℕ) → bit_reads (mode_of bit number) ≡ bit
mode_reads false number = refl
mode_reads true number =
    either (λ (x : Mode). bit_reads x ≡ true) (ltb number 0x8000) waiting (cond (eqb number 0x8000) in_hold (leaving (number - 0x8000))) refl
    (either (λ (x : Mode). bit_reads x ≡ true) (eqb number 0x8000) in_hold (leaving (number - 0x8000)) refl refl)

-- A number from 8000h on is that of a mode with hold.
pub holds : (number : ℕ) → 0x8000 ≤ number → has_hold (mode_of true number) ≡ true
holds number high =
    ap (λ (t : Bool). has_hold (cond t waiting (cond (eqb number 0x8000) in_hold (leaving (number - 0x8000))))) (le-ltb number 0x8000 high)
    ∙ either (λ (x : Mode). has_hold x ≡ true) (eqb number 0x8000) in_hold (leaving (number - 0x8000)) refl refl

pub mode_holds : (bit : Bool) (number : ℕ) → mode_agrees bit number ≡ true → has_hold (mode_of bit number) ≡ not (eqb number 0)
mode_holds bit number agrees = go bit (eqb number 0) refl agrees
  where
    go : (b none : Bool) → eqb number 0 ≡ none → (none || (b && leb 0x8000 number)) ≡ true → has_hold (mode_of b number) ≡ not none
    go false true e h = refl
    go true true e h = ap (λ (n : ℕ). has_hold (mode_of true n)) (eqb-true number 0 e)
    go true false e h = holds number (leb-true 0x8000 number h)
    go false false e h = absurd (true≢false (sym h))

-- So a chip stands still where one of the two numbers is not 0.
pub stands_by_numbers : (c : Chip) → fields_formed c ≡ true → not (eqb (core c).stand_by 0 && eqb (core c).power_down 0) ≡ stands_still (view c)
unfolding view_of
stands_by_numbers c formed =
    let k = core c in
    let stand = bit_set k.control 5 in
    let down = bit_set k.control 4 in
    let (s, p) = each (mode_agrees stand k.stand_by) (mode_agrees down k.power_down) (modes_agree_lem c formed) in
    sym ((λ i. mode_holds stand k.stand_by s i || mode_holds down k.power_down p i) ∙ either_not (eqb k.stand_by 0) (eqb k.power_down 0))
  where
    either_not : (a b : Bool) → (not a || not b) ≡ not (a && b)
    either_not true b = refl
    either_not false b = refl

-- As one word they are 0 where both are.
pub word_none : (word low high : ℕ) → word ≡ high * 2 ^ 16 + low → eqb word 0 ≡ (eqb low 0 && eqb high 0)
word_none word low high is = go (eqb low 0) (eqb high 0) refl refl
  where
    go : (a b : Bool) → eqb low 0 ≡ a → eqb high 0 ≡ b → eqb word 0 ≡ (a && b)
    go true true e f = eq-eqb word 0 (omega (arith, is, eqb-true low 0 e, eqb-true high 0 f))
    go true false e f = ne_eqb word 0 (λ h. eqb-false high 0 f (omega (arith, is, h)))
    go false b e f = ne_eqb word 0 (λ h. eqb-false low 0 e (omega (arith, is, h)))

pub stands_by_word : (c : Chip) (word : ℕ) → fields_formed c ≡ true → word ≡ (core c).power_down * 2 ^ 16 + (core c).stand_by → not (eqb word 0) ≡ stands_still (view c)
stands_by_word c word formed is = ap not (word_none word (core c).stand_by (core c).power_down is) ∙ stands_by_numbers c formed

-- Control and both numbers are stored, and the modes are what the three then say.
pub modes_stored : (x : Modes) (control stand_by power_down : ℕ) (c : Chip) → Sizes c →
    record { stand_by = mode_of (bit_set control 5) stand_by; power_down = mode_of (bit_set control 4) power_down } ≡ x →
    modes_agree control stand_by power_down ≡ true → byte_formed 1 control ≡ true →
    Turned (with_modes x) c (with_numbers (set (set c.numbers 4 stand_by) 5 power_down) (with_state (set c.state 1 control) c))
unfolding view_of
modes_stored x control stand_by power_down c sizes is agrees formed =
    let numbers = set (set c.numbers 4 stand_by) 5 power_down in
    let bytes = set c.state 1 control in
    stored (with_numbers numbers (with_state bytes c)) refl
    (at_set_two c.numbers 4 stand_by 5 power_down (omega (arith, sizes.number_count)) (omega (arith, sizes.number_count)))
    (at_set c.state 1 control (omega (arith, sizes.state_count)))
    (with_modes x) c
    (sized_numbers (sized_state sizes bytes (length-set c.state 1 control ∙ sizes.state_count)) numbers
    (length-set (set c.numbers 4 stand_by) 5 power_down ∙ length-set c.numbers 4 stand_by ∙ sizes.number_count))
    (ap (λ (y : Modes). with_modes y (view c)) is)
    (λ h. both (stage_agrees c h) (both agrees (put_formed (at c.state) 1 control 12 formed (bytes_agree c h))))
