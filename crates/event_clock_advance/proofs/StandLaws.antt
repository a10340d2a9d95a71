-- Both power modes in the arrays: the clocks that begin while one of them has hold, and the hold that they take at the end of a programming.
-- Assumes nothing.
use Prim.Native.Nat.{ℕ, ◌-◌, ◌<◌, max}
use native.Mathlib.Omega.{arith}
use mathlib.Core.Path.{◌≡◌, refl, sym, ap, subst, ◌∙◌}
use mathlib.Core.Bool.{Bool, true, false, cond, not, ◌&&◌, ◌||◌, or-true}
use mathlib.Core.List.{List}
use lib.Dec.{leb, eqb, lit<}
use lib.ListN.{set}
use lib.Seq.{set-get_or}
use borrow.Author.Tests.{eqb-true, leb-true, leb-false, not-false}
use Rattle.bits.specs.Bits.{bit_set}
use Rattle.machine.specs.State.{Modes, with_modes}
use Rattle.machine.specs.Power.{modes_clocked, stands_still}
use Rattle.machine.specs.WellFormedness.{Formed}
use Rattle.machine.specs.Events.{clocks}
use Rattle.machine.specs.PowerModes.{modes_after, holds_for, stands_for}
use Rattle.machine.proofs.WellFormed.Parts.{both, each}
use Rattle.machine.proofs.PowerModes.{power_modes}
use Rattle.state.specs.View.{core, mode_of, view, view_of, with_numbers, with_state}
use Rattle.state.specs.Formed.{mode_agrees, fields_formed}
use Rattle.state.specs.Turns.{Sizes, Turned, ControlIs}
use Rattle.state.specs.declared.Chip.{Chip}
use Rattle.state.proofs.StoreLaws.{modes_agree_lem, byte_agrees}
use Rattle.state.proofs.PowerLaws.{stands_by_numbers, modes_stored}
use Rattle.state.proofs.TurnLaws.{stays, becomes}
use Rattle.event_clock_advance.specs.Clock.{hold_taken, standing, left_within, number_after, StoodBy}
use Rattle.event_clock_advance.proofs.ModeLaws.{Fields, fields, mode_after_lem, agrees_after, standing_within, standing_holds, standing_over, mode_held, agrees_held}

-- What holds of each of two numbers holds of the greater.
of_greater : (P : ℕ → Type 0) (a b : ℕ) → P a → P b → P (max a b)
of_greater P a b p q = go (leb a b) refl
  where
    go : (t : Bool) → leb a b ≡ t → P (max a b)
    go true e = let is : b ≡ max a b = omega (arith, leb-true a b e) in subst P is q
    go false e = let is : a ≡ max a b = omega (arith, leb-false a b e) in subst P is p

module _ (c : Chip) (formed : fields_formed c ≡ true) where
  abbrev bits : Bool × Bool
  bits = (bit_set (core c).control 5, bit_set (core c).control 4)

  -- The fields of StandBy agree, and those of PowerDown.
  both_agree : Fields bits.0 (core c).stand_by × Fields bits.1 (core c).power_down
  both_agree =
      let (s, p) = each (mode_agrees bits.0 (core c).stand_by) _ (modes_agree_lem c formed) in
      (fields bits.0 (core c).stand_by s, fields bits.1 (core c).power_down p)

  -- So many clocks, of which `stood` begin while a mode has hold.
  module _ (sizes : Sizes c) (by stood : ℕ) (is_most : stood ≡ max (standing (core c).stand_by by) (standing (core c).power_down by)) where
    stand : stands_for stood (view c).status.modes ≡ true
    unfolding view_of
    stand =
        let (s, p) = both_agree in
        let x = (view c).status.modes in
        let a = standing (core c).stand_by by in
        let b = standing (core c).power_down by in
        subst (λ (n : ℕ). stands_for n x ≡ true) (sym is_most)
        (of_greater (λ n. stands_for n x ≡ true) a b (ap (λ (t : Bool). t || holds_for a x.power_down) (standing_holds by s))
        (ap (λ (t : Bool). holds_for b x.stand_by || t) (standing_holds by p) ∙ or-true (holds_for b x.stand_by)))

    over : stood < by → stands_still (with_modes (modes_after stood (view c).status.modes) (view c)) ≡ false
    unfolding view_of
    over less =
        let (s, p) = both_agree in
        λ i. standing_over by stood s (omega (arith, is_most)) less i || standing_over by stood p (omega (arith, is_most)) less i

    -- Both numbers and Control are stored as these clocks leave them.
    pub stands_stored : (control stand_by power_down : ℕ) → Formed (view c) →
        ControlIs (bits.0 && not (left_within (core c).stand_by stood)) (bits.1 && not (left_within (core c).power_down stood)) control →
        stand_by ≡ number_after (core c).stand_by stood → power_down ≡ number_after (core c).power_down stood →
        StoodBy by (by - stood) c (with_numbers (set (set c.numbers 4 stand_by) 5 power_down) (with_state (set c.state 1 control) c))
    unfolding view_of
    stands_stored control stand_by power_down well is first second =
        let (s, p) = both_agree in
        let x = modes_after stood (view c).status.modes in
        let kept : by - (by - stood) ≡ stood = omega (arith, is_most, standing_within (core c).stand_by by, standing_within (core c).power_down by) in
        let turned =
        modes_stored x control stand_by power_down c sizes
        ((λ i. record { stand_by = mode_of (is.stand_by_lem i) (first i); power_down = mode_of (is.power_down_lem i) (second i) })
        ∙ (λ i. record { stand_by = mode_after_lem stood s i; power_down = mode_after_lem stood p i }))
        (both ((λ i. mode_agrees (is.stand_by_lem i) (first i)) ∙ agrees_after stood s) ((λ i. mode_agrees (is.power_down_lem i) (second i)) ∙ agrees_after stood p))
        is.formed in
        record {
          within = omega arith;
          stood =
              becomes (clocks (by - (by - stood))) turned
              (sym (power_modes.stands stood (view c) well stand) ∙ ap (λ (n : ℕ). clocks n (view c)) (sym kept));
          reaches = λ some. ap stands_still turned.machine ∙ over (omega (arith, some));
        }

  -- At the end of a programming, where no mode has hold.
  module _ (runs : stands_still (view c) ≡ false) where
    no_numbers : ((core c).stand_by ≡ 0) × ((core c).power_down ≡ 0)
    no_numbers =
        let (s, p) = each (eqb (core c).stand_by 0) _ (not-false _ (stands_by_numbers c formed ∙ runs)) in
        (eqb-true (core c).stand_by 0 s, eqb-true (core c).power_down 0 p)

    pub hold_stored : (sizes : Sizes c) (stand_by power_down : ℕ) → stand_by ≡ cond bits.0 0x8000 0 → power_down ≡ cond bits.1 0x8000 0 →
        Turned hold_taken c (with_numbers (set (set c.numbers 4 stand_by) 5 power_down) c)
    unfolding view_of
    hold_stored sizes stand_by power_down first second =
        let numbers = set (set c.numbers 4 stand_by) 5 power_down in
        let (s, p) = no_numbers in
        subst (λ (l : List ℕ). Turned hold_taken c (with_numbers numbers (with_state l c))) (set-get_or c.state 1 0)
        (becomes hold_taken
        (modes_stored (modes_clocked true (view c).status.modes) (core c).control stand_by power_down c sizes
        ((λ i. record { stand_by = mode_of bits.0 (first i); power_down = mode_of bits.1 (second i) })
        ∙ (λ i. record { stand_by = mode_held bits.0 i; power_down = mode_held bits.1 i })
        ∙ sym (λ i. modes_clocked true (record { stand_by = mode_of bits.0 (s i); power_down = mode_of bits.1 (p i) })))
        (both (ap (mode_agrees bits.0) first ∙ agrees_held bits.0) (ap (mode_agrees bits.1) second ∙ agrees_held bits.1))
        (byte_agrees c formed 1 (lit< tt)))
        refl)

-- Where Control is 0 both modes are off, and stay so.
pub none_hold : (c : Chip) → Sizes c → (core c).control ≡ 0 → Turned hold_taken c c
unfolding view_of
none_hold c sizes none =
    let modes : ℕ → Modes = λ (n : ℕ). record { stand_by = mode_of (bit_set n 5) (core c).stand_by; power_down = mode_of (bit_set n 4) (core c).power_down } in
    becomes hold_taken (stays c sizes) (ap (λ (x : Modes). with_modes x (view c)) (ap modes none ∙ ap (λ (n : ℕ). modes_clocked true (modes n)) (sym none)))
