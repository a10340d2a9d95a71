-- The laws of the power modes hold: a mode by clocks, clocks while one has hold, the first clock behind a leaving, and the examples.
-- Assumes nothing.
use Prim.Native.Nat.{ℕ, zero, suc, ◌-◌, ◌<◌, ◌≤◌}
use native.Mathlib.Omega.{arith}
use mathlib.Core.Path.{◌≡◌, refl, sym, ap, ◌∙◌}
use mathlib.Core.List.{[], ◌∷◌, ◌++◌}
use mathlib.Core.Bool.{Bool, true, false, cond, ◌||◌, true≢false}
use lib.Dec.{leb, eqb-suc-zero}
use borrow.Author.Tests.{leb-true, leb-false, le-leb, lt-leb, eqb-true}
use Rattle.machine.specs.State.{Machine, Mode, Modes, off, waiting, in_hold, leaving, with_modes}
use Rattle.machine.specs.Power.{stand_by_clocks, power_down_clocks, has_hold, mode_clocked, modes_clocked, stands_still}
use Rattle.machine.specs.Fifo.{offered, lo_alert, hi_alert, alerted}
use Rattle.machine.specs.Timer.{timer_clock}
use Rattle.machine.specs.Memory.{bytes_from, stored_from, over_registers, programming_clocks}
use Rattle.machine.specs.Commands.{programs, command_written, stepped, settled}
use Rattle.machine.specs.Frames.{sent}
use Rattle.machine.specs.Registers.{register_read, register_written}
use Rattle.machine.specs.WellFormed.{mode_formed, well_formed}
use Rattle.machine.specs.Refusals.{host_write, advance, refusal}
use Rattle.machine.specs.Events.{started, written, read_byte, programmed, ends_programming, reached, clock, clocks, advanced, taken as events_taken, buffer_taken, perform, after_calls}
use Rattle.machine.specs.ManyClocks.{timer_after}
use Rattle.machine.specs.Lost.{on_linear}
use Rattle.machine.specs.PowerModes.{mode_after, modes_after, holds_for, stands_for, LeftAfter, Leaving, one_byte, PowerModes}
use Rattle.machine.proofs.Cases.{either, neither}
use Rattle.machine.proofs.Clock.{clock_stands, clock_reaches, reached_past_modes}
use Rattle.machine.proofs.ManyClocks.Pieces.{last_clock, at_end}
use Rattle.machine.proofs.WellFormed.Parts.{each, well_modes}

-- One mode: no clock, and one more.
after_none : (whole : ℕ) (p : Bool) (x : Mode) → mode_formed whole p x ≡ true → mode_after 0 x ≡ x
after_none whole p off h = refl
after_none whole p waiting h = refl
after_none whole p in_hold h = refl
after_none whole p (leaving k) h =
    let some : 1 ≤ k = leb-true 1 k (each (leb 1 k) _ h).0 in
    let all : k - 0 ≡ k = omega arith in
    ap (λ (t : Bool). cond t off (leaving (k - 0))) (lt-leb k 0 some) ∙ ap leaving all

after_one_more : (n : ℕ) (x : Mode) → mode_clocked false (mode_after n x) ≡ mode_after (suc n) x
after_one_more n off = refl
after_one_more n waiting = refl
after_one_more n in_hold = refl
after_one_more n (leaving k) = go (leb k n) refl
  where
    over : k ≤ suc n → off ≡ mode_after (suc n) (leaving k)
    over few = sym (ap (λ (t : Bool). cond t off (leaving (k - suc n))) (le-leb k (suc n) few))

    go : (t : Bool) → leb k n ≡ t → mode_clocked false (cond t off (leaving (k - n))) ≡ mode_after (suc n) (leaving k)
    go true e = over (omega (arith, leb-true k n e))
    go false e = last (leb (k - n) 1) refl
      where
        last : (t : Bool) → leb (k - n) 1 ≡ t → cond t off (leaving (k - n - 1)) ≡ mode_after (suc n) (leaving k)
        last true f = over (omega (arith, leb-true (k - n) 1 f))
        last false f =
            let more = leb-false (k - n) 1 f in
            let less : k - n - 1 ≡ k - suc n = omega arith in
            ap leaving less ∙ sym (ap (λ (t : Bool). cond t off (leaving (k - suc n))) (lt-leb k (suc n) (omega (arith, more))))

-- A mode that has hold as each of n + 1 clocks begins has it after n of them. One that has it as each of k clocks begins has it as each of fewer.
holds_after : (n : ℕ) (x : Mode) → holds_for (suc n) x ≡ true → has_hold (mode_after n x) ≡ true
holds_after n off h = absurd (true≢false (sym h ∙ eqb-suc-zero n))
holds_after n waiting h = absurd (true≢false (sym h ∙ eqb-suc-zero n))
holds_after n in_hold h = refl
holds_after n (leaving k) h = ap (λ (t : Bool). has_hold (cond t off (leaving (k - n)))) (lt-leb k n (omega (arith, leb-true (suc n) k h)))

holds_fewer : (n k : ℕ) (x : Mode) → n ≤ k → holds_for k x ≡ true → holds_for n x ≡ true
holds_fewer zero k off few h = refl
holds_fewer (suc n) k off few h = absurd (omega (arith, eqb-true k 0 h))
holds_fewer zero k waiting few h = refl
holds_fewer (suc n) k waiting few h = absurd (omega (arith, eqb-true k 0 h))
holds_fewer n k in_hold few h = refl
holds_fewer n k (leaving l) few h = le-leb n l (omega (arith, leb-true k l h))

-- One of two tests holds, and so does one of two others that follow from them.
one_of : (a b : Bool) {c d : Bool} → (a || b) ≡ true → (a ≡ true → c ≡ true) → (b ≡ true → d ≡ true) → (c || d) ≡ true
one_of true b {c} {d} h p q = ap (λ (t : Bool). t || d) (p refl)
one_of false b {c} {d} h p q = or_right c d (q h)
  where
    or_right : (c d : Bool) → d ≡ true → (c || d) ≡ true
    or_right true d e = refl
    or_right false d e = e

pub stands_fewer : (n k : ℕ) (x : Modes) → n ≤ k → stands_for k x ≡ true → stands_for n x ≡ true
stands_fewer n k x few h = one_of (holds_for k x.stand_by) (holds_for k x.power_down) h (holds_fewer n k x.stand_by few) (holds_fewer n k x.power_down few)

-- Clocks while a mode has hold.
module _ (m : Machine) (well : well_formed m ≡ true) where
  abbrev x : Modes
  x = m.status.modes

  pub stands : (n : ℕ) → stands_for n x ≡ true → clocks n m ≡ with_modes (modes_after n x) m
  unfolding clocks
  stands zero h =
      let p = programs m.command in
      let (s, d) = each (mode_formed stand_by_clocks p x.stand_by) _ (well_modes m well) in
      sym (λ i. with_modes (record { stand_by = after_none stand_by_clocks p x.stand_by s i; power_down = after_none power_down_clocks p x.power_down d i }) m)
  stands (suc n) h =
      last_clock n m
      ∙ ap clock (stands n (stands_fewer n (suc n) x (omega arith) h))
      ∙ clock_stands (with_modes (modes_after n x) m)
      (one_of (holds_for (suc n) x.stand_by) (holds_for (suc n) x.power_down) h (holds_after n x.stand_by) (holds_after n x.power_down))
      ∙ (λ i. with_modes (record { stand_by = after_one_more n x.stand_by i; power_down = after_one_more n x.power_down i }) m)

  pub reaches_again : (n : ℕ) → stands_for n x ≡ true → LeftAfter n x → clocks (suc n) m ≡ with_modes (modes_clocked (ends_programming m.command) (modes_after n x)) (reached m)
  reaches_again n h (s, d) =
      last_clock n m
      ∙ ap clock (stands n h)
      ∙ clock_reaches (with_modes (modes_after n x) m) (λ i. s i || d i)
      ∙ ap (with_modes (modes_clocked (ends_programming m.command) (modes_after n x))) (reached_past_modes (modes_after n x) m)

-- Behind the end of a programming a mode that has waited has hold for good: no clock changes anything.
stays_held : (y : Mode) → has_hold y ≡ false → mode_clocked false (mode_clocked true y) ≡ mode_clocked true y
stays_held off h = refl
stays_held waiting h = refl
stays_held in_hold h = absurd (true≢false h)
stays_held (leaving n) h = absurd (true≢false h)

pub in_hold_rests : (n : ℕ) (m : Machine) (y : Modes) → (has_hold y.stand_by || has_hold y.power_down) ≡ false → m.status.modes ≡ modes_clocked true y → stands_still m ≡ true → clocks n m ≡ m
unfolding clocks
in_hold_rests zero m y without is stands = refl
in_hold_rests (suc n) m y without is stands =
    let (s, d) = neither (has_hold y.stand_by) (has_hold y.power_down) without in
    let rest : clock m ≡ m =
    clock_stands m stands
    ∙ ap (λ (z : Modes). with_modes (modes_clocked false z) m) is
    ∙ (λ i. with_modes (record { stand_by = stays_held y.stand_by s i; power_down = stays_held y.power_down d i }) m)
    ∙ ap (λ (z : Modes). with_modes z m) (sym is) in
    ap (clocks n) rest ∙ in_hold_rests n m y without is stands

-- The leaving of one mode, whatever the other is.
module _ (of : Modes → Mode) (by_itself : (ends : Bool) (x : Modes) → of (modes_clocked ends x) ≡ mode_clocked ends (of x)) where
  one_clock : (m : Machine) (n : ℕ) → of m.status.modes ≡ leaving n → of (clock m).status.modes ≡ cond (leb n 1) off (leaving (n - 1))
  unfolding clock
  one_clock m n is =
      let here : (ends : Bool) → of (modes_clocked ends m.status.modes) ≡ cond (leb n 1) off (leaving (n - 1)) = λ ends. by_itself ends m.status.modes ∙ ap (mode_clocked ends) is in
      either (λ (y : Machine). of y.status.modes ≡ cond (leb n 1) off (leaving (n - 1))) (stands_still m) _ _ (here false) (here (ends_programming m.command))

  lasts : (m : Machine) (n k : ℕ) → of m.status.modes ≡ leaving n → k < n → of (clocks k m).status.modes ≡ leaving (n - k)
  unfolding clocks
  lasts m n zero is less = let all : n ≡ n - 0 = omega arith in is ∙ ap leaving all
  lasts m n (suc k) is less =
      let fewer : n - k - 1 ≡ n - suc k = omega arith in
      ap (λ (y : Machine). of y.status.modes) (last_clock k m)
      ∙ one_clock (clocks k m) (n - k) (lasts m n k is (omega arith))
      ∙ ap (λ (t : Bool). cond t off (leaving (n - k - 1))) (lt-leb (n - k) 1 (omega arith))
      ∙ ap leaving fewer

  ends : (m : Machine) (n : ℕ) → of m.status.modes ≡ leaving n → 1 ≤ n → of (clocks n m).status.modes ≡ off
  ends m n is some =
      let k = n - 1 in
      let all : n ≡ suc k = omega arith in
      ap (λ (j : ℕ). of (clocks j m).status.modes) all
      ∙ ap (λ (y : Machine). of y.status.modes) (last_clock k m)
      ∙ one_clock (clocks k m) (n - k) (lasts m n k is (omega arith))
      ∙ ap (λ (t : Bool). cond t off (leaving (n - k - 1))) (le-leb (n - k) 1 (omega arith))

  leaving_of : Leaving of
  leaving_of = record { lasts = lasts; ends = ends }

-- The machine that has latched one byte, with PowerDown set behind it.
abbrev latching : Machine
latching = on_linear (one_byte ++ host_write 0x09 0x10 ∷ [])

-- It programs to its end, and then the mode has hold.
programmed_in_hold : on_linear (one_byte ++ host_write 0x09 0x10 ∷ advance programming_clocks ∷ [])
    ≡ alerted latching (with_modes (modes_clocked true latching.status.modes) (programmed 0x30 (0xEE ∷ []) (timer_after programming_clocks latching)))
unfolding timer_after offered alerted hi_alert lo_alert stored_from over_registers command_written stepped settled register_written well_formed refusal started written perform after_calls advanced
programmed_in_hold = ap (alerted latching) (at_end latching refl refl 0x30 programming_clocks (0xEE ∷ []) refl (omega arith))

pub power_modes : PowerModes
unfolding offered alerted hi_alert lo_alert timer_clock timer_after stored_from over_registers command_written stepped settled sent register_read register_written well_formed refusal started written read_byte reached clock clocks advanced events_taken buffer_taken perform after_calls
power_modes =
    record {
      stands = λ n m f h. stands m f.well n h;
      reaches_again = λ n m f h left. reaches_again m f.well n h left;
      stand_by_lem = leaving_of (λ x. x.stand_by) (λ e x. refl);
      power_down_lem = leaving_of (λ x. x.power_down) (λ e x. refl);
      timer_at_4 = refl;
      timer_at_5 = refl;
      both_at_3 = refl;
      both_at_4 = refl;
      both_at_511 = refl;
      both_at_512 = refl;
      kept_anew = refl;
      left_again = refl;
      waits = refl;
      taken_back = refl;
      ends_in_hold = ap (λ (m : Machine). m.status.modes.power_down) programmed_in_hold;
      ends_stored = ap (λ (m : Machine). bytes_from m.eeprom 0x30 1) programmed_in_hold;
      frame_waits_lem = refl;
      frame_taken = refl;
    }
