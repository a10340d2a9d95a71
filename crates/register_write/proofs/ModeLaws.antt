-- The power modes after a write of Control, from what the code learns of each: both are off and stay so, or Control and both numbers are stored.
-- Assumes nothing.
use Prim.Native.Nat.{ℕ, ◌-◌, ◌/◌, ◌%◌}
use native.Mathlib.Omega.{arith}
use mathlib.Core.Path.{◌≡◌, refl, ap, ◌∙◌}
use mathlib.Core.Bool.{Bool, true, false, ◌&&◌}
use lib.Dec.{eqb}
use lib.ListN.{set}
use borrow.Author.Tests.{eqb-true, ne_eqb}
use Rattle.bits.specs.Bits.{bit_set}
use Rattle.machine.specs.State.{with_modes}
use Rattle.machine.specs.Commands.{programs}
use Rattle.machine.specs.Power.{stand_by_clocks, power_down_clocks, mode_written, modes_written}
use Rattle.machine.proofs.WellFormed.Parts.{both, each}
use Rattle.state.specs.View.{core, mode_of, view, view_of, with_numbers, with_state}
use Rattle.state.specs.Formed.{mode_agrees}
use Rattle.state.specs.Turns.{Sizes, Turned, ControlIs}
use Rattle.state.specs.declared.Chip.{Chip}
use Rattle.state.proofs.PowerLaws.{modes_stored}
use Rattle.state.proofs.TurnLaws.{stays, becomes}
use Rattle.register_write.specs.Written.{ModeWritten, both_written}
use Rattle.register_write.specs.declared.Mode.{Mode}

-- A mode whose bit is 0, and is written 0, stays off.
stays_off : (whole number : ℕ) (programs : Bool) {was bit : Bool} → was ≡ false → bit ≡ false → mode_of was number ≡ mode_written whole programs bit (mode_of was number)
stays_off whole number programs clear cleared = simp (clear, cleared)

pub both_off : (v : ℕ) (c : Chip) → Sizes c → (eqb (core c).control 0 && eqb (v / 16 % 4) 0) ≡ true → Turned (both_written v) c c
unfolding view_of
both_off v c sizes none =
    let k = core c in
    let p = programs (view c).command in
    let (clear, cleared) = each (eqb k.control 0) (eqb (v / 16 % 4) 0) none in
    let is = eqb-true k.control 0 clear in
    let bits = eqb-true (v / 16 % 4) 0 cleared in
    let stand = stays_off stand_by_clocks k.stand_by p (ap (λ (n : ℕ). bit_set n 5) is) (ne_eqb (v / 32 % 2) 1 (λ e. omega (arith, e, bits))) in
    let down = stays_off power_down_clocks k.power_down p (ap (λ (n : ℕ). bit_set n 4) is) (ne_eqb (v / 16 % 2) 1 (λ e. omega (arith, e, bits))) in
    becomes (both_written v) (stays c sizes) (λ i. with_modes (record { stand_by = stand i; power_down = down i }) (view c))

-- Each mode is written by the programming, its bit and its number before the write; what is stored is the mode written.
pub both_written_lem : (v : ℕ) (c : Chip) {programs_now : Bool} {first second : Mode} {control : ℕ} → Sizes c →
    programs_now ≡ programs (view c).command →
    ModeWritten (record { bit = bit_set (core c).control 5; number = (core c).stand_by }) (bit_set v 5) programs_now 0x8004 first →
    ModeWritten (record { bit = bit_set (core c).control 4; number = (core c).power_down }) (bit_set v 4) programs_now 0x8200 second →
    ControlIs first.bit second.bit control →
    Turned (both_written v) c (with_numbers (set (set c.numbers 4 first.number) 5 second.number) (with_state (set c.state 1 control) c))
unfolding view_of
both_written_lem v c {first = first} {second = second} {control = control} sizes reads stand down is =
    let (stand-is, stand-agrees) = as_stored stand is.stand_by_lem in
    let (down_is, down-agrees) = as_stored down is.power_down_lem in
    becomes (both_written v)
    (modes_stored (modes_written (programs (view c).command) v (view c).status.modes) control first.number second.number c sizes
    ((λ i. record { stand_by = stand-is i; power_down = down_is i }) ∙ ap (λ (p : Bool). modes_written p v (view c).status.modes) reads)
    (both stand-agrees down-agrees)
    is.formed)
    refl
  where
    as_stored : {was : Mode} {bit p b : Bool} {begun : ℕ} {next : Mode} → ModeWritten was bit p begun next → b ≡ next.bit →
        (mode_of b next.number ≡ mode_written (begun - 0x8000) p bit (mode_of was.bit was.number)) × (mode_agrees b next.number ≡ true)
    as_stored {next = next} written b-is = (ap (λ (t : Bool). mode_of t next.number) b-is ∙ written.mode, ap (λ (t : Bool). mode_agrees t next.number) b-is ∙ written.agrees)
