-- Laws of a power mode: what a clock leaves of one without hold, and when one stays formed.
-- Assumes nothing.
use Prim.Native.Nat.{ℕ}
use mathlib.Core.Path.{◌≡◌, refl, sym, ap, ◌∙◌}
use mathlib.Core.Bool.{true, false, true≢false}
use Rattle.machine.specs.State.{Machine, Mode, Modes, off, waiting, in_hold, leaving, with_modes}
use Rattle.machine.specs.Power.{has_hold, mode_clocked, modes_clocked, stands_still}
use Rattle.machine.proofs.Cases.{neither}

-- A mode without hold stays as it is by a clock that ends no programming.
mode_rests : (x : Mode) → has_hold x ≡ false → mode_clocked false x ≡ x
mode_rests off h = refl
mode_rests waiting h = refl
mode_rests in_hold h = absurd (true≢false h)
mode_rests (leaving n) h = absurd (true≢false h)

-- So a machine in which neither has hold keeps both.
pub modes_stay : (m y : Machine) → stands_still m ≡ false → y.status.modes ≡ m.status.modes → with_modes (modes_clocked false m.status.modes) y ≡ y
modes_stay m y h same =
    let x = m.status.modes in
    let (s, p) = neither (has_hold x.stand_by) (has_hold x.power_down) h in
    let rest : modes_clocked false x ≡ x = λ i. record { stand_by = mode_rests x.stand_by s i; power_down = mode_rests x.power_down p i } in
    ap (λ (z : Modes). with_modes z y) (rest ∙ sym same)
