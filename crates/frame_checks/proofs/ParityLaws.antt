-- Laws of the parity bits of a frame received.
-- Assumes nothing.
use borrow.Author.Tests.{eq-eqb, ne_eqb}
use mathlib.Core.Path.{◌≡◌, refl, sym, ap, ◌∙◌}
use mathlib.Core.Bool.{Bool, false, ◌&&◌, ◌||◌}
use mathlib.Core.List.{List, [], ◌∷◌}
use Rattle.std.specs.List.{list_any, zip}
use Prim.Native.Nat.{ℕ, ◌%◌}
use native.Mathlib.Omega.{arith}
use Rattle.bits.specs.Bits.{bit}
use Rattle.machine.specs.State.{Machine}
use Rattle.machine.specs.Fifo.{register_at}
use Rattle.machine.specs.Frames.{parity_wrong, any_parity_wrong, complete_bytes, parity_fails}

-- One of the bytes has a wrong parity bit, by the pairs of a byte and its bit.
pub any_pair : (m : Machine) (bytes parities : List ℕ) → list_any (λ (pair : ℕ × ℕ). parity_wrong m pair.0 pair.1) (zip bytes parities) ≡ any_parity_wrong m bytes parities
unfolding any_parity_wrong
any_pair m [] parities = refl
any_pair m (b ∷ bs) [] = refl
any_pair m (b ∷ bs) (p ∷ ps) = ap (λ (t : Bool). parity_wrong m b p || t) (any_pair m bs ps)

-- Parity is not checked.
pub parity_unchecked : (m : Machine) (bytes parities : List ℕ) (last_bits : ℕ) → register_at m 0x22 % 2 ≡ 0 → false ≡ parity_fails m bytes parities last_bits
parity_unchecked m bytes parities last_bits is =
    ap (λ (t : Bool). t && any_parity_wrong m (complete_bytes bytes last_bits) parities) (sym (ne_eqb (bit (register_at m 0x22) 0) 1 (λ e. omega arith)))

-- Parity is checked, of the complete bytes.
pub parity_checked : (m : Machine) (bytes parities : List ℕ) (last_bits : ℕ) → register_at m 0x22 % 2 ≡ 1 →
    list_any (λ (pair : ℕ × ℕ). parity_wrong m pair.0 pair.1) (zip (complete_bytes bytes last_bits) parities) ≡ parity_fails m bytes parities last_bits
parity_checked m bytes parities last_bits is =
    any_pair m (complete_bytes bytes last_bits) parities
    ∙ ap (λ (t : Bool). t && any_parity_wrong m (complete_bytes bytes last_bits) parities) (sym (eq-eqb (bit (register_at m 0x22) 0) 1 (omega arith)))
