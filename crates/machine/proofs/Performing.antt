-- How a call is performed, refused or not, and what is known where it is not refused.
-- Assumes nothing.
use mathlib.Core.Path.{◌≡◌, refl, ap}
use mathlib.Core.Bool.{Bool, true, false, cond, not, true≢false}
use Prim.Native.Nat.{ℕ, suc}
use native.Mathlib.Omega.{arith}
use lib.Dec.{eqb, eqb-suc-zero}
use Rattle.machine.specs.State.{Machine}
use Rattle.machine.specs.Refusals.{Call, refuse_if, refusal}
use Rattle.machine.specs.Events.{accepted, perform, refused, buffer_of}

-- A call that is not refused gives what the event gives.
pub as_accepted : (m : Machine) (c : Call) → refusal m c ≡ 0 → perform m c ≡ accepted m c
unfolding perform
as_accepted m c ok = ap (λ (n : ℕ). cond (eqb n 0) (accepted m c) (record { answer = refused n; next = m; buffer = buffer_of c })) ok

-- A call that is refused answers its number, and changes neither the machine nor the buffer.
pub as_refused : (m : Machine) (c : Call) (n : ℕ) → refusal m c ≡ suc n → perform m c ≡ record { answer = refused (suc n); next = m; buffer = buffer_of c }
unfolding perform
as_refused m c n is = rw (is, eqb-suc-zero n)

-- A test that refuses with a number above 0 has not held where the refusal is 0, and the tests behind it neither.
pub passed_test : (t : Bool) (n rest : ℕ) → refuse_if t (suc n) rest ≡ 0 → (t ≡ false) × (rest ≡ 0)
passed_test true n rest h = absurd (omega (arith, h))
passed_test false n rest h = (refl, h)

pub not_false : (t : Bool) → not t ≡ false → t ≡ true
not_false true h = refl
not_false false h = absurd (true≢false h)
