-- What a step that needs so many bytes gives, on a machine that holds k of them: it waits, or takes them all.
-- Assumes nothing.
use Prim.Native.Nat.{ℕ, ◌<◌, ◌≤◌}
use native.Mathlib.Omega.{arith}
use mathlib.Core.Path.{◌≡◌, sym, ap}
use mathlib.Core.Bool.{Bool, cond}
use lib.ListN.{length}
use borrow.Author.Tests.{le-leb, lt-leb}
use Rattle.machine.specs.State.{Machine}
use Rattle.machine.specs.Commands.{enough}

module _ {A : Type 0} (n : ℕ) (m : Machine) (waits takes : A) {k : ℕ} (count : k ≡ length m.held) where
  pub too_few : k < n → waits ≡ cond (enough n m) takes waits
  too_few few = ap (λ (t : Bool). cond {A = A} t takes waits) (sym (lt-leb n (length m.held) (omega arith)))

  pub all_held : n ≤ k → takes ≡ cond (enough n m) takes waits
  all_held all = ap (λ (t : Bool). cond {A = A} t takes waits) (sym (le-leb n (length m.held) (omega arith)))
