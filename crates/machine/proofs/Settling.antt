-- All that the active command does at once, where one step is all; and that of a WriteE2 that has its address, or programs.
-- Assumes nothing.
use Prim.Native.Nat.{ℕ}
use mathlib.Core.Path.{◌≡◌, refl, sym, ap, ◌∙◌}
use mathlib.Core.Bool.{Bool, cond}
use mathlib.Core.List.{List}
use lib.Dec.{ltb}
use Rattle.machine.specs.State.{Machine, Command, WriteE2, ready, programming}
use Rattle.machine.specs.Commands.{enough, latched, write_stepped, stepped_as, stepped, settled}
use Rattle.machine.proofs.Cases.{by_cond, either}

-- One step is all where a further one changes nothing.
pub settled_by : (m : Machine) (d : Command) → m.command ≡ d → stepped (stepped_as d m) ≡ stepped_as d m → stepped_as d m ≡ settled m
unfolding settled stepped
settled_by m d is again = sym (ap (λ (c : Command). stepped (stepped_as c m)) is ∙ again)

-- WriteE2 with its address: it then is over, programs or waits for a byte, and a further step changes nothing.
pub settled_writes : (m : Machine) (a : ℕ) → m.command ≡ WriteE2 (ready a) → write_stepped (ready a) m ≡ settled m
unfolding stepped
settled_writes m a is =
    settled_by m (WriteE2 (ready a)) is
    (by_cond (λ x. stepped x ≡ x) (enough 1 m) (latched a m) m (λ e. either (λ x. stepped x ≡ x) (ltb a 0x10) _ _ refl refl)
    (λ e. ap (λ (c : Command). stepped_as c m) is ∙ ap (λ (t : Bool). cond t (latched a m) m) e))

-- A programming takes no byte.
pub settled_stands : (m : Machine) (a left : ℕ) (bs : List ℕ) → m.command ≡ WriteE2 (programming a bs left) → settled m ≡ m
unfolding settled stepped
settled_stands m a left bs runs = let once : stepped m ≡ m = ap (λ (c : Command). stepped_as c m) runs in ap stepped once ∙ once
