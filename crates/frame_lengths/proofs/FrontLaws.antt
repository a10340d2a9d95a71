-- The length of a list's front. Assumes nothing.
use mathlib.Core.Path.{◌≡◌, ◌∙◌}
use mathlib.Core.List.{List}
use Prim.Native.Nat.{ℕ, ◌-◌}
use native.Mathlib.Omega.{arith}
use lib.ListN.{length, take}
use Rattle.std.proofs.lemmas.List.{length-take}

-- The length of the first n of a list: n, or the list's where it is shorter.
pub front_length : (n : ℕ) (l : List ℕ) → length (take n l) ≡ n - (n - length l)
front_length n l = length-take n l ∙ omega arith
