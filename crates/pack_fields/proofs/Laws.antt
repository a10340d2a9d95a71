-- Names with bytes between them: where they stand.
-- Assumes nothing.
use mathlib.Core.Path.{◌≡◌}
use mathlib.Core.List.{List}
use Prim.Native.Nat.{ℕ, suc, ◌+◌, ◌-◌, ◌*◌}
use native.Mathlib.Nat.{mul-suc}
use native.Mathlib.Omega.{arith}
use lib.ListN.{take, drop}
use Rattle.pack_order.specs.Order.{before}
use Rattle.pack.proofs.Places.{next_ascends}

-- The two parts that are compared are name number i and the next one.
pub neighbours : (names : List ℕ) (apart i : ℕ) →
    before (take (apart * i + 16 - apart * i) (drop (apart * i) names)) (take (apart * i + apart + 16 - (apart * i + apart)) (drop (apart * i + apart) names)) ≡ next_ascends apart names i
neighbours names apart i =
    let first = apart * i in
    let a : first + 16 - first ≡ 16 = omega arith in
    let b : first + apart + 16 - (first + apart) ≡ 16 = omega arith in
    let next : first + apart ≡ apart * suc i = omega (arith, mul-suc apart i) in
    λ k. before (take (a k) (drop first names)) (take (b k) (drop (next k) names))
