-- When the writer writes: the tests that it makes, as facts of lengths and numbers.
-- Assumes nothing.
use mathlib.Core.Path.{◌≡◌, refl}
use mathlib.Core.Bool.{Bool, true, false, not}
use mathlib.Core.List.{List}
use Prim.Native.Nat.{ℕ, ◌+◌, ◌*◌, ◌≤◌}
use native.Mathlib.Nat.{div-eq_of_eq-mul_right}
use native.Mathlib.Omega.{arith}
use lib.Dec.{ltb}
use lib.ListN.{length}
use borrow.Author.Tests.{ltb-false, eqb-true, le-ltb, eq-eqb}
use Rattle.bits.proofs.Both.{each}
use Rattle.pack.specs.Layout.{packed}
use Rattle.pack.specs.Outcome.{done, refuse_if}
use Rattle.pack.specs.Write.{profiles_of, ascending, body_count, paired, writing}
use Rattle.pack.proofs.Outcomes.{done_not_refused}
use Rattle.pack.proofs.Places.{Whole, length_packed}

-- n names and n bodies, with names that ascend and are not too many.
pub record Writable (n : ℕ) (names bs : List ℕ) : Type 0 where
  pub names_size : length names ≡ 16 * n
  pub bodies_size : length bs ≡ 32 * n
  pub few : n ≤ 256
  pub ascends : ascending (profiles_of 16 n names bs) ≡ true

module _ (n : ℕ) (names bs : List ℕ) (w : Writable n names bs) where
  pub names_whole : Whole 16 n names
  names_whole j h = omega (arith, w.names_size)

  pub size_written : length (packed (profiles_of 16 n names bs)) ≡ 52 * n + 12
  size_written = length_packed 16 n names bs names_whole (omega (arith, w.bodies_size))

  -- These are written where there is room.
  pub written : (room : ℕ) → 52 * n + 12 ≤ room → writing names bs room ≡ done (packed (profiles_of 16 n names bs))
  unfolding writing
  written room fits =
      let number : body_count bs ≡ n = div-eq_of_eq-mul_right (omega arith) w.bodies_size in
      rw (
        number,
        eq-eqb (length names) (16 * n) w.names_size,
        eq-eqb (length bs) (32 * n) w.bodies_size,
        le-ltb 256 n w.few,
        w.ascends,
        le-ltb room (length (packed (profiles_of 16 n names bs))) (omega (arith, size_written)),
      )

-- Nothing else is written.
pub writable : (names bs : List ℕ) (room : ℕ) {pack : List ℕ} → writing names bs room ≡ done pack →
    Writable (body_count bs) names bs × (packed (profiles_of 16 (body_count bs) names bs) ≡ pack)
unfolding writing
writable names bs room {pack} e =
    let ps = profiles_of 16 (body_count bs) names bs in
    go (paired names bs) refl (ltb 256 (body_count bs)) refl (ascending ps) refl (ltb room (length (packed ps))) (packed ps) e
  where
    go : (t : Bool) → paired names bs ≡ t → (u : Bool) → ltb 256 (body_count bs) ≡ u → (v : Bool) → ascending (profiles_of 16 (body_count bs) names bs) ≡ v → (w : Bool)
        (bytes : List ℕ) → refuse_if (not t) 16 (refuse_if u 17 (refuse_if (not v) 18 (refuse_if w 19 (done bytes)))) ≡ done pack →
        Writable (body_count bs) names bs × (bytes ≡ pack)
    go false et u eu v ev w bytes e = absurd (done_not_refused e refl)
    go true et true eu v ev w bytes e = absurd (done_not_refused e refl)
    go true et false eu false ev w bytes e = absurd (done_not_refused e refl)
    go true et false eu true ev true bytes e = absurd (done_not_refused e refl)
    go true et false eu true ev false bytes e =
        let sizes = each _ _ et in (
          record { names_size = eqb-true _ _ sizes.0; bodies_size = eqb-true _ _ sizes.1; few = ltb-false 256 (body_count bs) eu; ascends = ev },
          cc,
        )
