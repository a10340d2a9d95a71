-- What the writer answers and leaves, by the first test that refuses.
-- Assumes nothing.
use borrow.Author.Tests.{eq-eqb, ne_eqb, eqb-true, lt-ltb, le-ltb}
use mathlib.Core.Path.{◌≡◌, refl, sym, ap, ◌∙◌}
use mathlib.Core.Bool.{Bool, true, false, not}
use mathlib.Core.List.{List, ◌++◌}
use Prim.Native.Nat.{ℕ, ◌+◌, ◌*◌, ◌/◌, ◌<◌, ◌≤◌}
use native.Mathlib.Nat.{zero-add}
use native.Mathlib.Omega.{arith}
use lib.Dec.{eqb, ltb}
use lib.ListN.{length, drop}
use lib.Seq.{take_all, sets-eq}
use Rattle.pack.specs.Layout.{Profile, index, trailer, packed}
use Rattle.pack.specs.Outcome.{Outcome, done, refused, refuse_if, answered}
use Rattle.pack.proofs.Outcomes.{done_not_refused}
use Rattle.pack.specs.Write.{body_count, paired, profiles_of, ascending, writing, filled}
use Rattle.pack.proofs.Places.{length_profiles, bodies_of}
use Rattle.pack.proofs.Writing.{Writable, writable, size_written}
use Rattle.std.specs.declared.result.Result.{Result}
use Rattle.std.specs.declared.result.Result.TheVariants.{Ok, Err}
use Rattle.pack_write.specs.Puts.{Puts}
use Rattle.pack_write.specs.declared.WriteError.{WriteError}
use Rattle.pack_write.specs.Errors.{error_of, number_of}

-- What is handed back, by the outcome.
abbrev told : Outcome (List ℕ) → Result ℕ WriteError
told outcome = answered length error_of outcome

-- The contract of the writer, for what it answers and leaves.
abbrev Meets : Outcome (List ℕ) → List ℕ → Result ℕ WriteError → List ℕ → Type 0
Meets outcome entry r exit = (r ≡ answered length error_of outcome) × (exit ≡ filled outcome entry)

-- A refusal answers its number and leaves the buffer.
pub refuses : {outcome : Outcome (List ℕ)} {number : ℕ} → outcome ≡ refused number → (buffer : List ℕ) → Meets outcome buffer (Err (error_of number)) buffer
unfolding filled
refuses {outcome} {number} is buffer = (sym (ap told is), sym (ap (λ (o : Outcome (List ℕ)). filled o buffer) is))

-- A pack that is put at the front of a buffer is written.
pub writes : {outcome : Outcome (List ℕ)} {pack entry exit : List ℕ} {size : ℕ} → outcome ≡ done pack → Puts pack entry 0 exit size →
    length pack ≤ length entry → Meets outcome entry (Ok size) exit
unfolding filled
writes {outcome} {pack} {entry} {exit} {size} is puts room = (
  ap (λ (n : ℕ). Ok n) (puts.end ∙ zero-add (length pack)) ∙ sym (ap told is),
  puts.bytes ∙ sets-eq pack entry 0 (omega arith) ∙ ap (λ (n : ℕ). pack ++ drop n entry) (zero-add (length pack))
      ∙ sym (ap (λ (o : Outcome (List ℕ)). filled o entry) is),
)

-- ---- the tests in turn

pub unpaired : (names bodies : List ℕ) (room : ℕ) → (length names ≡ 16 * body_count bodies → length bodies ≡ 32 * body_count bodies → ⊥) →
    writing names bodies room ≡ refused 16
unfolding writing
unpaired names bodies room differ = by (eqb (length names) (16 * body_count bodies)) refl
  where
    by : (t : Bool) → eqb (length names) (16 * body_count bodies) ≡ t → writing names bodies room ≡ refused 16
    by true names-fit = rw (names-fit, ne_eqb (length bodies) (32 * body_count bodies) (differ (eqb-true _ _ names-fit)))
    by false names-fit = rw names-fit

module _ (names bodies : List ℕ) (names-fit : length names ≡ 16 * body_count bodies) (bodies-fit : length bodies ≡ 32 * body_count bodies) where
  abbrev profiles : List Profile
  profiles = profiles_of 16 (body_count bodies) names bodies

  pairs : paired names bodies ≡ true
  pairs = rw (eq-eqb (length names) (16 * body_count bodies) names-fit, eq-eqb (length bodies) (32 * body_count bodies) bodies-fit)

  -- The parts that are put, one behind the other, are the pack.
  pub parts_packed : bodies ++ (index 0 profiles ++ trailer (body_count bodies)) ≡ packed profiles
  unfolding packed
  parts_packed =
      let n = body_count bodies in
      λ k.
      sym (bodies_of 16 n names bodies ∙ take_all (32 * n) bodies (omega arith)) k
      ++ (index 0 profiles ++ trailer (sym (length_profiles 16 n names bodies) k))

  -- The names are as many as the bodies, so that what is told of the names holds of the profiles.
  pub as_told : {t : Bool} → t ≡ ascending (profiles_of 16 ((length names + 0) / 16) names bodies) → ascending profiles ≡ t
  as_told {t} told =
      let same : (length names + 0) / 16 ≡ body_count bodies = omega arith in
      sym (told ∙ ap (λ (n : ℕ). ascending (profiles_of 16 n names bodies)) same)

  module _ (room : ℕ) where
    pub too_many : 256 < body_count bodies → writing names bodies room ≡ refused 17
    unfolding writing
    too_many many = rw (pairs, lt-ltb 256 (body_count bodies) many)

    module _ (few : body_count bodies ≤ 256) where
      pub unordered : ascending profiles ≡ false → writing names bodies room ≡ refused 18
      unfolding writing
      unordered falls = rw (pairs, le-ltb 256 (body_count bodies) few, falls)

      -- What passes these tests can be written.
      pub can_be_written : ascending profiles ≡ true → Writable (body_count bodies) names bodies
      can_be_written ascends = record { names_size = names-fit; bodies_size = bodies-fit; few = few; ascends = ascends }

      pub too_short : ascending profiles ≡ true → room < 52 * body_count bodies + 12 → writing names bodies room ≡ refused 19
      unfolding writing
      too_short ascends short =
          rw (
            pairs,
            le-ltb 256 (body_count bodies) few,
            ascends,
            lt-ltb room (length (packed profiles)) (omega (arith, size_written (body_count bodies) names bodies (can_be_written ascends))),
          )

-- ---- what was handed back

-- A length that is handed back is at most that of 256 profiles.
pub size_small : (names bodies : List ℕ) (room size : ℕ) → Ok size ≡ told (writing names bodies room) → size ≤ 13324
size_small names bodies room size is = go (writing names bodies room) refl is
  where
    go : (outcome : Outcome (List ℕ)) → writing names bodies room ≡ outcome → Ok size ≡ told outcome → size ≤ 13324
    go (done pack) e is =
        let fit = writable names bodies room e in
        let same : size ≡ length pack = cc in
        let whole : length pack ≡ 52 * body_count bodies + 12 = ap length (sym fit.1) ∙ size_written (body_count bodies) names bodies fit.0 in
        omega (arith, same, whole, fit.0.few)
    go (refused number) e is = let z : ◌≡◌ {A = ℕ} 0 1 = cc in absurd (omega arith)

-- A refusal has the number of its error.
refusal_number : (names bodies : List ℕ) (room number : ℕ) → writing names bodies room ≡ refused number → number_of (error_of number) ≡ number
unfolding writing
refusal_number names bodies room number e =
    let ps = profiles_of 16 (body_count bodies) names bodies in
    go (paired names bodies) (ltb 256 (body_count bodies)) (ascending ps) (ltb room (length (packed ps))) (packed ps) e
  where
    at : (k : ℕ) → number_of (error_of k) ≡ k → k ≡ number → number_of (error_of number) ≡ number
    at k same is = ap (λ (n : ℕ). number_of (error_of n)) (sym is) ∙ same ∙ is

    go : (t u v w : Bool) (bytes : List ℕ) → refuse_if (not t) 16 (refuse_if u 17 (refuse_if (not v) 18 (refuse_if w 19 (done bytes)))) ≡ refused number →
        number_of (error_of number) ≡ number
    go false u v w bytes e = at 16 refl cc
    go true true v w bytes e = at 17 refl cc
    go true false false w bytes e = at 18 refl cc
    go true false true true bytes e = at 19 refl cc
    go true false true false bytes e = absurd (done_not_refused refl e)

pub error_refused : (names bodies : List ℕ) (room : ℕ) (error : WriteError) → Err error ≡ told (writing names bodies room) → writing names bodies room ≡ refused (number_of error)
error_refused names bodies room error is = go (writing names bodies room) refl is
  where
    go : (outcome : Outcome (List ℕ)) → writing names bodies room ≡ outcome → Err error ≡ told outcome → writing names bodies room ≡ refused (number_of error)
    go (done pack) e is = let z : ◌≡◌ {A = ℕ} 0 1 = cc in absurd (omega arith)
    go (refused number) e is =
        let same : error ≡ error_of number = cc in
        e ∙ ap refused (sym (ap number_of same ∙ refusal_number names bodies room number e))
