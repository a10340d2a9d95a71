-- Finding a name in a list of profiles, by number; and what names that ascend have to do with each other.
-- Assumes nothing.
use mathlib.Core.Path.{◌≡◌, refl, sym, ap, ◌∙◌}
use mathlib.Core.Bool.{Bool, true, false, cond, false≢true}
use mathlib.Core.List.{List, [], ◌∷◌}
use Prim.Native.Nat.{ℕ, zero, suc, ◌+◌, ◌<◌}
use native.Mathlib.Nat.{add-zero}
use native.Mathlib.Omega.{arith}
use lib.ListN.{length}
use Rattle.bits.proofs.Both.{each}
use Rattle.std.specs.Ordering.{is_lt, is_eq}
use Rattle.pack_order.specs.Order.{compared, before, same}
use Rattle.std.specs.declared.cmp.Ordering.{Ordering}
use Rattle.std.specs.declared.cmp.Ordering.TheVariants.{Less, Equal, Greater}
use Rattle.pack_order.proofs.Laws.{less_less, same_true, true_same, same_false}
use Rattle.pack.specs.Layout.{Profile}
use Rattle.pack.specs.Outcome.{done, refused}
use Rattle.pack.specs.Write.{ascending}
use Rattle.pack.specs.Find.{place_from}
use Rattle.pack.specs.Packs.{profile_at}
use Rattle.pack.proofs.Outcomes.{done_not_refused}

-- ---- names that ascend

is_less_lem : (o : Ordering) → is_lt o ≡ true → o ≡ Less
is_less_lem Less e = refl
is_less_lem Equal e = absurd (false≢true e)
is_less_lem Greater e = absurd (false≢true e)

-- So do those behind the first.
ascending_rest : (p : Profile) (ps : List Profile) → ascending (p ∷ ps) ≡ true → ascending ps ≡ true
unfolding ascending
ascending_rest p [] ascends = refl
ascending_rest p (q ∷ ps) ascends = (each (before p.name q.name) (ascending (q ∷ ps)) ascends).1

-- The first name comes before each other.
first_less : (p : Profile) (ps : List Profile) → ascending (p ∷ ps) ≡ true → (j : ℕ) → j < length ps → compared p.name (profile_at ps j).name ≡ Less
unfolding ascending
first_less p [] ascends j h = absurd (omega arith)
first_less p (q ∷ ps) ascends zero h = is_less_lem _ (each (before p.name q.name) (ascending (q ∷ ps)) ascends).0
first_less p (q ∷ ps) ascends (suc j) h =
    let two = each (before p.name q.name) (ascending (q ∷ ps)) ascends in
    less_less p.name q.name (profile_at ps j).name (is_less_lem _ two.0) (first_less q ps two.1 j (omega arith))

-- A name comes before each one of a higher number.
pub ascending_less : (ps : List Profile) → ascending ps ≡ true → (i j : ℕ) → i < j → j < length ps →
    compared (profile_at ps i).name (profile_at ps j).name ≡ Less
ascending_less [] ascends i j l h = absurd (omega arith)
ascending_less (p ∷ ps) ascends i zero l h = absurd (omega arith)
ascending_less (p ∷ ps) ascends zero (suc j) l h = first_less p ps ascends j (omega arith)
ascending_less (p ∷ ps) ascends (suc i) (suc j) l h = ascending_less ps (ascending_rest p ps ascends) i j (omega arith) (omega arith)

-- ---- the place of a name

-- The name of profile number j is found at that number.
pub place_at : (i : ℕ) (ps : List Profile) → ascending ps ≡ true → (j : ℕ) → j < length ps → place_from i (profile_at ps j).name ps ≡ done (i + j)
unfolding place_from
place_at i [] ascends j h = absurd (omega arith)
place_at i (p ∷ ps) ascends zero h =
    ap (λ (t : Bool). cond t (done i) (place_from (suc i) p.name ps)) (same_true p.name p.name refl) ∙ ap done (sym (add-zero i))
place_at i (p ∷ ps) ascends (suc j) h =
    let e : suc i + j ≡ i + suc j = omega arith in
    ap (λ (t : Bool). cond t (done i) (place_from (suc i) (profile_at ps j).name ps)) (ap is_eq (first_less p ps ascends j (omega arith)))
    ∙ place_at (suc i) ps (ascending_rest p ps ascends) j (omega arith) ∙ ap done e

-- A name that no profile has is refused with 15.
pub place_missing : (i : ℕ) (name : List ℕ) (ps : List Profile) → ((j : ℕ) → j < length ps → (profile_at ps j).name ≡ name → ⊥) → place_from i name ps ≡ refused 15
unfolding place_from
place_missing i name [] none = refl
place_missing i name (p ∷ ps) none =
    ap (λ (t : Bool). cond t (done i) (place_from (suc i) name ps)) (same_false p.name name (none 0 (omega arith)))
    ∙ place_missing (suc i) name ps (λ j h. none (suc j) (omega arith))

-- What is found has the name.
pub place_done : (i : ℕ) (name : List ℕ) (ps : List Profile) (k : ℕ) → place_from i name ps ≡ done k →
    (j : ℕ) × (i + j ≡ k) × (j < length ps) × ((profile_at ps j).name ≡ name)
unfolding place_from
place_done i name [] k e = absurd (done_not_refused e refl)
place_done i name (p ∷ ps) k e = go (place_done (suc i) name ps k) (same p.name name) refl e
  where
    go : (place_from (suc i) name ps ≡ done k → (j : ℕ) × (suc i + j ≡ k) × (j < length ps) × ((profile_at ps j).name ≡ name)) →
        (t : Bool) → same p.name name ≡ t → cond t (done i) (place_from (suc i) name ps) ≡ done k →
        (j : ℕ) × (i + j ≡ k) × (j < suc (length ps)) × ((profile_at (p ∷ ps) j).name ≡ name)
    go rest true et e =
        let is : i ≡ k = cc in
        (0, omega arith, omega arith, true_same p.name name et)
    go rest false et e =
        let r = rest e in
        (suc r.0, omega (arith, r.1), omega (arith, r.2), r.3)

-- 15 is the only number that finding in a list is refused with.
pub place_refused : (i : ℕ) (name : List ℕ) (ps : List Profile) (number : ℕ) → place_from i name ps ≡ refused number → number ≡ 15
unfolding place_from
place_refused i name [] number e = cc
place_refused i name (p ∷ ps) number e = go (place_refused (suc i) name ps number) (same p.name name) e
  where
    go : (place_from (suc i) name ps ≡ refused number → number ≡ 15) → (t : Bool) → cond t (done i) (place_from (suc i) name ps) ≡ refused number → number ≡ 15
    go rest true e = absurd (done_not_refused refl e)
    go rest false e = rest e
