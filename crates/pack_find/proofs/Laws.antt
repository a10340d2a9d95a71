-- Halving one comparison at a time, and what a find hands back.
-- Assumes nothing.
use mathlib.Core.Path.{◌≡◌, refl, sym, ap, ◌∙◌}
use mathlib.Core.Bool.{Bool, true, false, cond, false≢true}
use mathlib.Core.List.{List}
use Prim.Native.Nat.{ℕ, zero, suc, ◌+◌, ◌-◌, ◌*◌, ◌/◌, ◌<◌, ◌≤◌}
use native.Mathlib.Omega.{arith}
use lib.ListN.{take, drop}
use lib.Dec.{ltb, eqb}
use borrow.Author.Tests.{lt-ltb, le-ltb, ltb-true, eqb-true, eq-eqb}
use Rattle.std.specs.declared.cmp.Ordering.{Ordering}
use Rattle.std.specs.declared.cmp.Ordering.TheVariants.{Less, Equal, Greater}
use Rattle.std.specs.declared.result.Result.{Result}
use Rattle.std.specs.declared.result.Result.TheVariants.{Ok, Err}
use Rattle.pack_order.specs.Order.{compared}
use Rattle.pack.specs.Outcome.{Outcome, done, refused, answered}
use Rattle.pack.proofs.Outcomes.{done_not_refused}
use Rattle.pack.specs.Read.{count_in, name_in, body_in}
use Rattle.pack.specs.Find.{finding, part_found, offset_of, by_order, halving}
use Rattle.pack.proofs.Reading.{found_within}
use Rattle.pack_find.specs.declared.FindError.{FindError}
use Rattle.pack_find.specs.declared.FindError.TheVariants.{NotAPack, NotFound}
use Rattle.pack_find.specs.Errors.{error_of, number_of}

-- Where there are entries left and a comparison, the middle one is compared.
pub next_comparison : (bytes name : List ℕ) (made low high : ℕ) → made < 9 → low < high →
    halving (9 - made) bytes name low high
    ≡ by_order (compared (name_in bytes ((low + high) / 2)) name) ((low + high) / 2)
    (halving (9 - (made + 1)) bytes name ((low + high) / 2 + 1) high)
    (halving (9 - (made + 1)) bytes name low ((low + high) / 2))
unfolding halving
next_comparison bytes name made low high few some =
    let left : 9 - made ≡ suc (9 - (made + 1)) = omega arith in
    ap (λ (k : ℕ). halving k bytes name low high) left ∙ simp (lt-ltb low high some)

-- Where there are none, nothing is found.
pub none_left : (left : ℕ) (bytes name : List ℕ) (low high : ℕ) → high ≤ low → halving left bytes name low high ≡ refused 15
unfolding halving
none_left zero bytes name low high none = refl
none_left (suc left) bytes name low high none = simp (le-ltb low high none)

-- Halving refuses with 15 and no other number.
pub halving_refused : (left : ℕ) (bytes name : List ℕ) (low high number : ℕ) → halving left bytes name low high ≡ refused number → number ≡ 15
unfolding halving
halving_refused zero bytes name low high number e = let is : 15 ≡ number = cc in sym is
halving_refused (suc left) bytes name low high number e = go (halving_refused left bytes name) (ltb low high) (compared (name_in bytes ((low + high) / 2)) name) e
  where
    go : ((low high number : ℕ) → halving left bytes name low high ≡ refused number → number ≡ 15) → (t : Bool) (o : Ordering) →
        cond t (by_order o ((low + high) / 2) (halving left bytes name ((low + high) / 2 + 1) high) (halving left bytes name low ((low + high) / 2))) (refused 15) ≡ refused number → number ≡ 15
    go rest true Less e = rest ((low + high) / 2 + 1) high number e
    go rest true Equal e = absurd (done_not_refused refl e)
    go rest true Greater e = rest low ((low + high) / 2) number e
    go rest false o e = let is : 15 ≡ number = cc in sym is

-- What it finds comes before `high`.
pub halving_within : (left : ℕ) (bytes name : List ℕ) (low high i : ℕ) → halving left bytes name low high ≡ done i → i < high
unfolding halving
halving_within zero bytes name low high i e = absurd (done_not_refused e refl)
halving_within (suc left) bytes name low high i e = go (halving_within left bytes name) (ltb low high) refl (compared (name_in bytes ((low + high) / 2)) name) e
  where
    go : ((low high i : ℕ) → halving left bytes name low high ≡ done i → i < high) → (t : Bool) → ltb low high ≡ t → (o : Ordering) →
        cond t (by_order o ((low + high) / 2) (halving left bytes name ((low + high) / 2 + 1) high) (halving left bytes name low ((low + high) / 2))) (refused 15) ≡ done i → i < high
    go rest true et Less e = rest ((low + high) / 2 + 1) high i e
    go rest true et Equal e = let is : (low + high) / 2 ≡ i = cc in omega (arith, ltb-true low high et, is)
    go rest true et Greater e = let before = rest low ((low + high) / 2) i e in omega (arith, ltb-true low high et, before)
    go rest false et o e = absurd (done_not_refused e refl)

-- ---- the answer by its outcome

-- What is handed back, by the outcome.
abbrev pub told : Outcome ℕ → Result ℕ FindError
told outcome = answered offset_of error_of outcome

-- An offset that is handed back is 32 times the number that was found.
pub offset_done : (outcome : Outcome ℕ) (offset : ℕ) → Ok offset ≡ told outcome → (i : ℕ) × (outcome ≡ done i) × (offset ≡ 32 * i)
offset_done (done i) offset e = (i, refl, cc)
offset_done (refused number) offset e = let z : ◌≡◌ {A = ℕ} 0 1 = cc in absurd (omega arith)

-- An error is that of the refusal.
number_error : (number : ℕ) → 14 ≤ number → number ≤ 15 → number_of (error_of number) ≡ number
number_error number low high = go (eqb number 14) refl
  where
    go : (t : Bool) → eqb number 14 ≡ t → number_of (cond t NotAPack NotFound) ≡ number
    go true et = sym (eqb-true number 14 et)
    go false et = let other : (number ≡ 14 → ⊥) = λ e. false≢true (sym et ∙ eq-eqb number 14 e) in omega (arith, other)

pub error_refused : (outcome : Outcome ℕ) (error : FindError) → Err error ≡ told outcome → ((number : ℕ) → outcome ≡ refused number → (14 ≤ number) × (number ≤ 15)) → outcome ≡ refused (number_of error)
error_refused (done i) error e limits = let z : ◌≡◌ {A = ℕ} 0 1 = cc in absurd (omega arith)
error_refused (refused number) error e limits =
    let same : error ≡ error_of number = cc in
    ap refused (sym (ap number_of same ∙ number_error number (limits number refl).0 (limits number refl).1))

-- What was found, by the number that says it: the place of a profile, and where its body begins.
pub record At (bytes name : List ℕ) (offset : ℕ) : Type 0 where
  pub place : ℕ
  pub is_found : finding bytes name ≡ done place
  pub begins : offset ≡ 32 * place
  pub within : place < count_in bytes

-- An offset that is handed back is that of a body.
pub answer_found : (bytes name : List ℕ) (offset : ℕ) → Ok offset ≡ told (finding bytes name) → At bytes name offset
answer_found bytes name offset e =
    let is = offset_done (finding bytes name) offset e in
    record { place = is.0; is_found = is.1; begins = is.2; within = found_within bytes name is.0 is.1 }

-- The body is what is handed back.
pub body_part : (bytes name : List ℕ) (offset : ℕ) → At bytes name offset → take (offset + 32 - offset) (drop offset bytes) ≡ part_found bytes (finding bytes name)
unfolding body_in
body_part bytes name offset at =
    let size : offset + 32 - offset ≡ 32 = omega arith in
    (λ k. take (size k) (drop (at.begins k) bytes))
    ∙ sym (simp (lt-ltb at.place (count_in bytes) at.within))
    ∙ ap (part_found bytes) (sym at.is_found)
