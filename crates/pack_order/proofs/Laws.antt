-- Laws of the order of byte strings: it is a total order, and one byte is compared at a time.
-- Assumes nothing.
use mathlib.Core.Path.{◌≡◌, refl, ap, sym, ◌∙◌}
use mathlib.Core.Bool.{Bool, true, false, false≢true}
use mathlib.Core.List.{List, [], ◌∷◌}
use Prim.Native.Nat.{ℕ, zero, suc, min, ◌+◌, ◌<◌}
use native.Mathlib.Numerals.{add-one}
use native.Mathlib.Omega.{arith}
use lib.Dec.{ltb}
use lib.ListN.{length, get_or, drop}
use lib.Seq.{drop-cons}
use borrow.Author.Tests.{ltb-true, ltb-false, lt-ltb, le-ltb}
use Rattle.pack_order.specs.Order.{by_first, compared, same}
use Rattle.std.specs.declared.cmp.Ordering.{Ordering}
use Rattle.std.specs.declared.cmp.Ordering.TheVariants.{Less, Equal, Greater}
use Rattle.std.specs.Ordering.{is_eq, nat_cmp, ordering_then}
use Rattle.std.specs.Cmp.{nat_cmp_is}
use Rattle.std.specs.FinMap.{nat_cmp-IsAntisymmetric}

-- A byte string is the same as itself.
pub compared_self : (xs : List ℕ) → compared xs xs ≡ Equal
unfolding compared
compared_self [] = refl
compared_self (x ∷ xs) = simp (le-ltb x x (omega arith)) (compared_self xs)

-- Two that compare as equal are.
pub equal_same : (xs ys : List ℕ) → compared xs ys ≡ Equal → xs ≡ ys
unfolding compared
equal_same [] [] e = refl
equal_same [] (y ∷ ys) e = absurd (let z : ◌≡◌ {A = ℕ} 0 1 = cc in omega arith)
equal_same (x ∷ xs) [] e = absurd (let z : ◌≡◌ {A = ℕ} 0 1 = cc in omega arith)
equal_same (x ∷ xs) (y ∷ ys) e = go (equal_same xs ys) (ltb x y) refl (ltb y x) refl e
  where
    go : (compared xs ys ≡ Equal → xs ≡ ys) → (t : Bool) → ltb x y ≡ t → (u : Bool) → ltb y x ≡ u → by_first t u (compared xs ys) ≡ Equal → x ∷ xs ≡ y ∷ ys
    go rest true et u eu e = absurd (let z : ◌≡◌ {A = ℕ} 0 1 = cc in omega arith)
    go rest false et true eu e = absurd (let z : ◌≡◌ {A = ℕ} 0 1 = cc in omega arith)
    go rest false et false eu e =
        let first : x ≡ y = omega (arith, ltb-false x y et, ltb-false y x eu) in
        cc (rest e)

-- What comes behind another has the other before it.
pub greater_less : (xs ys : List ℕ) → compared xs ys ≡ Greater → compared ys xs ≡ Less
unfolding compared
greater_less [] [] e = absurd (let z : ◌≡◌ {A = ℕ} 0 1 = cc in omega arith)
greater_less [] (y ∷ ys) e = absurd (let z : ◌≡◌ {A = ℕ} 0 1 = cc in omega arith)
greater_less (x ∷ xs) [] e = refl
greater_less (x ∷ xs) (y ∷ ys) e = go (greater_less xs ys) (ltb x y) (ltb y x) e
  where
    go : (compared xs ys ≡ Greater → compared ys xs ≡ Less) → (t u : Bool) → by_first t u (compared xs ys) ≡ Greater → by_first u t (compared ys xs) ≡ Less
    go rest true u e = absurd (let z : ◌≡◌ {A = ℕ} 0 1 = cc in omega arith)
    go rest false true e = refl
    go rest false false e = rest e

-- What comes before a second that comes before a third, comes before the third.
pub less_less : (xs ys zs : List ℕ) → compared xs ys ≡ Less → compared ys zs ≡ Less → compared xs zs ≡ Less
unfolding compared
less_less [] [] zs e f = absurd (let z : ◌≡◌ {A = ℕ} 0 1 = cc in omega arith)
less_less [] (y ∷ ys) [] e f = absurd (let z : ◌≡◌ {A = ℕ} 0 1 = cc in omega arith)
less_less [] (y ∷ ys) (z ∷ zs) e f = refl
less_less (x ∷ xs) [] zs e f = absurd (let z : ◌≡◌ {A = ℕ} 0 1 = cc in omega arith)
less_less (x ∷ xs) (y ∷ ys) [] e f = absurd (let z : ◌≡◌ {A = ℕ} 0 1 = cc in omega arith)
less_less (x ∷ xs) (y ∷ ys) (z ∷ zs) e f = go (less_less xs ys zs) (ltb x y) refl (ltb y x) refl e (ltb y z) refl (ltb z y) refl f
  where
    go : (compared xs ys ≡ Less → compared ys zs ≡ Less → compared xs zs ≡ Less) → (t : Bool) → ltb x y ≡ t → (u : Bool) → ltb y x ≡ u → by_first t u (compared xs ys) ≡ Less →
        (v : Bool) → ltb y z ≡ v → (w : Bool) → ltb z y ≡ w → by_first v w (compared ys zs) ≡ Less →
        by_first (ltb x z) (ltb z x) (compared xs zs) ≡ Less
    go rest true et u eu e true ev w ew f = rw (lt-ltb x z (omega (arith, ltb-true x y et, ltb-true y z ev)))
    go rest true et u eu e false ev true ew f = absurd (let n : ◌≡◌ {A = ℕ} 0 1 = cc in omega arith)
    go rest true et u eu e false ev false ew f = rw (lt-ltb x z (omega (arith, ltb-true x y et, ltb-false y z ev, ltb-false z y ew)))
    go rest false et true eu e v ev w ew f = absurd (let n : ◌≡◌ {A = ℕ} 0 1 = cc in omega arith)
    go rest false et false eu e true ev w ew f = rw (lt-ltb x z (omega (arith, ltb-false x y et, ltb-false y x eu, ltb-true y z ev)))
    go rest false et false eu e false ev true ew f = absurd (let n : ◌≡◌ {A = ℕ} 0 1 = cc in omega arith)
    go rest false et false eu e false ev false ew f =
        rw (
          le-ltb x z (omega (arith, ltb-false x y et, ltb-false y x eu, ltb-false y z ev, ltb-false z y ew)),
          le-ltb z x (omega (arith, ltb-false x y et, ltb-false y x eu, ltb-false y z ev, ltb-false z y ew)),
        )
        (rest e f)

-- Two numbers decide, or leave it to what follows them, as the library's order of numbers says.
pub first_decides : (x y : ℕ) (rest : Ordering) → by_first (ltb x y) (ltb y x) rest ≡ ordering_then (nat_cmp x y) rest
first_decides x y rest = go (ltb x y) refl (ltb y x) refl
  where
    go : (t : Bool) → ltb x y ≡ t → (u : Bool) → ltb y x ≡ u → by_first t u rest ≡ ordering_then (nat_cmp x y) rest
    go true et u eu = rw (sym (nat_cmp_is x y Less (ltb-true x y et)))
    go false et true eu = rw (sym (nat_cmp_is x y Greater (ltb-true y x eu)))
    go false et false eu = rw (sym (nat_cmp_is x y Equal (omega (arith, ltb-false x y et, ltb-false y x eu))))

-- Two numbers that differ decide, whatever follows; two that are the same leave it to what follows.
pub decided : (x y : ℕ) (rest : Ordering) → (x ≡ y → ⊥) → ordering_then (nat_cmp x y) rest ≡ nat_cmp x y
decided x y rest differ = go (nat_cmp x y) refl
  where
    go : (o : Ordering) → nat_cmp x y ≡ o → ordering_then o rest ≡ o
    go Less e = refl
    go Equal e = absurd (differ (nat_cmp-IsAntisymmetric x y e))
    go Greater e = refl

pub undecided : (x y : ℕ) (rest : Ordering) → x ≡ y → ordering_then (nat_cmp x y) rest ≡ rest
undecided x y rest same = ap (λ (o : Ordering). ordering_then o rest) (sym (nat_cmp_is x y Equal same))

-- Bytes number i decide, or leave it to those behind them.
pub compared_at : (xs ys : List ℕ) (i : ℕ) → i < length xs → i < length ys →
    compared (drop i xs) (drop i ys) ≡ ordering_then (nat_cmp (get_or xs i 0) (get_or ys i 0)) (compared (drop (i + 1) xs) (drop (i + 1) ys))
unfolding compared
compared_at xs ys i hx hy = rw (drop-cons xs i 0 hx, drop-cons ys i 0 hy, add-one i) (first_decides (get_or xs i 0) (get_or ys i 0) (compared (drop (suc i) xs) (drop (suc i) ys)))

-- The order of two numbers is that of the next ones.
next_order : (x y : ℕ) → nat_cmp (suc x) (suc y) ≡ nat_cmp x y
next_order x y = go (ltb x y) refl (ltb y x) refl
  where
    go : (t : Bool) → ltb x y ≡ t → (u : Bool) → ltb y x ≡ u → nat_cmp (suc x) (suc y) ≡ nat_cmp x y
    go true et u eu = sym (nat_cmp_is (suc x) (suc y) Less (omega (arith, ltb-true x y et))) ∙ nat_cmp_is x y Less (ltb-true x y et)
    go false et true eu = sym (nat_cmp_is (suc x) (suc y) Greater (omega (arith, ltb-true y x eu))) ∙ nat_cmp_is x y Greater (ltb-true y x eu)
    go false et false eu =
        let here : x ≡ y = omega (arith, ltb-false x y et, ltb-false y x eu) in
        sym (nat_cmp_is (suc x) (suc y) Equal (omega (arith, here))) ∙ nat_cmp_is x y Equal here

-- Where the shorter one has ended the lengths decide.
pub compared_end : (xs ys : List ℕ) (i : ℕ) → i ≡ min (length xs) (length ys) → nat_cmp (length xs) (length ys) ≡ compared (drop i xs) (drop i ys)
unfolding compared
compared_end [] [] zero e = refl
compared_end [] [] (suc i) e = refl
compared_end [] (y ∷ ys) i e = sym (nat_cmp_is 0 (suc (length ys)) Less (omega arith)) ∙ none i (omega arith)
  where
    none : (i : ℕ) → i ≡ 0 → Less ≡ compared (drop i []) (drop i (y ∷ ys))
    none zero e = refl
    none (suc i) e = absurd (omega arith)
compared_end (x ∷ xs) [] i e = sym (nat_cmp_is (suc (length xs)) 0 Greater (omega arith)) ∙ none i (omega arith)
  where
    none : (i : ℕ) → i ≡ 0 → Greater ≡ compared (drop i (x ∷ xs)) (drop i [])
    none zero e = refl
    none (suc i) e = absurd (omega arith)
compared_end (x ∷ xs) (y ∷ ys) zero e = absurd (omega arith)
compared_end (x ∷ xs) (y ∷ ys) (suc i) e = next_order (length xs) (length ys) ∙ compared_end xs ys i (omega arith)

-- ---- the test whether two are the same

pub same_true : (xs ys : List ℕ) → xs ≡ ys → same xs ys ≡ true
same_true xs ys e = ap is_eq (ap (compared xs) (sym e) ∙ compared_self xs)

pub true_same : (xs ys : List ℕ) → same xs ys ≡ true → xs ≡ ys
true_same xs ys e = go (compared xs ys) refl e
  where
    go : (o : Ordering) → compared xs ys ≡ o → is_eq o ≡ true → xs ≡ ys
    go Less eo e = absurd (false≢true e)
    go Equal eo e = equal_same xs ys eo
    go Greater eo e = absurd (false≢true e)

pub same_false : (xs ys : List ℕ) → (xs ≡ ys → ⊥) → same xs ys ≡ false
same_false xs ys differ = go (same xs ys) refl
  where
    go : (t : Bool) → same xs ys ≡ t → t ≡ false
    go true et = absurd (differ (true_same xs ys et))
    go false et = refl

pub false_differ : (xs ys : List ℕ) → same xs ys ≡ false → xs ≡ ys → ⊥
false_differ xs ys differ e = false≢true (sym differ ∙ same_true xs ys e)

-- Two tests agree where each of two equations gives the other.
pub same_alike : (xs ys zs ws : List ℕ) → (xs ≡ ys → zs ≡ ws) → (zs ≡ ws → xs ≡ ys) → same xs ys ≡ same zs ws
same_alike xs ys zs ws there back = go (same xs ys) refl
  where
    go : (t : Bool) → same xs ys ≡ t → t ≡ same zs ws
    go true et = sym (same_true zs ws (there (true_same xs ys et)))
    go false et = sym (same_false zs ws (λ e. false_differ xs ys et (back e)))
