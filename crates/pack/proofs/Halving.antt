-- Halving finds what there is to find, where the names ascend: by induction on the number of comparisons.
-- Assumes nothing.
use mathlib.Core.Path.{◌≡◌, refl, sym, ap, ◌∙◌}
use mathlib.Core.Bool.{Bool, true, false, cond}
use mathlib.Core.List.{List}
use Prim.Native.Nat.{ℕ, zero, suc, ◌+◌, ◌/◌, ◌^◌, ◌<◌, ◌≤◌}
use native.Mathlib.Omega.{arith}
use lib.Dec.{ltb}
use borrow.Author.Tests.{ltb-true, ltb-false}
use Rattle.pack_order.specs.Order.{compared}
use Rattle.std.specs.declared.cmp.Ordering.{Ordering}
use Rattle.std.specs.declared.cmp.Ordering.TheVariants.{Less, Equal, Greater}
use Rattle.pack_order.proofs.Laws.{compared_self, equal_same, less_less}
use Rattle.pack.specs.Outcome.{Outcome, done, refused}
use Rattle.pack.specs.Read.{count_in, name_in}
use Rattle.pack.specs.Find.{by_order, halving}

-- No byte string comes before itself.
not_less : (xs : List ℕ) → compared xs xs ≡ Less → ⊥
not_less xs e = let z : ◌≡◌ {A = ℕ} 0 1 = cc (compared_self xs) in omega arith

module _ (bytes name : List ℕ) (ascends : (i j : ℕ) → i < j → j < count_in bytes → compared (name_in bytes i) (name_in bytes j) ≡ Less) where
  -- A name that comes behind that of number `middle` has a higher number, and one that comes before it a lower one.
  higher : (middle : ℕ) → middle < count_in bytes → compared (name_in bytes middle) name ≡ Less → (i : ℕ) → name_in bytes i ≡ name → middle < i
  higher middle m e i is = go (ltb middle i) refl (ltb i middle) refl
    where
      go : (t : Bool) → ltb middle i ≡ t → (u : Bool) → ltb i middle ≡ u → middle < i
      go true et u eu = ltb-true middle i et
      go false et true eu =
          absurd (not_less name (less_less name (name_in bytes middle) name (ap (λ (l : List ℕ). compared l (name_in bytes middle)) (sym is) ∙ ascends i middle (ltb-true i middle eu) m) e))
      go false et false eu =
          let at : i ≡ middle = omega (arith, ltb-false middle i et, ltb-false i middle eu) in
          absurd (not_less name (ap (λ (l : List ℕ). compared l name) (sym is ∙ ap (name_in bytes) at) ∙ e))

  lower : (middle : ℕ) → compared (name_in bytes middle) name ≡ Greater → (i : ℕ) → i < count_in bytes → name_in bytes i ≡ name → i < middle
  lower middle e i h is = go (ltb i middle) refl (ltb middle i) refl
    where
      go : (t : Bool) → ltb i middle ≡ t → (u : Bool) → ltb middle i ≡ u → i < middle
      go true et u eu = ltb-true i middle et
      go false et true eu =
          let l : compared (name_in bytes middle) (name_in bytes i) ≡ Less = ascends middle i (ltb-true middle i eu) h in
          absurd (let z : ◌≡◌ {A = ℕ} 0 1 = cc in omega arith)
      go false et false eu =
          let at : i ≡ middle = omega (arith, ltb-false i middle et, ltb-false middle i eu) in
          absurd (let z : ◌≡◌ {A = ℕ} 0 1 = cc (compared_self name) in omega arith)

  module _ (result : Outcome ℕ)
      (there : (i : ℕ) → i < count_in bytes → name_in bytes i ≡ name → result ≡ done i)
      (nowhere : ((i : ℕ) → i < count_in bytes → name_in bytes i ≡ name → ⊥) → result ≡ refused 15)
    where
      -- The name is nowhere but from `low` up to, not including, `high`.
      abbrev Within : ℕ → ℕ → Type 0
      Within low high = (i : ℕ) → i < count_in bytes → name_in bytes i ≡ name → (low ≤ i) × (i < high)

      pub halving_finds : (comparisons low high : ℕ) → high ≤ count_in bytes → high < 2 ^ comparisons + low → Within low high →
          halving comparisons bytes name low high ≡ result
      unfolding halving
      halving_finds zero low high h few within = sym (nowhere (λ i l is. omega (arith, within i l is)))
      halving_finds (suc comparisons) low high h few within =
          go (halving_finds comparisons) (ltb low high) refl (compared (name_in bytes ((low + high) / 2)) name) refl
        where
          go : ((low high : ℕ) → high ≤ count_in bytes → high < 2 ^ comparisons + low → Within low high → halving comparisons bytes name low high ≡ result) →
              (t : Bool) → ltb low high ≡ t → (o : Ordering) → compared (name_in bytes ((low + high) / 2)) name ≡ o →
              cond t
              (by_order o ((low + high) / 2)
              (halving comparisons bytes name ((low + high) / 2 + 1) high)
              (halving comparisons bytes name low ((low + high) / 2)))
              (refused 15)
              ≡ result
          go again false et o eo = sym (nowhere (λ i l is. omega (arith, within i l is, ltb-false low high et)))
          go again true et Equal eo =
              sym (there ((low + high) / 2) (omega (arith, ltb-true low high et)) (equal_same (name_in bytes ((low + high) / 2)) name eo))
          go again true et Less eo =
              let some = ltb-true low high et in
              again ((low + high) / 2 + 1) high h (omega arith)
              (λ i l is. (omega (arith, higher ((low + high) / 2) (omega arith) eo i is), (within i l is).1))
          go again true et Greater eo =
              let some = ltb-true low high et in
              again low ((low + high) / 2) (omega arith) (omega arith)
              (λ i l is. ((within i l is).0, lower ((low + high) / 2) eo i l is))
