-- A memory with the first k bytes of another one: a store from address k on is the same in both, and so is a read from there.
-- Assumes nothing.
use Prim.Native.Nat.{ℕ, ◌+◌, ◌-◌, ◌≤◌}
use mathlib.Core.Path.{◌≡◌, refl, sym, ap, ◌∙◌}
use mathlib.Core.List.{List, [], ◌∷◌, ◌++◌}
use native.Mathlib.Omega.{arith}
use lib.ListN.{length, take, drop, set, take-append-drop}
use lib.Seq.{length-take-le, take_at, drop_at, take-set-le, drop-set-add, drop-drop}
use Rattle.machine.specs.Memory.{bytes_from, stored_from}

-- The first k bytes of b, and l from there on.
abbrev pub front : List ℕ → ℕ → List ℕ → List ℕ
front b k l = take k b ++ drop k l

module _ (b : List ℕ) (k : ℕ) (has : k ≤ length b) where
  pub take_front : (l : List ℕ) → take k (front b k l) ≡ take k b
  take_front l = take_at (take k b) (drop k l) k (length-take-le k b has)

  pub drop_front : (l : List ℕ) → drop k (front b k l) ≡ drop k l
  drop_front l = drop_at (take k b) (drop k l) k (length-take-le k b has)

  -- One byte, and bytes in order.
  set_front : (l : List ℕ) (a v : ℕ) → k ≤ a → front b k (set l a v) ≡ set (front b k l) a v
  set_front l a v h =
      let there : k + (a - k) ≡ a = omega arith in
      let new = set (front b k l) a v in
      let low : take k new ≡ take k b = take-set-le k (front b k l) a v h ∙ take_front l in
      let high : drop k new ≡ drop k (set l a v) =
      ap (λ (n : ℕ). drop k (set (front b k l) n v)) (sym there)
      ∙ drop-set-add k (front b k l) (a - k) v
      ∙ ap (λ (x : List ℕ). set x (a - k) v) (drop_front l)
      ∙ sym (drop-set-add k l (a - k) v)
      ∙ ap (λ (n : ℕ). drop k (set l n v)) there in
      sym (sym (take-append-drop k new) ∙ (λ i. low i ++ high i))

  pub stored_front : (l : List ℕ) (a : ℕ) (bs : List ℕ) → k ≤ a → front b k (stored_from l a bs) ≡ stored_from (front b k l) a bs
  unfolding stored_from
  stored_front l a [] h = refl
  stored_front l a (v ∷ vs) h =
      stored_front (set l a v) (a + 1) vs (omega (arith, h)) ∙ ap (λ (x : List ℕ). stored_from x (a + 1) vs) (set_front l a v h)

  pub read_front : (l : List ℕ) (a n : ℕ) → k ≤ a → bytes_from (front b k l) a n ≡ bytes_from l a n
  read_front l a n h =
      let there : k + (a - k) ≡ a = omega arith in
      ap (take n)
      (ap (λ (j : ℕ). drop j (front b k l)) (sym there)
      ∙ sym (drop-drop (a - k) k (front b k l))
      ∙ ap (drop (a - k)) (drop_front l)
      ∙ drop-drop (a - k) k l
      ∙ ap (λ (j : ℕ). drop j l) there)
