-- What is read off the entries, over entries in two parts.
-- Assumes nothing.
use mathlib.Core.Path.{◌≡◌, refl, sym, ap, ◌∙◌, subst}
use mathlib.Core.List.{List, [], ◌∷◌, ◌++◌, append_assoc}
use Prim.Native.Nat.{ℕ}
use Rattle.journal.specs.Entries.{Entry, collect, turn, count_after, InTurn, Latest, noted, latest_from, Memory, remembered, memory_from, away_after, away_from}

pub collect_append : {X : Type 0} (f : Entry → List X) (xs ys : List Entry) → collect f (xs ++ ys) ≡ collect f xs ++ collect f ys
unfolding collect
collect_append f [] ys = refl
collect_append f (x ∷ xs) ys = ap (λ (l : List _). f x ++ l) (collect_append f xs ys) ∙ sym (append_assoc (f x) (collect f xs) (collect f ys))

-- The held count after entries.
unfoldable pub count_from : ℕ → List Entry → ℕ
count_from n [] = n
count_from n (x ∷ xs) = count_from (count_after n x) xs

pub count_append : (n : ℕ) (xs ys : List Entry) → count_from n (xs ++ ys) ≡ count_from (count_from n xs) ys
unfolding count_from
count_append n [] ys = refl
count_append n (x ∷ xs) ys = count_append (count_after n x) xs ys

pub turn_append : (n : ℕ) (xs ys : List Entry) → InTurn n xs → InTurn (count_from n xs) ys → InTurn n (xs ++ ys)
unfolding InTurn count_from
turn_append n [] ys h k = k
turn_append n (x ∷ xs) ys (h, hs) k = (h, turn_append (count_after n x) xs ys hs k)

pub latest_append : (l : Latest) (xs ys : List Entry) → latest_from l (xs ++ ys) ≡ latest_from (latest_from l xs) ys
unfolding latest_from
latest_append l [] ys = refl
latest_append l (x ∷ xs) ys = latest_append (noted l x) xs ys

pub memory_append : (r : Memory) (xs ys : List Entry) → memory_from r (xs ++ ys) ≡ memory_from (memory_from r xs) ys
unfolding memory_from
memory_append r [] ys = refl
memory_append r (x ∷ xs) ys = memory_append (remembered r x) xs ys

pub away_append : (n : ℕ) (xs ys : List Entry) → away_from n (xs ++ ys) ≡ away_from (away_from n xs) ys
unfolding away_from
away_append n [] ys = refl
away_append n (x ∷ xs) ys = away_append (away_after n x) xs ys
