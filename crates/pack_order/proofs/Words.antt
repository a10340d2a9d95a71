-- Laws of bytes compared several at a time, as numbers: that compares them as byte strings.
-- Assumes nothing.
use mathlib.Core.Path.{◌≡◌, refl, sym, ◌∙◌}
use mathlib.Core.Bool.{Bool, true, false}
use mathlib.Core.List.{List, [], ◌∷◌}
use Prim.Native.Nat.{ℕ, zero, suc, ◌+◌, ◌*◌, ◌<◌, ◌≤◌}
use native.Mathlib.Omega.{arith}
use lib.Dec.{ltb}
use lib.ListN.{length, get_or, take, drop}
use lib.Seq.{length-take-le, get_or-drop}
use mir.Syntax.{w8}
use mir.Val.{Fits}
use borrow.Author.Tests.{ltb-true, ltb-false, lt-ltb, le-ltb}
use Rattle.std.specs.Int.{w64, from_be_bytes}
use Rattle.std.specs.Ordering.{nat_cmp, ordering_then}
use Rattle.pack_order.specs.Order.{by_first, compared}
use Rattle.pack_order.proofs.Laws.{first_decides}

-- A number with bytes behind it.
abbrev number_from : ℕ → List ℕ → ℕ
number_from n [] = n
number_from n (x ∷ xs) = number_from (n * 256 + x) xs

-- Behind a lesser number, as many bytes keep it lesser.
lesser : (k n m : ℕ) (xs ys : List ℕ) → k ≤ length xs → k ≤ length ys → ((i : ℕ) → Fits w8 (get_or xs i 0)) → n < m → number_from n (take k xs) < number_from m (take k ys)
lesser zero n m xs ys hx hy known less = less
lesser (suc k) n m [] ys hx hy known less = absurd (omega arith)
lesser (suc k) n m (x ∷ xs) [] hx hy known less = absurd (omega arith)
lesser (suc k) n m (x ∷ xs) (y ∷ ys) hx hy known less = lesser k (n * 256 + x) (m * 256 + y) xs ys (omega arith) (omega arith) (λ i. known (suc i)) (omega (arith, known 0))

-- The numbers of k bytes decide, or leave it to the bytes behind them.
by_numbers : (k n : ℕ) (xs ys : List ℕ) → k ≤ length xs → k ≤ length ys → ((i : ℕ) → Fits w8 (get_or xs i 0)) → ((i : ℕ) → Fits w8 (get_or ys i 0)) →
    compared xs ys ≡ by_first (ltb (number_from n (take k xs)) (number_from n (take k ys))) (ltb (number_from n (take k ys)) (number_from n (take k xs))) (compared (drop k xs) (drop k ys))
unfolding compared
by_numbers zero n xs ys hx hy known-x known-y = rw (le-ltb n n (omega arith))
by_numbers (suc k) n [] ys hx hy known-x known-y = absurd (omega arith)
by_numbers (suc k) n (x ∷ xs) [] hx hy known-x known-y = absurd (omega arith)
by_numbers (suc k) n (x ∷ xs) (y ∷ ys) hx hy known-x known-y =
    go (ltb x y) refl (ltb y x) refl
    (by_numbers k (n * 256 + x) xs ys (omega arith) (omega arith) (λ i. known-x (suc i)) (λ i. known-y (suc i)))
  where
    left : ℕ
    left = number_from (n * 256 + x) (take k xs)

    right : ℕ
    right = number_from (n * 256 + y) (take k ys)

    go : (t : Bool) → ltb x y ≡ t → (u : Bool) → ltb y x ≡ u →
        compared xs ys ≡ by_first (ltb left (number_from (n * 256 + x) (take k ys))) (ltb (number_from (n * 256 + x) (take k ys)) left) (compared (drop k xs) (drop k ys)) →
        by_first t u (compared xs ys) ≡ by_first (ltb left right) (ltb right left) (compared (drop k xs) (drop k ys))
    go true et u eu rest =
        simp (lt-ltb left right (lesser k (n * 256 + x) (n * 256 + y) xs ys (omega arith) (omega arith) (λ i. known-x (suc i)) (omega (arith, ltb-true x y et))))
    go false et true eu rest =
        let above : right < left = lesser k (n * 256 + y) (n * 256 + x) ys xs (omega arith) (omega arith) (λ i. known-y (suc i)) (omega (arith, ltb-true y x eu)) in
        simp (le-ltb left right (omega arith), lt-ltb right left above)
    go false et false eu rest =
        let first : x ≡ y = omega (arith, ltb-false x y et, ltb-false y x eu) in
        rw (sym first) rest

-- The number of eight bytes, the first highest, is the library's.
number_taken : (xs : List ℕ) → length xs ≡ 8 → number_from 0 xs ≡ from_be_bytes w64 xs
number_taken [] h = absurd (omega arith)
number_taken (a ∷ []) h = absurd (omega arith)
number_taken (a ∷ b ∷ []) h = absurd (omega arith)
number_taken (a ∷ b ∷ c ∷ []) h = absurd (omega arith)
number_taken (a ∷ b ∷ c ∷ d ∷ []) h = absurd (omega arith)
number_taken (a ∷ b ∷ c ∷ d ∷ e ∷ []) h = absurd (omega arith)
number_taken (a ∷ b ∷ c ∷ d ∷ e ∷ f ∷ []) h = absurd (omega arith)
number_taken (a ∷ b ∷ c ∷ d ∷ e ∷ f ∷ g ∷ []) h = absurd (omega arith)
number_taken (a ∷ b ∷ c ∷ d ∷ e ∷ f ∷ g ∷ i ∷ []) h = omega arith
number_taken (a ∷ b ∷ c ∷ d ∷ e ∷ f ∷ g ∷ i ∷ j ∷ xs) h = absurd (omega arith)

-- The first eight bytes of each, as numbers, decide, or leave it to the bytes behind them.
pub by_words : (xs ys : List ℕ) → 8 ≤ length xs → 8 ≤ length ys → ((i : ℕ) → Fits w8 (get_or xs i 0)) → ((i : ℕ) → Fits w8 (get_or ys i 0)) →
    compared xs ys ≡ ordering_then (nat_cmp (from_be_bytes w64 (take 8 xs)) (from_be_bytes w64 (take 8 ys))) (compared (drop 8 xs) (drop 8 ys))
by_words xs ys hx hy known-x known-y =
    let x = number_taken (take 8 xs) (length-take-le 8 xs hx) in
    let y = number_taken (take 8 ys) (length-take-le 8 ys hy) in
    by_numbers 8 0 xs ys hx hy known-x known-y
    ∙ first_decides (number_from 0 (take 8 xs)) (number_from 0 (take 8 ys)) (compared (drop 8 xs) (drop 8 ys))
    ∙ (λ k. ordering_then (nat_cmp (x k) (y k)) (compared (drop 8 xs) (drop 8 ys)))

-- Bytes behind bytes are bytes.
pub known_behind : (xs : List ℕ) (n : ℕ) → ((i : ℕ) → Fits w8 (get_or xs i 0)) → (i : ℕ) → Fits w8 (get_or (drop n xs) i 0)
known_behind xs n known i = rw get_or-drop (known (n + i))
