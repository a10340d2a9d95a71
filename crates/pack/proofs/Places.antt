-- Profiles by place: what stands at each number of a list that `profiles_of` makes, and what its bodies, its index and its pack are.
-- Assumes nothing.
use mathlib.Core.Path.{◌≡◌, refl, sym, ap, ◌∙◌}
use mathlib.Core.Bool.{Bool, true, false, ◌&&◌, and-false}
use mathlib.Core.List.{List, [], ◌∷◌, ◌++◌, append_assoc, append-nil}
use Prim.Native.Nat.{ℕ, zero, suc, ◌+◌, ◌*◌, ◌<◌, ◌≤◌}
use native.Mathlib.Nat.{mul-zero, mul-suc, add-zero}
use native.Mathlib.Omega.{arith}
use lib.ListN.{length, get_or, take, drop, length-append, length-drop}
use lib.Seq.{drop-drop, take-add, length-take-le}
use Rattle.pack_order.specs.Order.{before}
use Rattle.pack.specs.Layout.{Profile, four_bytes, bodies, index, trailer, packed}
use Rattle.pack.specs.Write.{profiles_of, ascending}

-- Name number j, where one stands every `apart` bytes.
abbrev pub name_at : ℕ → List ℕ → ℕ → List ℕ
name_at apart names j = take 16 (drop (apart * j) names)

abbrev pub body_at : List ℕ → ℕ → List ℕ
body_at bodies j = take 32 (drop (32 * j) bodies)

name_zero : (apart : ℕ) (names : List ℕ) → name_at apart names 0 ≡ take 16 names
name_zero apart names = ap (λ (k : ℕ). take 16 (drop k names)) (mul-zero apart)

-- Number j + 1 is number j of what is behind the first.
drop_next : (apart : ℕ) (l : List ℕ) (j : ℕ) → drop (apart * suc j) l ≡ drop (apart * j) (drop apart l)
drop_next apart l j =
    let e : apart * suc j ≡ apart + apart * j = omega (arith, mul-suc apart j) in
    ap (λ (k : ℕ). drop k l) e ∙ sym (drop-drop (apart * j) apart l)

name_suc : (apart : ℕ) (names : List ℕ) (j : ℕ) → name_at apart names (suc j) ≡ name_at apart (drop apart names) j
name_suc apart names j = ap (take 16) (drop_next apart names j)

pub length_profiles : (apart n : ℕ) (names bs : List ℕ) → length (profiles_of apart n names bs) ≡ n
unfolding profiles_of
length_profiles apart zero names bs = refl
length_profiles apart (suc n) names bs = ap suc (length_profiles apart n (drop apart names) (drop 32 bs))

pub profile_at_lem : (apart n : ℕ) (names bs : List ℕ) (i : ℕ) (other : Profile) → i < n →
    get_or (profiles_of apart n names bs) i other ≡ record { name = name_at apart names i; body = body_at bs i }
unfolding profiles_of
profile_at_lem apart zero names bs i other h = absurd (omega arith)
profile_at_lem apart (suc n) names bs zero other h = λ k. record { name = sym (name_zero apart names) k; body = take 32 bs }
profile_at_lem apart (suc n) names bs (suc i) other h =
    profile_at_lem apart n (drop apart names) (drop 32 bs) i other (omega arith)
    ∙ (λ k. record { name = sym (name_suc apart names i) k; body = take 32 (sym (drop_next 32 bs i) k) })

-- ---- the order of names

-- Name number j comes before the next.
abbrev pub next_ascends : ℕ → List ℕ → ℕ → Bool
next_ascends apart names j = before (name_at apart names j) (name_at apart names (suc j))

next_zero : (apart : ℕ) (names : List ℕ) → next_ascends apart names 0 ≡ before (take 16 names) (take 16 (drop apart names))
next_zero apart names = λ k. before (name_zero apart names k) ((name_suc apart names 0 ∙ name_zero apart (drop apart names)) k)

next_suc : (apart : ℕ) (names : List ℕ) (j : ℕ) → next_ascends apart names (suc j) ≡ next_ascends apart (drop apart names) j
next_suc apart names j = λ k. before (name_suc apart names j k) (name_suc apart names (suc j) k)

-- The names ascend where each one comes before the next, and not where one does not.
pub ascending_all : (apart n : ℕ) (names bs : List ℕ) → ((j : ℕ) → suc j < n → next_ascends apart names j ≡ true) →
    ascending (profiles_of apart n names bs) ≡ true
unfolding profiles_of ascending
ascending_all apart zero names bs each = refl
ascending_all apart (suc zero) names bs each = refl
ascending_all apart (suc (suc n)) names bs each =
    (λ k. (sym (next_zero apart names) ∙ each 0 (omega arith)) k
    && ascending_all apart (suc n) (drop apart names) (drop 32 bs) (λ j h. sym (next_suc apart names j) ∙ each (suc j) (omega arith)) k)

pub ascending_not : (apart n : ℕ) (names bs : List ℕ) (j : ℕ) → suc j < n → next_ascends apart names j ≡ false →
    ascending (profiles_of apart n names bs) ≡ false
unfolding profiles_of ascending
ascending_not apart zero names bs j h e = absurd (omega arith)
ascending_not apart (suc zero) names bs j h e = absurd (omega arith)
ascending_not apart (suc (suc n)) names bs zero h e =
    ap (λ (t : Bool). t && ascending (profiles_of apart (suc n) (drop apart names) (drop 32 bs))) (sym (next_zero apart names) ∙ e)
ascending_not apart (suc (suc n)) names bs (suc j) h e =
    ap (λ (t : Bool). before (take 16 names) (take 16 (drop apart names)) && t)
    (ascending_not apart (suc n) (drop apart names) (drop 32 bs) j (omega arith) (sym (next_suc apart names j) ∙ e))
    ∙ and-false (before (take 16 names) (take 16 (drop apart names)))

-- ---- bodies, index and pack

pub bodies_of : (apart n : ℕ) (names bs : List ℕ) → bodies (profiles_of apart n names bs) ≡ take (32 * n) bs
unfolding profiles_of bodies
bodies_of apart zero names bs = refl
bodies_of apart (suc n) names bs =
    let e : 32 + 32 * n ≡ 32 * suc n = omega arith in
    ap (λ (l : List ℕ). take 32 bs ++ l) (bodies_of apart n (drop apart names) (drop 32 bs)) ∙ sym (take-add 32 (32 * n) bs) ∙ ap (λ (k : ℕ). take k bs) e

pub length_bodies : (apart n : ℕ) (names bs : List ℕ) → 32 * n ≤ length bs → length (bodies (profiles_of apart n names bs)) ≡ 32 * n
length_bodies apart n names bs room = ap length (bodies_of apart n names bs) ∙ length-take-le (32 * n) bs room

-- One more profile adds its entry behind the others.
pub index_next : (offset apart n : ℕ) (names bs : List ℕ) →
    index offset (profiles_of apart (suc n) names bs) ≡ index offset (profiles_of apart n names bs) ++ (name_at apart names n ++ four_bytes (offset + 32 * n))
unfolding profiles_of index
index_next offset apart zero names bs =
    (λ k. sym (name_zero apart names) k ++ (four_bytes (sym (add-zero offset) k) ++ []))
    ∙ ap (λ (l : List ℕ). name_at apart names 0 ++ l) (append-nil (four_bytes (offset + 32 * 0)))
index_next offset apart (suc n) names bs =
    let e : offset + 32 + 32 * n ≡ offset + 32 * suc n = omega arith in
    let rest = index (offset + 32) (profiles_of apart n (drop apart names) (drop 32 bs)) in
    ap (λ (l : List ℕ). take 16 names ++ (four_bytes offset ++ l)) (index_next (offset + 32) apart n (drop apart names) (drop 32 bs))
    ∙ (λ k. take 16 names ++ (four_bytes offset ++ (rest ++ (sym (name_suc apart names n) k ++ four_bytes (e k)))))
    ∙ simp append_assoc

-- The names stand whole, as far as there are n of them.
abbrev pub Whole : ℕ → ℕ → List ℕ → Type 0
Whole apart n names = (j : ℕ) → j < n → apart * j + 16 ≤ length names

pub whole_rest : (apart n : ℕ) (names : List ℕ) → Whole apart (suc n) names → Whole apart n (drop apart names)
whole_rest apart n names whole j h = simp length-drop (omega (arith, whole (suc j) (omega arith), mul-suc apart j))

-- The names of a list of profiles, each followed by what `between` makes of the offset of its body: nothing, or as in the index the four bytes of it.
unfoldable pub spaced : (ℕ → List ℕ) → ℕ → List Profile → List ℕ
spaced between offset [] = []
spaced between offset (p ∷ ps) = p.name ++ (between offset ++ spaced between (offset + 32) ps)

pub index_spaced : (offset : ℕ) (ps : List Profile) → index offset ps ≡ spaced four_bytes offset ps
unfolding index spaced
index_spaced offset [] = refl
index_spaced offset (p ∷ ps) = ap (λ (l : List ℕ). p.name ++ (four_bytes offset ++ l)) (index_spaced (offset + 32) ps)

pub length_four : (n : ℕ) → length (four_bytes n) ≡ 4
unfolding four_bytes
length_four n = refl

pub length_spaced : (between : ℕ → List ℕ) (width : ℕ) → ((k : ℕ) → length (between k) ≡ width) → (offset apart n : ℕ) (names bs : List ℕ) → Whole apart n names →
    length (spaced between offset (profiles_of apart n names bs)) ≡ (16 + width) * n
unfolding profiles_of spaced
length_spaced between width each offset apart zero names bs whole = sym (mul-zero (16 + width))
length_spaced between width each offset apart (suc n) names bs whole =
    let first = whole 0 (omega arith) in
    let rest = spaced between (offset + 32) (profiles_of apart n (drop apart names) (drop 32 bs)) in
    let name_size : length (take 16 names) ≡ 16 = length-take-le 16 names (omega (arith, mul-zero apart)) in
    let rest-size = length_spaced between width each (offset + 32) apart n (drop apart names) (drop 32 bs) (whole_rest apart n names whole) in
    length-append (take 16 names) (between offset ++ rest)
    ∙ ap (λ (k : ℕ). length (take 16 names) + k) (length-append (between offset) rest)
    ∙ omega (arith, each offset)

pub length_index : (offset apart n : ℕ) (names bs : List ℕ) → Whole apart n names → length (index offset (profiles_of apart n names bs)) ≡ 20 * n
length_index offset apart n names bs whole =
    ap length (index_spaced offset (profiles_of apart n names bs)) ∙ length_spaced four_bytes 4 length_four offset apart n names bs whole

pub length_trailer : (n : ℕ) → length (trailer n) ≡ 12
unfolding trailer four_bytes
length_trailer n = refl

pub length_packed : (apart n : ℕ) (names bs : List ℕ) → Whole apart n names → 32 * n ≤ length bs → length (packed (profiles_of apart n names bs)) ≡ 52 * n + 12
unfolding packed
length_packed apart n names bs whole room =
    let ps = profiles_of apart n names bs in
    let b = length_bodies apart n names bs room in
    let i = length_index 0 apart n names bs whole in
    let t = length_trailer (length ps) in
    length-append (bodies ps) (index 0 ps ++ trailer (length ps))
    ∙ ap (λ (k : ℕ). length (bodies ps) + k) (length-append (index 0 ps) (trailer (length ps)))
    ∙ omega arith
