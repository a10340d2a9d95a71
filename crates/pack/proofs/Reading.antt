-- What is read in bytes: profiles by their numbers, those of a written pack, and what is known of bytes that are a pack.
-- Assumes nothing.
use mathlib.Core.Path.{◌≡◌, refl, sym, ap, ◌∙◌}
use mathlib.Core.Bool.{Bool, true, false, not}
use mathlib.Core.List.{List, [], ◌∷◌, ◌++◌, append_assoc}
use Prim.Native.Nat.{ℕ, zero, suc, ◌+◌, ◌*◌, ◌<◌, ◌≤◌}
use native.Mathlib.Nat.{mul-zero}
use native.Mathlib.Omega.{arith}
use lib.ListN.{length, take, drop, length-append, length-drop}
use lib.Seq.{drop-drop, take_at, drop_at, length-take-le}
use borrow.Author.Tests.{lt-ltb, not-false}
use Rattle.bits.proofs.Both.{each}
use Rattle.pack_order.specs.Order.{same}
use Rattle.pack_order.proofs.Laws.{same_true, true_same}
use Rattle.pack.specs.Layout.{Profile, four_bytes, bodies, index, trailer, packed}
use Rattle.pack.specs.Outcome.{done, refused, refuse_if}
use Rattle.pack.specs.Write.{profiles_of, ascending}
use Rattle.pack.specs.Read.{count_in, profiles_in, is_pack, reading, name_in, body_in}
use Rattle.pack.specs.Find.{place_from, finding}
use Rattle.pack.specs.Packs.{profile_at}
use Rattle.pack.proofs.Outcomes.{passed}
use Rattle.pack.proofs.Places.{Whole, whole_rest, spaced, index_spaced, length_four, length_profiles, profile_at_lem, length_bodies, length_packed}
use Rattle.pack.proofs.Count.{count_size, count_of}
use Rattle.pack.proofs.Finding.{place_done, place_refused}

-- ---- profiles by their numbers, in any bytes

-- All bodies are within the bytes.
pub count_room : (bytes : List ℕ) → 32 * count_in bytes ≤ length bytes
count_room bytes = go (count_in bytes) (count_size bytes)
  where
    go : (n : ℕ) → ((i : ℕ) → i < n → length bytes ≡ 52 * n + 12) → 32 * n ≤ length bytes
    go zero size = omega arith
    go (suc n) size = omega (arith, size 0 (omega arith))

-- The index, and what is behind it.
abbrev pub index_in : List ℕ → List ℕ
index_in bytes = drop (32 * count_in bytes) bytes

pub index_whole : (bytes : List ℕ) → Whole 20 (count_in bytes) (index_in bytes)
index_whole bytes j h = simp length-drop (omega (arith, count_size bytes j h))

pub length_in : (bytes : List ℕ) → length (profiles_in bytes) ≡ count_in bytes
unfolding profiles_in
length_in bytes = length_profiles 20 (count_in bytes) (index_in bytes) bytes

pub profile_in : (bytes : List ℕ) (i : ℕ) → i < count_in bytes → profile_at (profiles_in bytes) i ≡ record { name = name_in bytes i; body = body_in bytes i }
unfolding profiles_in name_in body_in
profile_in bytes i h =
    profile_at_lem 20 (count_in bytes) (index_in bytes) bytes i (record { name = []; body = [] }) h
    ∙ rw (drop-drop (20 * i) (32 * count_in bytes) bytes, lt-ltb i (count_in bytes) h)

pub name_size : (bytes : List ℕ) (i : ℕ) → i < count_in bytes → length (name_in bytes i) ≡ 16
unfolding name_in
name_size bytes i h =
    rw (lt-ltb i (count_in bytes) h)
    (length-take-le 16 (drop (32 * count_in bytes + 20 * i) bytes) (simp length-drop (omega (arith, count_size bytes i h))))

-- ---- what was written

-- Names and bodies that were laid out one after the other, with something of the same length behind each name, are read as they were.
pub read_again : (between : ℕ → List ℕ) (width : ℕ) → ((k : ℕ) → length (between k) ≡ width) → (offset apart n : ℕ) (names bs behind rest : List ℕ) →
    Whole apart n names → 32 * n ≤ length bs →
    profiles_of (16 + width) n (spaced between offset (profiles_of apart n names bs) ++ behind) (bodies (profiles_of apart n names bs) ++ rest) ≡ profiles_of apart n names bs
unfolding profiles_of spaced bodies
read_again between width sized offset apart zero names bs behind rest whole room = refl
read_again between width sized offset apart (suc n) names bs behind rest whole room =
    let ps = profiles_of apart n (drop apart names) (drop 32 bs) in
    let others = spaced between (offset + 32) ps in
    let first = whole 0 (omega arith) in
    let name-sized : length (take 16 names) ≡ 16 = length-take-le 16 names (omega (arith, mul-zero apart)) in
    let body-sized : length (take 32 bs) ≡ 32 = length-take-le 32 bs (omega arith) in
    let entry-sized : length (take 16 names ++ between offset) ≡ 16 + width = length-append (take 16 names) (between offset) ∙ omega (arith, sized offset) in
    let by_name : (take 16 names ++ (between offset ++ others)) ++ behind ≡ take 16 names ++ (between offset ++ (others ++ behind)) = simp append_assoc in
    let by-entry : (take 16 names ++ (between offset ++ others)) ++ behind ≡ (take 16 names ++ between offset) ++ (others ++ behind) = simp append_assoc in
    let by-body : (take 32 bs ++ bodies ps) ++ rest ≡ take 32 bs ++ (bodies ps ++ rest) = append_assoc (take 32 bs) (bodies ps) rest in
    (λ k.
    record {
      name = (ap (take 16) by_name ∙ take_at (take 16 names) (between offset ++ (others ++ behind)) 16 name-sized) k;
      body = (ap (take 32) by-body ∙ take_at (take 32 bs) (bodies ps ++ rest) 32 body-sized) k;
    }
    ∷ profiles_of (16 + width) n
    ((ap (drop (16 + width)) by-entry ∙ drop_at (take 16 names ++ between offset) (others ++ behind) (16 + width) entry-sized) k)
    ((ap (drop 32) by-body ∙ drop_at (take 32 bs) (bodies ps ++ rest) 32 body-sized) k))
    ∙ ap (λ (l : List Profile). record { name = take 16 names; body = take 32 bs } ∷ l)
    (read_again between width sized (offset + 32) apart n (drop apart names) (drop 32 bs) behind rest (whole_rest apart n names whole) (simp length-drop (omega arith)))

-- A pack of few enough profiles is read as that list.
pub read_packed : (apart n : ℕ) (names bs : List ℕ) → Whole apart n names → 32 * n ≤ length bs → n ≤ 256 →
    profiles_in (packed (profiles_of apart n names bs)) ≡ profiles_of apart n names bs
unfolding profiles_in packed
read_packed apart n names bs whole room few =
    let ps = profiles_of apart n names bs in
    let behind = trailer (length ps) in
    let count : count_in (packed ps) ≡ n = count_of (packed ps) n few (length_packed apart n names bs whole room) in
    ap (λ (m : ℕ). profiles_of 20 m (drop (32 * m) (packed ps)) (packed ps)) count
    ∙ ap (λ (l : List ℕ). profiles_of 20 n l (packed ps))
    (drop_at (bodies ps) (index 0 ps ++ behind) (32 * n) (length_bodies apart n names bs room) ∙ ap (λ (l : List ℕ). l ++ behind) (index_spaced 0 ps))
    ∙ read_again four_bytes 4 length_four 0 apart n names bs behind (index 0 ps ++ behind) whole room

-- ---- bytes that are a pack

pub pack_parts : (bytes : List ℕ) → is_pack bytes ≡ true → (ascending (profiles_in bytes) ≡ true) × (packed (profiles_in bytes) ≡ bytes)
unfolding is_pack
pack_parts bytes e =
    let two = each (ascending (profiles_in bytes)) (same (packed (profiles_in bytes)) bytes) e in
    (two.0, true_same (packed (profiles_in bytes)) bytes two.1)

pub is_pack_lem : (bytes : List ℕ) → ascending (profiles_in bytes) ≡ true → packed (profiles_in bytes) ≡ bytes → is_pack bytes ≡ true
unfolding is_pack
is_pack_lem bytes ascends whole = rw (ascends, same_true (packed (profiles_in bytes)) bytes whole)

pub pack_size : (bytes : List ℕ) → is_pack bytes ≡ true → length bytes ≡ 52 * count_in bytes + 12
unfolding profiles_in
pack_size bytes e = sym (ap length (pack_parts bytes e).1) ∙ length_packed 20 (count_in bytes) (index_in bytes) bytes (index_whole bytes) (count_room bytes)

-- A pack is accepted, and anything else is refused.
pub accepts : (bytes : List ℕ) → is_pack bytes ≡ true → reading bytes ≡ done (profiles_in bytes)
unfolding reading
accepts bytes e = rw e

pub refuses : (bytes : List ℕ) → is_pack bytes ≡ false → reading bytes ≡ refused 14
unfolding reading
refuses bytes e = rw e

-- What the reader accepts is a pack, and what it answers is the list that stands there.
pub accepted : (bytes : List ℕ) {ps : List Profile} → reading bytes ≡ done ps → (is_pack bytes ≡ true) × (ps ≡ profiles_in bytes)
unfolding reading
accepted bytes e =
    let r = passed (not (is_pack bytes)) 14 (done (profiles_in bytes)) e in
    (not-false (is_pack bytes) r.0, cc r.1)

-- In a pack the name is looked for in its list.
pub finding_in : (bytes name : List ℕ) → is_pack bytes ≡ true → finding bytes name ≡ place_from 0 name (profiles_in bytes)
unfolding finding
finding_in bytes name e = rw e

pub found_within : (bytes name : List ℕ) (i : ℕ) → finding bytes name ≡ done i → i < count_in bytes
unfolding finding
found_within bytes name i e =
    let there = place_done 0 name (profiles_in bytes) i (passed (not (is_pack bytes)) 14 (place_from 0 name (profiles_in bytes)) e).1 in
    omega (arith, there.1, there.2, length_in bytes)

-- Finding is refused with 14 or 15.
pub found_refused : (bytes name : List ℕ) (number : ℕ) → finding bytes name ≡ refused number → (14 ≤ number) × (number ≤ 15)
unfolding finding
found_refused bytes name number e = go (is_pack bytes) e
  where
    go : (t : Bool) → refuse_if (not t) 14 (place_from 0 name (profiles_in bytes)) ≡ refused number → (14 ≤ number) × (number ≤ 15)
    go true e = let is = place_refused 0 name (profiles_in bytes) number e in omega arith
    go false e = let is : 14 ≡ number = cc in omega arith
