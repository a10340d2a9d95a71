-- Bytes of a pack's length are one where their trailer, their offsets and the order of their names are right.
-- Assumes nothing.
use mathlib.Core.Path.{◌≡◌, refl, sym, ap, ◌∙◌}
use mathlib.Core.Bool.{Bool, true, false, ◌&&◌, and-true, and-false, false≢true}
use mathlib.Core.List.{List, ◌∷◌, ◌++◌}
use Prim.Native.Nat.{ℕ, zero, suc, ◌+◌, ◌*◌, ◌≤◌}
use native.Mathlib.Omega.{arith}
use lib.ListN.{length, take, drop, take-append-drop, length-drop}
use lib.Seq.{drop-drop, take-add, take-take, take_all, drop_at, length-take-le}
use Rattle.bits.proofs.Append.{append_split}
use Rattle.bits.proofs.Both.{both}
use Rattle.pack_order.specs.Order.{same}
use Rattle.pack_order.proofs.Laws.{same_true, true_same, same_false, false_differ}
use Rattle.pack.specs.Layout.{index, trailer, packed}
use Rattle.pack.specs.Write.{profiles_of, ascending}
use Rattle.pack.specs.Read.{count_in, profiles_in, is_pack}
use Rattle.pack.proofs.Places.{bodies_of, length_profiles, length_index}
use Rattle.pack.proofs.Reading.{pack_size}
use Rattle.pack_read.specs.Offsets.{offsets_from}
use Rattle.pack_read.proofs.Offsets.{offsets_index, index_offsets}

-- Names that stand in the first bytes are read there.
pub profiles_first : (n : ℕ) (names bs : List ℕ) → 20 * n ≤ length names → profiles_of 20 n (take (20 * n) names) bs ≡ profiles_of 20 n names bs
unfolding profiles_of
profiles_first zero names bs room = refl
profiles_first (suc n) names bs room =
    let size : 20 * suc n ≡ 20 + 20 * n = omega arith in
    let first : take 16 (take (20 * suc n) names) ≡ take 16 names = take-take 16 (20 * suc n) names (omega arith) in
    let rest : drop 20 (take (20 * suc n) names) ≡ take (20 * n) (drop 20 names) =
    ap (λ (k : ℕ). drop 20 (take k names)) size ∙ ap (drop 20) (take-add 20 (20 * n) names) ∙ drop_at (take 20 names) (take (20 * n) (drop 20 names)) 20 (length-take-le 20 names (omega arith))
    in
    let others = ap (λ (l : List ℕ). profiles_of 20 n l (drop 32 bs)) rest ∙ profiles_first n (drop 20 names) (drop 32 bs) (simp length-drop (omega arith)) in
    λ k. record { name = first k; body = take 32 bs } ∷ others k

-- The entries of an index of n profiles.
abbrev pub entries_of : ℕ → List ℕ → List ℕ
entries_of n bytes = take (20 * n) (drop (32 * n) bytes)

-- Bytes whose length is that of a pack, with the number of their profiles.
module _ (bytes : List ℕ) (size : length bytes ≡ 52 * count_in bytes + 12) where
  -- The profiles are those that stand in the entries.
  pub profiles_entries : profiles_in bytes ≡ profiles_of 20 (count_in bytes) (entries_of (count_in bytes) bytes) bytes
  unfolding profiles_in
  profiles_entries = sym (profiles_first (count_in bytes) (drop (32 * count_in bytes) bytes) bytes (simp length-drop (omega arith)))

  bytes_parts : bytes ≡ take (32 * count_in bytes) bytes ++ (entries_of (count_in bytes) bytes ++ drop (52 * count_in bytes) bytes)
  bytes_parts =
      let n = count_in bytes in
      let e : 32 * n + 20 * n ≡ 52 * n = omega arith in
      sym (take-append-drop (32 * n) bytes)
      ∙ ap (λ (l : List ℕ). take (32 * n) bytes ++ l) (sym (take-append-drop (20 * n) (drop (32 * n) bytes)) ∙ ap (λ (l : List ℕ). entries_of n bytes ++ l) (drop-drop (20 * n) (32 * n) bytes ∙ ap (λ (k : ℕ). drop k bytes) e))

  entries_size : length (entries_of (count_in bytes) bytes) ≡ 20 * count_in bytes
  entries_size = length-take-le (20 * count_in bytes) (drop (32 * count_in bytes) bytes) (simp length-drop (omega arith))

  all_entries : take (20 * count_in bytes) (entries_of (count_in bytes) bytes) ≡ entries_of (count_in bytes) bytes
  all_entries = take_all (20 * count_in bytes) (entries_of (count_in bytes) bytes) (omega (arith, entries_size))

  -- The pack of these profiles has the same bodies, and the index and the trailer of so many profiles.
  packed_parts : packed (profiles_in bytes) ≡ take (32 * count_in bytes) bytes ++ (index 0 (profiles_of 20 (count_in bytes) (entries_of (count_in bytes) bytes) bytes) ++ trailer (count_in bytes))
  unfolding packed
  packed_parts =
      let n = count_in bytes in
      let ps = profiles_of 20 n (entries_of n bytes) bytes in
      ap packed profiles_entries ∙ (λ k. bodies_of 20 n (entries_of n bytes) bytes k ++ (index 0 ps ++ trailer (length_profiles 20 n (entries_of n bytes) bytes k)))

  -- Written again they are the bytes just where index and trailer are.
  pub written_again : index 0 (profiles_of 20 (count_in bytes) (entries_of (count_in bytes) bytes) bytes) ≡ entries_of (count_in bytes) bytes → trailer (count_in bytes) ≡ drop (52 * count_in bytes) bytes →
      packed (profiles_in bytes) ≡ bytes
  written_again same_index same-trailer = packed_parts ∙ (λ k. take (32 * count_in bytes) bytes ++ (same_index k ++ same-trailer k)) ∙ sym bytes_parts

  pub again_written : packed (profiles_in bytes) ≡ bytes →
      (index 0 (profiles_of 20 (count_in bytes) (entries_of (count_in bytes) bytes) bytes) ≡ entries_of (count_in bytes) bytes) × (trailer (count_in bytes) ≡ drop (52 * count_in bytes) bytes)
  again_written is =
      let n = count_in bytes in
      let entries = entries_of n bytes in
      let whole = length_index 0 20 n entries bytes (λ j h. omega (arith, entries_size)) in
      append_split (index 0 (profiles_of 20 n entries bytes)) (trailer n) entries (drop (52 * n) bytes) (whole ∙ sym entries_size)
      (append_split (take (32 * n) bytes) _ (take (32 * n) bytes) _ refl (sym packed_parts ∙ is ∙ bytes_parts)).1

  -- The offsets and the trailer decide it.
  pub judged : (offsets_from 0 (count_in bytes) (entries_of (count_in bytes) bytes) && same (drop (52 * count_in bytes) bytes) (trailer (count_in bytes))) ≡ same (packed (profiles_in bytes)) bytes
  judged = go (offsets_from 0 (count_in bytes) (entries_of (count_in bytes) bytes)) refl (same (drop (52 * count_in bytes) bytes) (trailer (count_in bytes))) refl
    where
      go : (t : Bool) → offsets_from 0 (count_in bytes) (entries_of (count_in bytes) bytes) ≡ t → (u : Bool) → same (drop (52 * count_in bytes) bytes) (trailer (count_in bytes)) ≡ u →
          (t && u) ≡ same (packed (profiles_in bytes)) bytes
      go true et true eu =
          sym (same_true (packed (profiles_in bytes)) bytes (written_again (offsets_index 0 (count_in bytes) (entries_of (count_in bytes) bytes) bytes et ∙ all_entries) (sym (true_same _ _ eu))))
      go true et false eu = sym (same_false (packed (profiles_in bytes)) bytes (λ is. false_differ _ _ eu (sym (again_written is).1)))
      go false et u eu =
          sym (same_false (packed (profiles_in bytes)) bytes
          (λ is. false≢true (sym et ∙ index_offsets 0 (count_in bytes) (entries_of (count_in bytes) bytes) bytes (omega (arith, entries_size)) ((again_written is).0 ∙ sym all_entries))))

-- Bytes of another length are none.
pub other_size : (bytes : List ℕ) → (length bytes ≡ 52 * count_in bytes + 12 → ⊥) → is_pack bytes ≡ false
other_size bytes other = go (is_pack bytes) refl
  where
    go : (t : Bool) → is_pack bytes ≡ t → t ≡ false
    go true is = absurd (other (pack_size bytes is))
    go false is = refl

-- What the reader tests in turn, of bytes whose length is that of a pack. First the trailer, then the offsets; what is left is the order of the names.
module _ (bytes : List ℕ) (size : length bytes ≡ 52 * count_in bytes + 12) where
  pub bad_trailer : same (drop (52 * count_in bytes) bytes) (trailer (count_in bytes)) ≡ false → is_pack bytes ≡ false
  unfolding is_pack
  bad_trailer bad =
      ap (λ (t : Bool). ascending (profiles_in bytes) && t)
      (sym (judged bytes size) ∙ ap (λ (t : Bool). offsets_from 0 (count_in bytes) (entries_of (count_in bytes) bytes) && t) bad ∙ and-false (offsets_from 0 (count_in bytes) (entries_of (count_in bytes) bytes)))
      ∙ and-false (ascending (profiles_in bytes))

  pub bad_offsets : offsets_from 0 (count_in bytes) (entries_of (count_in bytes) bytes) ≡ false → is_pack bytes ≡ false
  unfolding is_pack
  bad_offsets bad =
      ap (λ (t : Bool). ascending (profiles_in bytes) && t) (sym (judged bytes size) ∙ ap (λ (t : Bool). t && same (drop (52 * count_in bytes) bytes) (trailer (count_in bytes))) bad)
      ∙ and-false (ascending (profiles_in bytes))

  pub by_names : same (drop (52 * count_in bytes) bytes) (trailer (count_in bytes)) ≡ true → offsets_from 0 (count_in bytes) (entries_of (count_in bytes) bytes) ≡ true →
      is_pack bytes ≡ ascending (profiles_of 20 (count_in bytes) (entries_of (count_in bytes) bytes) bytes)
  unfolding is_pack
  by_names right-trailer right-offsets =
      (λ k. ascending (profiles_entries bytes size k) && (sym (judged bytes size) ∙ both right-offsets right-trailer) k) ∙ and-true (ascending (profiles_of 20 (count_in bytes) (entries_of (count_in bytes) bytes) bytes))
