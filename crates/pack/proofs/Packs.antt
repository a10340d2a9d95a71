-- The theorems of packs.
-- Assumes nothing.
use mathlib.Core.Path.{◌≡◌, refl, sym, ap, ◌∙◌}
use mathlib.Core.Bool.{Bool, true, false, not}
use mathlib.Core.List.{List, [], append-nil}
use Prim.Native.Nat.{ℕ, ◌+◌, ◌*◌, ◌<◌, ◌≤◌}
use native.Mathlib.Nat.{zero-add}
use native.Mathlib.Omega.{arith}
use lib.ListN.{length}
use Rattle.pack_order.specs.Order.{compared}
use Rattle.pack.specs.Layout.{Profile, bodies, packed}
use Rattle.pack.specs.Outcome.{done, refused, refuse_if}
use Rattle.pack.specs.Write.{body_count, profiles_of, ascending, writing}
use Rattle.pack.specs.Read.{count_in, profiles_in, is_pack, reading, name_in, body_in}
use Rattle.pack.specs.Find.{place_from, finding, most_compared, halved}
use Rattle.pack.specs.Packs.{profile_at, WrittenFrom, Packs}
use Rattle.pack.proofs.Outcomes.{done_not_refused}
use Rattle.pack.proofs.Places.{spaced, length_spaced, length_bodies}
use Rattle.pack.proofs.Count.{count_small}
use Rattle.pack.proofs.Finding.{ascending_less, place_at, place_missing, place_done}
use Rattle.pack.proofs.Writing.{Writable, names_whole, written, writable}
use Rattle.pack.proofs.Reading.{
  index_in,
  index_whole,
  count_room,
  length_in,
  profile_in,
  name_size,
  read_again,
  read_packed,
  pack_parts,
  is_pack_lem,
  pack_size,
  accepts,
  refuses,
  accepted,
  finding_in,
}
use Rattle.pack.proofs.Halving.{halving_finds}

-- ---- written and read

reads_back : (names bs : List ℕ) (room : ℕ) {pack : List ℕ} → writing names bs room ≡ done pack → reading pack ≡ done (profiles_of 16 (body_count bs) names bs)
reads_back names bs room e =
    let n = body_count bs in
    let w = writable names bs room e in
    let ps = profiles_of 16 n names bs in
    let list : profiles_in (packed ps) ≡ ps = read_packed 16 n names bs (names_whole n names bs w.0) (omega (arith, w.0.bodies_size)) w.0.few in
    let whole : is_pack (packed ps) ≡ true = is_pack_lem (packed ps) (ap ascending list ∙ w.0.ascends) (ap packed list) in
    ap reading (sym w.1) ∙ accepts (packed ps) whole ∙ ap done list

-- The names of a pack by themselves, and its bodies, are what it is written from.
written_from : (bytes : List ℕ) → is_pack bytes ≡ true → WrittenFrom bytes
unfolding profiles_in
written_from bytes e =
    let n = count_in bytes in
    let ps = profiles_in bytes in
    let nothing : ℕ → List ℕ = λ k. [] in
    let names = spaced nothing 0 ps in
    let again : profiles_of 16 n names (bodies ps) ≡ ps =
    (λ k. profiles_of 16 n (sym (append-nil names) k) (sym (append-nil (bodies ps)) k))
    ∙ read_again nothing 0 (λ k. refl) 0 20 n (index_in bytes) bytes [] [] (index_whole bytes) (count_room bytes) in
    let w : Writable n names (bodies ps) =
    record {
      names_size = length_spaced nothing 0 (λ k. refl) 0 20 n (index_in bytes) bytes (index_whole bytes);
      bodies_size = length_bodies 20 n (index_in bytes) bytes (count_room bytes);
      few = count_small bytes;
      ascends = ap ascending again ∙ (pack_parts bytes e).0;
    } in
    record {
      names = names;
      bodies = bodies ps;
      written = written n names (bodies ps) w (length bytes) (omega (arith, pack_size bytes e)) ∙ ap (λ (l : List Profile). done (packed l)) again ∙ ap done (pack_parts bytes e).1;
    }

else_no_pack : (bytes : List ℕ) → (WrittenFrom bytes → ⊥) → reading bytes ≡ refused 14
else_no_pack bytes never = go (is_pack bytes) refl
  where
    go : (t : Bool) → is_pack bytes ≡ t → reading bytes ≡ refused 14
    go true e = absurd (never (written_from bytes e))
    go false e = refuses bytes e

-- ---- the profiles of a pack

module _ (bytes : List ℕ) {ps : List Profile} (r : reading bytes ≡ done ps) where
  number : length ps ≡ count_in bytes
  number = ap length (accepted bytes r).1 ∙ length_in bytes

  profile : (i : ℕ) → i < length ps → profile_at ps i ≡ record { name = name_in bytes i; body = body_in bytes i }
  profile i h = ap (λ (l : List Profile). profile_at l i) (accepted bytes r).1 ∙ profile_in bytes i (omega (arith, number))

  name_of : (i : ℕ) → i < length ps → name_in bytes i ≡ (profile_at ps i).name
  name_of i h = sym (ap (λ (p : Profile). p.name) (profile i h))

  body_of : (i : ℕ) → i < length ps → body_in bytes i ≡ (profile_at ps i).body
  body_of i h = sym (ap (λ (p : Profile). p.body) (profile i h))

  sized : (length bytes ≡ 52 * length ps + 12) × (length ps ≤ 256)
  sized = (omega (arith, pack_size bytes (accepted bytes r).0, number), omega (arith, count_small bytes, number))

  -- ---- found

  ordered : ascending ps ≡ true
  ordered = ap ascending (accepted bytes r).1 ∙ (pack_parts bytes (accepted bytes r).0).0

  searched : (name : List ℕ) → finding bytes name ≡ place_from 0 name ps
  searched name = finding_in bytes name (accepted bytes r).0 ∙ ap (place_from 0 name) (sym (accepted bytes r).1)

  there : (i : ℕ) → i < length ps → finding bytes (profile_at ps i).name ≡ done i
  there i h = searched (profile_at ps i).name ∙ place_at 0 ps ordered i h ∙ ap done (zero-add i)

  has_name : (name : List ℕ) (i : ℕ) → finding bytes name ≡ done i → (i < length ps) × ((profile_at ps i).name ≡ name)
  has_name name i f =
      let found = place_done 0 name ps i (sym (searched name) ∙ f) in
      let at : found.0 ≡ i = sym (zero-add found.0) ∙ found.1 in
      (omega (arith, found.2), ap (λ (k : ℕ). (profile_at ps k).name) (sym at) ∙ found.3)

  nowhere : (name : List ℕ) → ((i : ℕ) → i < length ps → (profile_at ps i).name ≡ name → ⊥) → finding bytes name ≡ refused 15
  nowhere name none = searched name ∙ place_missing 0 name ps none

  not_there : (name : List ℕ) → finding bytes name ≡ refused 15 → (i : ℕ) → i < length ps → (profile_at ps i).name ≡ name → ⊥
  not_there name f i h is = done_not_refused (there i h) (ap (finding bytes) is ∙ f)

  only_sixteen : (name : List ℕ) → (length name ≡ 16 → ⊥) → finding bytes name ≡ refused 15
  only_sixteen name other = nowhere name (λ i h is. other (ap length (sym (name_of i h ∙ is)) ∙ name_size bytes i (omega (arith, number))))

  halving_enough : (name : List ℕ) → halved bytes name ≡ finding bytes name
  halving_enough name =
      halving_finds bytes name
      (λ i j l h.
      (λ k. compared (name_of i (omega (arith, number)) k) (name_of j (omega (arith, number)) k)) ∙ ascending_less ps ordered i j l (omega (arith, number)))
      (finding bytes name)
      (λ i h is. ap (finding bytes) (sym (sym (name_of i (omega (arith, number))) ∙ is)) ∙ there i (omega (arith, number)))
      (λ none. nowhere name (λ i h is. none i (omega (arith, number)) (name_of i h ∙ is)))
      most_compared 0 (count_in bytes) (omega arith) (omega (arith, count_small bytes)) (λ i h is. (omega arith, h))

-- ---- no pack

first_no_pack : (bytes : List ℕ) → reading bytes ≡ refused 14 → (name : List ℕ) → finding bytes name ≡ refused 14
unfolding finding
first_no_pack bytes r name = go (is_pack bytes) refl
  where
    go : (t : Bool) → is_pack bytes ≡ t → refuse_if (not t) 14 (place_from 0 name (profiles_in bytes)) ≡ refused 14
    go true e = absurd (done_not_refused (accepts bytes e) r)
    go false e = refl

pub packs : Packs
packs =
    record {
      read_back = reads_back;
      accepted_written = λ bytes r. written_from bytes (accepted bytes r).0;
      size = sized;
      else_refused = else_no_pack;
      parts = λ bytes r i h. (name_of bytes r i h, body_of bytes r i h);
      found = there;
      no_other = has_name;
      missing = nowhere;
      only_missing = not_there;
      other_length = only_sixteen;
      no_pack = first_no_pack;
      by_halving = halving_enough;
    }
