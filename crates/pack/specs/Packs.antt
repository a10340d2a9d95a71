-- What holds of packs, for every list of names and bodies and all bytes.
-- Assumes nothing.
use Rattle.std.specs.Prelude.{ℕ, ◌+◌, ◌*◌, ◌<◌, ◌≤◌, ◌≡◌, List, [], length, get_or}
use Rattle.pack.specs.Layout.{Profile}
use Rattle.pack.specs.Outcome.{done, refused}
use Rattle.pack.specs.Write.{body_count, profiles_of, writing}
use Rattle.pack.specs.Read.{reading, name_in, body_in}
use Rattle.pack.specs.Find.{finding, halved}

-- Profile number i of a list; beyond its end one that is empty.
abbrev pub profile_at : List Profile → ℕ → Profile
profile_at ps i = get_or ps i (record { name = []; body = [] })

-- Names and bodies of which the writer, given enough room, writes these bytes.
pub record WrittenFrom (bytes : List ℕ) : Type 0 where
  pub names : List ℕ
  pub bodies : List ℕ
  pub written : writing names bodies (length bytes) ≡ done bytes

pub record Packs : Type 0 where
  -- Reading a written pack gives the list that was written.
  pub read_back : (names bodies : List ℕ) (room : ℕ) {pack : List ℕ} → writing names bodies room ≡ done pack →
      reading pack ≡ done (profiles_of 16 (body_count bodies) names bodies)
  -- What the reader accepts, the writer writes; and a pack has the size that its number of profiles says.
  pub accepted_written : (bytes : List ℕ) {ps : List Profile} → reading bytes ≡ done ps → WrittenFrom bytes
  pub size : (bytes : List ℕ) {ps : List Profile} → reading bytes ≡ done ps → (length bytes ≡ 52 * length ps + 12) × (length ps ≤ 256)
  -- What the writer does not write, with any names, bodies and room, the reader refuses, with 14 and no other number.
  pub else_refused : (bytes : List ℕ) → (WrittenFrom bytes → ⊥) → reading bytes ≡ refused 14
  -- Names and bodies by their numbers are those of the list.
  pub parts : (bytes : List ℕ) {ps : List Profile} → reading bytes ≡ done ps → (i : ℕ) → i < length ps →
      (name_in bytes i ≡ (profile_at ps i).name) × (body_in bytes i ≡ (profile_at ps i).body)
  -- Finding the name of a profile gives the number of that profile, and so its body.
  pub found : (bytes : List ℕ) {ps : List Profile} → reading bytes ≡ done ps → (i : ℕ) → i < length ps → finding bytes (profile_at ps i).name ≡ done i
  -- What is found has the name.
  pub no_other : (bytes : List ℕ) {ps : List Profile} → reading bytes ≡ done ps → (name : List ℕ) (i : ℕ) → finding bytes name ≡ done i →
      (i < length ps) × ((profile_at ps i).name ≡ name)
  -- 15 exactly when no profile has the name.
  pub missing : (bytes : List ℕ) {ps : List Profile} → reading bytes ≡ done ps → (name : List ℕ) →
      ((i : ℕ) → i < length ps → (profile_at ps i).name ≡ name → ⊥) → finding bytes name ≡ refused 15
  pub only_missing : (bytes : List ℕ) {ps : List Profile} → reading bytes ≡ done ps → (name : List ℕ) → finding bytes name ≡ refused 15 →
      (i : ℕ) → i < length ps → (profile_at ps i).name ≡ name → ⊥
  -- A name of another length than 16 is never there.
  pub other_length : (bytes : List ℕ) {ps : List Profile} → reading bytes ≡ done ps → (name : List ℕ) → (length name ≡ 16 → ⊥) →
      finding bytes name ≡ refused 15
  -- 14 goes before 15.
  pub no_pack : (bytes : List ℕ) → reading bytes ≡ refused 14 → (name : List ℕ) → finding bytes name ≡ refused 14
  -- In a pack, halving with nine comparisons finds what there is to find.
  pub by_halving : (bytes : List ℕ) {ps : List Profile} → reading bytes ≡ done ps → (name : List ℕ) → halved bytes name ≡ finding bytes name
