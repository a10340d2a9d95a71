-- Reading a pack (manual 11.8). Bytes are a pack exactly when the writer could have written them, all of them: their profiles, read by place and
-- written again, are these bytes.
-- Assumes nothing.
use Rattle.std.specs.Prelude.{ℕ, ◌+◌, ◌-◌, ◌*◌, ◌/◌, Bool, cond, not, ◌&&◌, List, [], eqb, leb, ltb, length, take, drop}
use Rattle.pack_order.specs.Order.{same}
use Rattle.pack.specs.Layout.{Profile, packed}
use Rattle.pack.specs.Outcome.{Outcome, done, refuse_if}
use Rattle.pack.specs.Write.{profiles_of, ascending}

-- How many profiles a pack of so many bytes has: at most 256, and none where no pack has this length.
unfoldable pub count_in : List ℕ → ℕ
count_in bytes =
    let number = (length bytes - 12) / 52 in
    cond (leb number 256 && eqb (length bytes) (52 * number + 12)) number 0

-- The profiles of a pack by place: the bodies from its first byte on, the names in the index behind the bodies.
unfoldable pub profiles_in : List ℕ → List Profile
profiles_in bytes = profiles_of 20 (count_in bytes) (drop (32 * count_in bytes) bytes) bytes

-- Bytes are a pack where the names ascend and the profiles, written again, are these bytes.
unfoldable pub is_pack : List ℕ → Bool
is_pack bytes = ascending (profiles_in bytes) && same (packed (profiles_in bytes)) bytes

-- The list that a pack holds. 14: the bytes are no pack.
unfoldable pub reading : List ℕ → Outcome (List Profile)
reading bytes = refuse_if (not (is_pack bytes)) 14 (done (profiles_in bytes))

-- Name and body number i, from 0 on, as parts of the bytes: by place, whether the bytes are a pack or not, and empty where there is no such number.
unfoldable pub name_in : List ℕ → ℕ → List ℕ
name_in bytes i = cond (ltb i (count_in bytes)) (take 16 (drop (32 * count_in bytes + 20 * i) bytes)) []

unfoldable pub body_in : List ℕ → ℕ → List ℕ
body_in bytes i = cond (ltb i (count_in bytes)) (take 32 (drop (32 * i) bytes)) []
