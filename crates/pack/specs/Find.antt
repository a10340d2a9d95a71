-- Finding a profile of a pack by its name (manual 11.9): what is found, and the halving by which it is found.
-- Assumes nothing.
use Rattle.std.specs.Prelude.{ℕ, zero, suc, ◌+◌, ◌*◌, ◌/◌, cond, not, List, [], ◌∷◌, ltb}
use Rattle.pack_order.specs.Order.{compared, same}
use Rattle.std.specs.declared.cmp.Ordering.{Ordering}
use Rattle.std.specs.declared.cmp.Ordering.TheVariants.{Less, Equal, Greater}
use Rattle.pack.specs.Layout.{Profile}
use Rattle.pack.specs.Outcome.{Outcome, done, refused, refuse_if}
use Rattle.pack.specs.Read.{count_in, profiles_in, is_pack, name_in, body_in}

-- Where in a list of profiles the name stands, the first having number i. 15: nowhere.
unfoldable pub place_from : ℕ → List ℕ → List Profile → Outcome ℕ
place_from i name [] = refused 15
place_from i name (p ∷ ps) = cond (same p.name name) (done i) (place_from (suc i) name ps)

-- The number of the profile that has the name. 14: the bytes are no pack, which is tested before.
unfoldable pub finding : List ℕ → List ℕ → Outcome ℕ
finding bytes name = refuse_if (not (is_pack bytes)) 14 (place_from 0 name (profiles_in bytes))

-- What is handed back: that profile's body as a part of the bytes; a refusal hands back nothing, the empty part.
abbrev pub part_found : List ℕ → Outcome ℕ → List ℕ
part_found bytes (done i) = body_in bytes i
part_found bytes (refused number) = []

-- As a number what is found is the offset of the body.
abbrev pub offset_of : ℕ → ℕ
offset_of i = 32 * i

-- What a comparison decides: the place is found, or the search goes on behind it, or before it.
abbrev pub by_order : Ordering → ℕ → Outcome ℕ → Outcome ℕ → Outcome ℕ
by_order Equal middle behind ahead = done middle
by_order Less middle behind ahead = behind
by_order Greater middle behind ahead = ahead

-- The same by halving, with at most so many comparisons: of the entries from `low` up to, not including, `high` the middle one is compared.
unfoldable pub halving : ℕ → List ℕ → List ℕ → ℕ → ℕ → Outcome ℕ
halving zero bytes name low high = refused 15
halving (suc comparisons) bytes name low high =
    let middle = (low + high) / 2 in
    cond (ltb low high)
    (by_order (compared (name_in bytes middle) name) middle
    (halving comparisons bytes name (middle + 1) high)
    (halving comparisons bytes name low middle))
    (refused 15)

-- The most comparisons that a find makes. They are enough for a pack.
abbrev pub most_compared : ℕ
most_compared = 9

-- Of bytes that are no pack this is the answer too, by the entries where a pack of their length has them.
abbrev pub halved : List ℕ → List ℕ → Outcome ℕ
halved bytes name = halving most_compared bytes name 0 (count_in bytes)
