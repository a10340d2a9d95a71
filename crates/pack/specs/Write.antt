-- Writing a pack (manual 11.7), from names and bodies that stand one after the other.
-- Assumes nothing.
use Rattle.std.specs.Prelude.{ℕ, zero, suc, ◌*◌, ◌/◌, Bool, true, not, ◌&&◌, List, [], ◌∷◌, ◌++◌, eqb, ltb, length, take, drop}
use Rattle.pack_order.specs.Order.{before}
use Rattle.pack.specs.Layout.{Profile, packed}
use Rattle.pack.specs.Outcome.{Outcome, done, refused, refuse_if}

-- n profiles, of which the bodies stand one after the other and a name every `apart` bytes: 16 where names stand by themselves, 20 in an index.
unfoldable pub profiles_of : ℕ → ℕ → List ℕ → List ℕ → List Profile
profiles_of apart zero names bodies = []
profiles_of apart (suc n) names bodies =
    record { name = take 16 names; body = take 32 bodies } ∷ profiles_of apart n (drop apart names) (drop 32 bodies)

-- Each name comes before the next one; so no two are the same.
unfoldable pub ascending : List Profile → Bool
ascending [] = true
ascending (p ∷ []) = true
ascending (p ∷ q ∷ ps) = before p.name q.name && ascending (q ∷ ps)

-- How many profiles the bodies are of.
abbrev pub body_count : List ℕ → ℕ
body_count bodies = length bodies / 32

-- There are as many names as bodies, and nothing over.
abbrev pub paired : List ℕ → List ℕ → Bool
paired names bodies = eqb (length names) (16 * body_count bodies) && eqb (length bodies) (32 * body_count bodies)

-- The pack, or why there is none, tested in this order: 16 names and bodies do not pair up, 17 more than 256 profiles, 18 names that do not ascend, 19
-- less room than the pack takes.
unfoldable pub writing : List ℕ → List ℕ → ℕ → Outcome (List ℕ)
writing names bodies room =
    let profiles = profiles_of 16 (body_count bodies) names bodies in
    refuse_if (not (paired names bodies)) 16
    (refuse_if (ltb 256 (body_count bodies)) 17
    (refuse_if (not (ascending profiles)) 18
    (refuse_if (ltb room (length (packed profiles))) 19
    (done (packed profiles)))))

-- A buffer into which it was written: the pack at its front, with the bytes behind it as they were; all as it was where the writing was refused.
unfoldable pub filled : Outcome (List ℕ) → List ℕ → List ℕ
filled (done pack) buffer = pack ++ drop (length pack) buffer
filled (refused number) buffer = buffer
