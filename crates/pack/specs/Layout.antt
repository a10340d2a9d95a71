-- The layout of a pack (manual 11.6). Of n profiles: n bodies of 32 bytes, an index of n entries of 20 bytes, and a trailer of 12: 52 n + 12 bytes.
-- Assumes nothing.
use Rattle.std.specs.Prelude.{ℕ, ◌+◌, ◌*◌, ◌/◌, ◌%◌, List, [], ◌∷◌, ◌++◌, length}
use Rattle.bits.specs.Text.{ascii}

-- A profile of a pack: its name, of 16 bytes, and its body, of 32, which is for registers 10h-2Fh. Any bytes may be either.
pub record Profile : Type 0 where
  pub name : List ℕ
  pub body : List ℕ

-- A number as four bytes, the low one first.
unfoldable pub four_bytes : ℕ → List ℕ
four_bytes n = n % 0x100 ∷ n / 0x100 % 0x100 ∷ n / 0x1_0000 % 0x100 ∷ n / 0x100_0000 % 0x100 ∷ []

-- The bodies, one after the other.
unfoldable pub bodies : List Profile → List ℕ
bodies [] = []
bodies (p ∷ ps) = p.body ++ bodies ps

-- The index: each name, and behind it the offset of the body in the pack. `offset` is that of the first.
unfoldable pub index : ℕ → List Profile → List ℕ
index offset [] = []
index offset (p ∷ ps) = p.name ++ (four_bytes offset ++ index (offset + 32) ps)

-- The trailer of a pack of n profiles: the offset of the index, the number of profiles, and the mark.
unfoldable pub trailer : ℕ → List ℕ
trailer n = four_bytes (32 * n) ++ (four_bytes n ++ ascii "RC53")

-- The pack of a list of profiles.
unfoldable pub packed : List Profile → List ℕ
packed ps = bodies ps ++ (index 0 ps ++ trailer (length ps))
