-- The offsets of an index, judged one after the other.
-- Assumes nothing.
use Rattle.std.specs.Prelude.{ℕ, zero, suc, ◌+◌, Bool, true, ◌&&◌, List, take, drop}
use Rattle.pack_order.specs.Order.{same}
use Rattle.pack.specs.Layout.{four_bytes}

-- In n entries of 20 bytes the last four are the offset of a body: `offset` in the first entry, and 32 more in each that follows.
unfoldable pub offsets_from : ℕ → ℕ → List ℕ → Bool
offsets_from offset zero index = true
offsets_from offset (suc n) index = same (take 4 (drop 16 index)) (four_bytes offset) && offsets_from (offset + 32) n (drop 20 index)
