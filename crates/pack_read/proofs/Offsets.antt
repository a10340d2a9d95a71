-- The offsets of an index: judged one after the other they say whether the index is that of the profiles that stand in it.
-- Assumes nothing.
use mathlib.Core.Path.{◌≡◌, refl, sym, ap, ◌∙◌}
use mathlib.Core.Bool.{true, ◌&&◌}
use mathlib.Core.List.{List, ◌++◌}
use Prim.Native.Nat.{ℕ, zero, suc, ◌+◌, ◌-◌, ◌*◌, ◌<◌, ◌≤◌}
use native.Mathlib.Omega.{arith}
use lib.ListN.{length, take, drop, length-drop}
use lib.Seq.{drop-drop, take-add, length-take-le}
use Rattle.bits.proofs.Append.{append_split}
use Rattle.bits.proofs.Both.{each}
use Rattle.pack_order.specs.Order.{same}
use Rattle.pack_order.proofs.Laws.{same_true, true_same}
use Rattle.pack.specs.Layout.{four_bytes, index}
use Rattle.pack.specs.Write.{profiles_of}
use Rattle.pack.proofs.Places.{length_four}
use Rattle.pack_read.specs.Offsets.{offsets_from}

-- The entry number i is judged, and those behind it are left.
pub offsets_step : (offset n i : ℕ) (entries : List ℕ) → i < n →
    offsets_from offset (n - i) (drop (20 * i) entries)
    ≡ (same (take 4 (drop (20 * i + 16) entries)) (four_bytes offset) && offsets_from (offset + 32) (n - (i + 1)) (drop (20 * (i + 1)) entries))
unfolding offsets_from
offsets_step offset n i entries h =
    let left : n - i ≡ suc (n - (i + 1)) = omega arith in
    let next : 20 * i + 20 ≡ 20 * (i + 1) = omega arith in
    ap (λ (k : ℕ). offsets_from offset k (drop (20 * i) entries)) left
    ∙ (λ k. same (take 4 (drop-drop 16 (20 * i) entries k)) (four_bytes offset) && offsets_from (offset + 32) (n - (i + 1)) ((drop-drop 20 (20 * i) entries ∙ ap (λ (m : ℕ). drop m entries) next) k))

-- The entries: a name, an offset, and those behind them.
entries_parts : (n : ℕ) (entries : List ℕ) → take (20 * suc n) entries ≡ take 16 entries ++ (take 4 (drop 16 entries) ++ take (20 * n) (drop 20 entries))
entries_parts n entries =
    let size : 20 * suc n ≡ 16 + (4 + 20 * n) = omega arith in
    ap (λ (k : ℕ). take k entries) size
    ∙ take-add 16 (4 + 20 * n) entries
    ∙ ap (λ (l : List ℕ). take 16 entries ++ l) (take-add 4 (20 * n) (drop 16 entries) ∙ ap (λ (l : List ℕ). take 4 (drop 16 entries) ++ take (20 * n) l) (drop-drop 4 16 entries))

-- Where all offsets are right, the index of the profiles that stand in the entries is the entries.
pub offsets_index : (offset n : ℕ) (entries bs : List ℕ) → offsets_from offset n entries ≡ true → index offset (profiles_of 20 n entries bs) ≡ take (20 * n) entries
unfolding offsets_from profiles_of index
offsets_index offset zero entries bs right = refl
offsets_index offset (suc n) entries bs right =
    let both = each (same (take 4 (drop 16 entries)) (four_bytes offset)) (offsets_from (offset + 32) n (drop 20 entries)) right in
    let first : four_bytes offset ≡ take 4 (drop 16 entries) = sym (true_same (take 4 (drop 16 entries)) (four_bytes offset) both.0) in
    let rest = offsets_index (offset + 32) n (drop 20 entries) (drop 32 bs) both.1 in
    (λ k. take 16 entries ++ (first k ++ rest k)) ∙ sym (entries_parts n entries)

-- And only there.
pub index_offsets : (offset n : ℕ) (entries bs : List ℕ) → 20 * n ≤ length entries → index offset (profiles_of 20 n entries bs) ≡ take (20 * n) entries → offsets_from offset n entries ≡ true
unfolding offsets_from profiles_of index
index_offsets offset zero entries bs room is = refl
index_offsets offset (suc n) entries bs room is =
    let others = index (offset + 32) (profiles_of 20 n (drop 20 entries) (drop 32 bs)) in
    let four-size : length (take 4 (drop 16 entries)) ≡ 4 = length-take-le 4 (drop 16 entries) (simp length-drop (omega arith)) in
    let behind = (append_split (take 16 entries) _ (take 16 entries) _ refl (is ∙ entries_parts n entries)).1 in
    let parts = append_split (four_bytes offset) others (take 4 (drop 16 entries)) (take (20 * n) (drop 20 entries)) (length_four offset ∙ sym four-size) behind in
    λ k. same_true (take 4 (drop 16 entries)) (four_bytes offset) (sym parts.0) k && index_offsets (offset + 32) n (drop 20 entries) (drop 32 bs) (simp length-drop (omega arith)) parts.1 k
