-- A trailer by its three parts, of four bytes each.
-- Assumes nothing.
use mathlib.Core.Path.{◌≡◌, sym, ap, ◌∙◌}
use mathlib.Core.List.{List, ◌++◌}
use Prim.Native.Nat.{ℕ, ◌*◌}
use native.Mathlib.Omega.{arith}
use lib.ListN.{length, take, drop, take-append-drop, length-drop}
use lib.Seq.{drop-drop, take_all}
use Rattle.bits.specs.Text.{ascii}
use Rattle.pack.specs.Layout.{four_bytes, trailer}

-- The offset of the index, the number of profiles and the mark, each by place.
pub record Parts (bytes : List ℕ) (n : ℕ) : Type 0 where
  pub offset : take 4 bytes ≡ four_bytes (32 * n)
  pub number : take 4 (drop 4 bytes) ≡ four_bytes n
  pub mark : take 4 (drop 8 bytes) ≡ ascii "RC53"

pub parts_of : (bytes : List ℕ) (n : ℕ) → bytes ≡ trailer n → Parts bytes n
unfolding trailer four_bytes
parts_of bytes n is = record {
  offset = ap (take 4) is;
  number = ap (λ (l : List ℕ). take 4 (drop 4 l)) is;
  mark = ap (λ (l : List ℕ). take 4 (drop 8 l)) is;
}

pub of_parts : (bytes : List ℕ) (n : ℕ) → length bytes ≡ 12 → Parts bytes n → bytes ≡ trailer n
unfolding trailer
of_parts bytes n size parts =
    let end : take 4 (drop 8 bytes) ≡ drop 8 bytes = take_all 4 (drop 8 bytes) (simp length-drop (omega arith)) in
    let behind : drop 4 bytes ≡ four_bytes n ++ ascii "RC53" =
    sym (take-append-drop 4 (drop 4 bytes)) ∙ (λ k. parts.number k ++ (drop-drop 4 4 bytes ∙ sym end ∙ parts.mark) k)
    in
    sym (take-append-drop 4 bytes) ∙ (λ k. parts.offset k ++ behind k)
