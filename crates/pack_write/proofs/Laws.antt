-- Pieces that are stored into a buffer one behind the other.
-- Assumes nothing.
use mathlib.Core.Path.{◌≡◌, sym, ap, ◌∙◌, subst}
use mathlib.Core.List.{List, [], ◌∷◌, ◌++◌, append_assoc}
use Prim.Native.Nat.{ℕ, suc, ◌+◌, ◌-◌, ◌*◌, ◌≤◌}
use native.Mathlib.Nat.{add-zero, zero-add}
use native.Mathlib.Numerals.{add-one}
use native.Mathlib.Omega.{arith}
use lib.ListN.{length, set, take, drop, length-append}
use lib.Seq.{drop-drop, sets, sets-eq}
use borrow.Rule.Slice.PartMut.{put_mid}
use Rattle.pack.specs.Layout.{four_bytes, index}
use Rattle.pack.specs.Write.{profiles_of}
use Rattle.pack.proofs.Places.{index_next}
use Rattle.pack_write.specs.Puts.{Puts}

-- A piece that was copied over as many bytes from `at` on has been stored there.
pub stored : (buffer : List ℕ) (at : ℕ) (piece : List ℕ) → at + length piece ≤ length buffer → put_mid at (at + length piece - at) buffer piece ≡ sets buffer at piece
stored buffer at piece room =
    let size : at + length piece - at ≡ length piece = omega arith in
    (λ k. take at buffer ++ (piece ++ drop (size k) (drop at buffer)))
    ∙ (λ k. take at buffer ++ (piece ++ drop-drop (length piece) at buffer k))
    ∙ sym (append_assoc (take at buffer) piece (drop (at + length piece) buffer))
    ∙ sym (sets-eq piece buffer at room)

-- Two pieces, the second where the first ends, are one.
stored_both : (buffer : List ℕ) (at : ℕ) (first second : List ℕ) → sets (sets buffer at first) (at + length first) second ≡ sets buffer at (first ++ second)
stored_both buffer at [] second = ap (λ (k : ℕ). sets buffer k second) (add-zero at)
stored_both buffer at (a ∷ first) second =
    let e : at + suc (length first) ≡ suc at + length first = omega arith in
    ap (λ (k : ℕ). sets (sets (set buffer at a) (suc at) first) k second) e ∙ stored_both (set buffer at a) (suc at) first second

pub put_both : {first second entry mid exit : List ℕ} {at next end : ℕ} → Puts first entry at mid next → Puts second mid next exit end →
    Puts (first ++ second) entry at exit end
put_both {first} {second} {entry} {mid} {exit} {at} {next} {end} one two =
    record {
      bytes = two.bytes ∙ (λ k. sets (one.bytes k) (one.end k) second) ∙ stored_both entry at first second;
      end = omega (arith, one.end, two.end, length-append first second);
    }

-- The same piece, as another term.
pub as_piece : {a b entry exit : List ℕ} {at next : ℕ} → a ≡ b → Puts a entry at exit next → Puts b entry at exit next
as_piece {a} {b} {entry} {exit} {at} {next} same puts = subst (λ (l : List ℕ). Puts l entry at exit next) same puts

-- One more entry behind an index of i is an index of i + 1.
pub entry_next : (i : ℕ) (names bodies : List ℕ) {offset : List ℕ} → offset ≡ four_bytes (32 * i) →
    index 0 (profiles_of 16 i names bodies) ++ (take (16 * i + 16 - 16 * i) (drop (16 * i) names) ++ offset) ≡ index 0 (profiles_of 16 (i + 1) names bodies)
entry_next i names bodies {offset} is =
    let size : 16 * i + 16 - 16 * i ≡ 16 = omega arith in
    (λ k. index 0 (profiles_of 16 i names bodies) ++ (take (size k) (drop (16 * i) names) ++ (is ∙ ap four_bytes (sym (zero-add (32 * i)))) k))
    ∙ sym (index_next 0 16 i names bodies)
    ∙ ap (λ (n : ℕ). index 0 (profiles_of 16 n names bodies)) (sym (add-one i))
