-- The checksum of a buffer's first bytes, stored behind them.
-- Assumes nothing.
use Prim.Native.Nat.{ℕ, ◌+◌, ◌-◌, ◌*◌, ◌%◌, ◌/◌, ◌<◌, ◌≤◌}
use native.Mathlib.Numerals.{add-one}
use native.Mathlib.Omega.{arith}
use mathlib.Core.Path.{◌≡◌, refl, ap, ◌∙◌}
use mathlib.Core.Bool.{Bool, true, false, cond, false≢true}
use mathlib.Core.List.{List, [], ◌∷◌, ◌++◌}
use lib.ListN.{length, take, set}
use lib.Seq.{sets}
use borrow.Author.Tests.{ltb-true, eq-eqb, ne_eqb}
use Rattle.bits.specs.Bits.{Bytes, bit}
use Rattle.bits.proofs.Bytes.{bytes_take}
use Rattle.crc.specs.Checksum.{crc8_bit, crc3309_bit, taps8, taps16, after_bytes, checksum}
use Rattle.machine.proofs.WellFormed.Checksum.{started_below, absorbed_below}
use Rattle.event_frame_take.specs.Front.{at_front, Put, checksum_bytes}
use Rattle.event_frame_take.proofs.FrontLaws.{put_behind}

-- A checksum of CRC8 is a byte.
eight_below : (redundancy lsb msb : ℕ) (bytes : List ℕ) → redundancy / 16 % 2 ≡ 1 → lsb < 256 → Bytes bytes → checksum redundancy lsb msb bytes < 256
eight_below redundancy lsb msb bytes eight low all = go (crc8_bit redundancy) (eq-eqb (bit redundancy 4) 1 eight)
  where
    register : Bool → ℕ
    register t = after_bytes (cond t taps8 taps16) (cond t lsb (lsb + 256 * msb)) bytes

    go : (t : Bool) → t ≡ true → cond t (register t) (cond (crc3309_bit redundancy) (0xFFFF - register t) (register t)) < 256
    go true is = ltb-true (register true) 256 (absorbed_below true lsb bytes all (started_below true lsb msb low))
    go false is = absurd (false≢true is)

module _ (redundancy lsb msb : ℕ) (buffer : List ℕ) (end sum : ℕ) (room : end + 2 ≤ length buffer) (is : sum ≡ checksum redundancy lsb msb (take end buffer)) where
  abbrev sum_bytes : List ℕ
  sum_bytes = checksum_bytes redundancy lsb msb (take end buffer)

  -- By its bytes, of which there are at most two.
  put_sum : (vs filled : List ℕ) → length vs ≤ 2 → vs ≡ sum_bytes → filled ≡ sets buffer end vs → Put (take end buffer ++ sum_bytes) buffer (end + length vs) filled
  put_sum vs filled few are stores =
      let p = put_behind buffer vs end (omega arith) in
      record {
        counted = p.counted ∙ ap (λ (l : List ℕ). length (take end buffer ++ l)) are;
        fills = stores ∙ p.fills ∙ ap (λ (l : List ℕ). at_front (take end buffer ++ l) buffer) are;
      }

  -- One byte, for CRC8.
  pub put_one : redundancy / 16 % 2 ≡ 1 → lsb < 256 → Bytes buffer → Put (take end buffer ++ sum_bytes) buffer (end + 1) (set buffer end (sum % 256))
  put_one eight low all =
      let small = eight_below redundancy lsb msb (take end buffer) eight low (bytes_take end buffer all) in
      let byte : sum % 256 ≡ checksum redundancy lsb msb (take end buffer) = omega arith in
      put_sum (sum % 256 ∷ []) (set buffer end (sum % 256)) (omega arith) (simp (byte, eq-eqb (bit redundancy 4) 1 eight)) refl

  -- Else two.
  pub put_two : redundancy / 16 % 2 ≡ 0 → Put (take end buffer ++ sum_bytes) buffer (end + 2) (set (set buffer end (sum % 256)) (end + 1) (sum / 256))
  put_two sixteen =
      put_sum (sum % 256 ∷ sum / 256 ∷ []) (set (set buffer end (sum % 256)) (end + 1) (sum / 256)) (omega arith)
      (simp (is, ne_eqb (bit redundancy 4) 1 (λ e. omega arith)))
      (ap (λ (k : ℕ). set (set buffer end (sum % 256)) k (sum / 256)) (add-one end))
