-- The frame sent, at the front of a buffer: what is held, with its checksum or without.
-- Assumes nothing.
use Prim.Native.Nat.{ℕ, ◌%◌, ◌/◌, ◌<◌}
use native.Mathlib.Omega.{arith}
use mathlib.Core.Path.{◌≡◌, sym, ap, ◌∙◌, subst}
use mathlib.Core.Bool.{Bool, false, cond, and-false, ◌&&◌}
use mathlib.Core.List.{List, [], ◌++◌, append-nil}
use lib.Dec.{eqb}
use lib.ListN.{take}
use borrow.Author.Tests.{eq-eqb, ne_eqb}
use Rattle.bits.specs.Bits.{bit, bit_set}
use Rattle.machine.specs.State.{Machine}
use Rattle.machine.specs.Fifo.{register_at}
use Rattle.machine.specs.Frames.{crc_bytes, tx_last_bits, frame_sent}
use Rattle.event_frame_take.specs.Front.{Put}
use Rattle.event_frame_take.proofs.FrontLaws.{put_over}

-- The frame, by whether a checksum is added.
abbrev frame : Machine → Bool → List ℕ
frame m added = m.held ++ cond added (crc_bytes m m.held) []

-- What is held is at the front of a buffer.
module _ (m : Machine) (buffer now : List ℕ) (n : ℕ) (p : Put m.held buffer n now) where
  sent_plain : (bit_set (register_at m 0x22) 2 && eqb (tx_last_bits m) 0) ≡ false → Put (frame_sent m) buffer n now
  sent_plain none = subst (λ (l : List ℕ). Put l buffer n now) (sym (ap (frame m) none ∙ append-nil m.held)) p

  -- No checksum is added, by 22h.
  pub sent_unmarked : register_at m 0x22 / 4 % 2 ≡ 0 → Put (frame_sent m) buffer n now
  sent_unmarked off = sent_plain (ap (λ (t : Bool). t && eqb (tx_last_bits m) 0) (ne_eqb (bit (register_at m 0x22) 2) 1 (λ e. omega arith)))

  -- None is, since the last byte is sent in part.
  pub sent_part : 0 < tx_last_bits m → Put (frame_sent m) buffer n now
  sent_part some =
      let marked = bit_set (register_at m 0x22) 2 in sent_plain (ap (λ (t : Bool). marked && t) (ne_eqb (tx_last_bits m) 0 (λ e. omega arith)) ∙ and-false marked)

  -- One is, and it has been put behind what is held.
  pub sent_marked : (r : ℕ) (filled : List ℕ) → register_at m 0x22 / 4 % 2 ≡ 1 → tx_last_bits m ≡ 0 →
      Put (take n now ++ crc_bytes m (take n now)) now r filled → Put (frame_sent m) buffer r filled
  sent_marked r filled on none q =
      subst (λ (l : List ℕ). Put l buffer r filled)
      (sym (ap (frame m) (ap (λ (t : Bool). t && eqb (tx_last_bits m) 0) (eq-eqb (bit (register_at m 0x22) 2) 1 on) ∙ eq-eqb (tx_last_bits m) 0 none)))
      (put_over m.held buffer (crc_bytes m) now n r filled p q)
