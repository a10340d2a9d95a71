-- Laws of the held bytes that CalcCRC absorbs: one byte after the other, and the CRC register that is stored then.
-- Assumes nothing.
use Prim.Native.Nat.{ℕ, ◌+◌, ◌%◌, ◌<◌, ◌≤◌}
use native.Mathlib.Omega.{arith}
use mathlib.Core.Path.{◌≡◌, refl, sym, ap, ◌∙◌}
use mathlib.Core.List.{List}
use lib.Dec.{lit<}
use lib.ListN.{get_or, drop, set}
use Rattle.crc.specs.Checksum.{taps_of, absorbed, absorbed_all}
use Rattle.crc.proofs.Laws.{next_byte, no_byte}
use Rattle.machine.specs.State.{Machine, with_checksum}
use Rattle.machine.specs.Commands.{checksum_taken}
use Rattle.state.specs.View.{at, held_from, view, view_of, with_numbers}
use Rattle.state.specs.declared.Chip.{Chip}
use Rattle.state.specs.Turns.{Counts, Turns}
use Rattle.state.proofs.RingLaws.{held_length, held_at}
use Rattle.state.proofs.StoreLaws.{set_number}

-- The next byte is absorbed, and the last.
pub absorb_turn : (mode next : ℕ) (slots : List ℕ) (p n i : ℕ) → i < n →
    absorbed_all mode (absorbed mode next (get_or slots ((p + i) % 64) 0)) (drop (i + 1) (held_from slots p n)) ≡ absorbed_all mode next (drop i (held_from slots p n))
absorb_turn mode next slots p n i h =
    ap (λ (b : ℕ). absorbed_all mode (absorbed mode next b) (drop (i + 1) (held_from slots p n))) (sym (held_at slots p n i h))
    ∙ next_byte (taps_of mode) next (held_from slots p n) i (omega (arith, held_length slots p n))

pub all_absorbed : (mode next : ℕ) (slots : List ℕ) (p n i : ℕ) → n ≤ i → i ≤ n → next ≡ absorbed_all mode next (drop i (held_from slots p n))
all_absorbed mode next slots p n i most least = sym (no_byte (taps_of mode) next (held_from slots p n) i (omega (arith, held_length slots p n)))

-- The held bytes are in the checksum, and held still.
abbrev pub summed : Machine → Machine
summed m = with_checksum (checksum_taken m).checksum m

-- The register after all held bytes is stored.
pub sum_stored : (c : Chip) (n x : ℕ) → Counts (at c.state 13) (at c.state 14) n → x ≡ absorbed_all (at c.state 5) (at c.numbers 0) (held_from c.slots (at c.state 13) n) →
    Turns summed c (with_numbers (set c.numbers 0 x) c)
unfolding view_of
sum_stored c n x p is sizes =
    set_number summed 0 x c (lit< tt) refl sizes
    (ap (λ (k : ℕ). with_checksum (record { register = k; mode = at c.state 5 }) (view c)) (is ∙ ap (λ (k : ℕ). absorbed_all (at c.state 5) (at c.numbers 0) (held_from c.slots (at c.state 13) k)) p.counted))
