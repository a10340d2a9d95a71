-- `crc::after_byte_16` meets its contract: eight bits at once are the high byte moved down and the entry for the low byte. Assumes nothing.
use mathlib.Core.Path.{◌∙◌, ap, sym}
use Prim.Native.Nat.{◌/◌}
use lib.Bits.{bit_xor}
use Rattle.crc.specs.Checksum.{after_byte, taps16}
use Rattle.crc.proofs.Laws.{bits_at_once}
use Rattle.crc.proofs.after_byte_16.Goals as goal

pub returns : goal.returns
unfolding after_byte
returns c =
    let a = c.args in
    let mixed = bit_xor a.register a.byte in
    ap (bit_xor (mixed / 256)) c.entry.ensures ∙ sym (bits_at_once taps16 8 mixed)
