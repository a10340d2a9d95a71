-- `crc::after_byte` meets its contract: the bits that are left, from what has been reached, give the whole byte's register.
-- Assumes nothing.
use borrow.Author.Rules.{rules}
use mathlib.Core.Path.{refl, ◌∙◌, ap, sym}
use Prim.Native.Nat.{◌+◌, ◌-◌}
use Rattle.crc.specs.Checksum.{after_bits, after_byte}
use Rattle.crc.proofs.Laws.{first_bit, no_bit}
use Rattle.crc.proofs.after_byte.Goals as goal

pub loop-init : goal.loop-init
unfolding after_byte
loop-init c = refl

pub loop-preserved : goal.loop-preserved
loop-preserved c =
    let taps = c.args.taps in
    ap (after_bits taps (8 - (c.loop.counter + 1))) c.after_bit-next.ensures ∙ first_bit taps 8 c.loop.counter c.loop.next (search rules) ∙ c.loop.invariant

pub returns : goal.returns
returns c = sym (no_bit c.args.taps 8 c.loop.counter c.loop.next (search rules)) ∙ c.loop.invariant
