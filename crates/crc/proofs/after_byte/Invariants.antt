use mathlib.Core.Path.{◌≡◌}
use Prim.Native.Nat.{◌-◌}
use Rattle.crc.specs.Checksum.{after_bits, after_byte}
use Rattle.crc.proofs.after_byte.Given as goal

abbrev pub invariant-loop : goal.invariant-loop
invariant-loop l = after_bits l.taps (8 - l.counter) l.next ≡ after_byte l.taps l.register l.byte
