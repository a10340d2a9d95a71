use mathlib.Core.Path.{◌≡◌}
use lib.ListN.{drop}
use Rattle.crc.specs.Checksum.{absorbed_all}
use Rattle.crc.proofs.absorb_all.Given as goal

abbrev pub invariant-loop-byte : goal.invariant-loop-byte
invariant-loop-byte l = absorbed_all l.redundancy l.next (drop l.byte-index l.bytes) ≡ absorbed_all l.redundancy l.register l.bytes
