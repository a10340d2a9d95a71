use mathlib.Core.Path.{◌≡◌}
use lib.ListN.{drop}
use Rattle.crc.specs.Checksum.{absorbed_all}
use Rattle.state.specs.View.{held_from}
use Rattle.command_calc_crc.proofs.absorbed.Given as goal

abbrev pub invariant-loop-i : goal.invariant-loop-i
invariant-loop-i l = absorbed_all l.mode l.next (drop l.i (held_from l.slots l.position l.count)) ≡ absorbed_all l.mode l.register (held_from l.slots l.position l.count)
