-- `register_write::modes_written` meets its contract, by whether there is anything to do. Assumes nothing.
use mathlib.Core.Path.{◌∙◌}
use lib.Dec.{lit<}
use Rattle.state.specs.Parts.{clocks_numbers_state}
use Rattle.state.proofs.StageLaws.{programs_any}
use Rattle.register_write.proofs.ModeLaws.{both_off, both_written_lem}
use Rattle.register_write.proofs.modes_written.Goals as goal

pub returns-then-control-v-clause-others : goal.returns-then-control-v-clause-others
returns-then-control-v-clause-others c chip sizes = both_off c.args.v (clocks_numbers_state c.args.chip.now chip) sizes c.if-control-v.true

pub returns-then-control-v-clause-turns : goal.returns-then-control-v-clause-turns
returns-then-control-v-clause-turns c sizes = returns-then-control-v-clause-others c c.args.chip.now sizes

pub returns-clause-others : goal.returns-clause-others
returns-clause-others c chip sizes =
    let old = clocks_numbers_state c.args.chip.now chip in
    both_written_lem c.args.v old sizes (c.programs-programs.ensures ∙ programs_any c.args.chip.now old) (c.written-first.ensures (lit< tt)) (c.written-second.ensures (lit< tt))
    c.control_byte.ensures

pub returns-clause-turns : goal.returns-clause-turns
returns-clause-turns c sizes = returns-clause-others c c.args.chip.now sizes
