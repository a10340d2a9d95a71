-- `register_write::level_written` meets its contract: a store, and the alerts over it. Assumes nothing.
use mathlib.Core.Path.{refl, ◌∙◌}
use Rattle.machine.specs.Registers.{register_written}
use Rattle.state.specs.Parts.{state_registers}
use Rattle.state.proofs.TurnLaws.{own}
use Rattle.state_fifo.proofs.AlertLaws.{alerts_any}
use Rattle.register_write.proofs.WriteLaws.{judged, register_stored}
use Rattle.register_write.proofs.level_written.Goals as goal

pub returns-clause-others : goal.returns-clause-others
unfolding register_written
returns-clause-others c chip sizes =
    let old = state_registers c.args.chip.now chip in
    let writes = register_stored 0x19 c.args.v old sizes in
    judged c.alerts_of-before.result (c.alerts_of-before.ensures.is ∙ alerts_any c.args.chip.now old) writes (c.alerted.ensures.others chip writes.sizes)

pub returns-clause-turns : goal.returns-clause-turns
returns-clause-turns c sizes = own state_registers c.alerted.ensures.rest refl (returns-clause-others c c.args.chip.now sizes)
