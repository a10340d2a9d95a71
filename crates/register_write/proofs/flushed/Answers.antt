-- `register_write::flushed` meets its contract: its steps in order, and the alerts over them. Assumes nothing.
use Rattle.std.proofs.Common.{set, refl, ap, ◌∙◌, lit<, rules}
use Rattle.machine.specs.State.{with_lost_sum}
use Rattle.state.specs.View.{view_of, with_numbers}
use Rattle.state.specs.Parts.{state_registers, numbers_state_registers}
use Rattle.state.specs.declared.Chip.{Chip}
use Rattle.state.proofs.StoreLaws.{set_number}
use Rattle.state.proofs.TurnLaws.{then, here, onto, own}
use Rattle.state_fifo.proofs.AlertLaws.{alerts_any}
use Rattle.register_write.proofs.WriteLaws.{judged}
use Rattle.register_write.proofs.flushed.Goals as goal

pub returns-clause-others : goal.returns-clause-others
unfolding view_of
returns-clause-others c chip sizes =
    let on : Chip → Chip = λ d. numbers_state_registers d chip in
    let old = on c.args.chip.now in
    let next = on c.cleared.new.self in
    let first = here (ap on c.emptied.ensures.rest) (c.emptied.ensures.others old sizes) in
    let second = here (ap on c.cleared.ensures.rest) (c.cleared.ensures.others (on c.emptied.new.chip) first.sizes) in
    let third = set_number (with_lost_sum 0) 2 0 next (lit< tt) refl second.sizes refl in
    judged c.alerts_of-before.result (c.alerts_of-before.ensures.is ∙ alerts_any c.args.chip.now old) (then (then first second) third)
    (onto state_registers on c.alerted.ensures.rest refl (c.alerted.ensures.others (with_numbers (set next.numbers 2 0) next) third.sizes))

pub returns-clause-rest : goal.returns-clause-rest
returns-clause-rest c = search rules

pub returns-clause-turns : goal.returns-clause-turns
returns-clause-turns c sizes = own numbers_state_registers (returns-clause-rest c) refl (returns-clause-others c c.args.chip.now sizes)
