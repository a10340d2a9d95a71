-- `state_fifo::alerted` meets its contract whatever the slots are: the alerts go by how many bytes are held. Assumes nothing.
use Rattle.std.proofs.Common.{ℕ, ◌-◌, ap, ◌∙◌}
use lib.Bits.{bit_and}
use Rattle.state.specs.View.{view, raised}
use Rattle.state.specs.Parts.{state_registers}
use Rattle.state.specs.declared.Chip.{Chip}
use Rattle.state_fifo.specs.Alerts.{alerted_from}
use Rattle.state.proofs.TurnLaws.{becomes, here}
use Rattle.state_fifo.proofs.AlertLaws.{alerts_any}
use Rattle.state_fifo.proofs.alerted.Goals as goal

pub returns-clause-others : goal.returns-clause-others
returns-clause-others c chip sizes =
    let old = state_registers c.args.chip.now chip in
    let before = c.args.before in
    becomes (alerted_from before) (here (ap (λ (d : Chip). state_registers d chip) c.requested.ensures.rest) (c.requested.ensures.others old sizes))
    (ap (λ (n : ℕ). raised (bit_and n (255 - before)) (view old)) (c.alerts_of.ensures.is ∙ alerts_any c.args.chip.now chip))
