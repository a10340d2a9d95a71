-- `state_fifo::alerts_of` meets its contract. Assumes nothing.
use Rattle.std.proofs.Common.{ℕ, ◌%◌, length, ap, ◌∙◌}
use Rattle.state.specs.View.{at, held_of, view_of}
use Rattle.state.proofs.RingLaws.{count_length}
use Rattle.state_fifo.specs.Alerts.{alert_bits}
use Rattle.state_fifo.proofs.alerts_of.Goals as goal

pub returns-clause-is : goal.returns-clause-is
unfolding view_of
returns-clause-is c =
    let old = c.args.chip.now in
    let s = old.state in
    c.alerts.ensures.is ∙ ap (λ (n : ℕ). alert_bits n (c.fifo_level.result % 64)) (count_length c.held.ensures old.slots)
    ∙ ap (λ (n : ℕ). alert_bits (length (held_of (at s 13) (at s 14) old.slots)) (n % 64)) c.fifo_level.ensures
