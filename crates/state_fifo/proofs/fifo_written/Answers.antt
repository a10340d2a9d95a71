-- `state_fifo::fifo_written` meets its contract, by whether there is room; the alerts are those over that. Assumes nothing.
use Rattle.std.proofs.Common.{◌+◌, ◌<◌, ◌≤◌, length, ap, ◌∙◌, arith}
use Rattle.machine.specs.Fifo.{offered, alerted}
use Rattle.state.specs.View.{view, view_of}
use Rattle.state.specs.Parts.{numbers_state_registers_slots}
use Rattle.state.specs.declared.Chip.{Chip}
use Rattle.state.proofs.RingLaws.{count_length}
use Rattle.state.proofs.TurnLaws.{then, becomes, here}
use Rattle.state_fifo.proofs.FifoLaws.{offer_lost, lost_quiet, none_lost, one_is_lost, stored_registers, stored_length, alerts_over}
use Rattle.state_fifo.proofs.fifo_written.Goals as goal

pub returns-then-count-ge64-clause-turns : goal.returns-then-count-ge64-clause-turns
unfolding view_of
returns-then-count-ge64-clause-turns c sizes =
    let a = c.args in
    let old = a.chip.now in
    let full : 64 ≤ length (view old).held = omega (arith, count_length c.held-count.ensures old.slots) in (
      becomes (λ m. alerted m (offered a.byte m)) (c.one_lost.ensures.turns sizes) (lost_quiet (view old) ∙ ap (alerted (view old)) (offer_lost a.byte (view old) full)),
      one_is_lost (view old) full,
    )

pub returns-clause-turns : goal.returns-clause-turns
unfolding view_of
returns-clause-turns c sizes =
    let level = c.fifo_level-level in
    let a = c.args in
    let old = a.chip.now in
    let p = c.held-count.ensures in
    let count = count_length p old.slots in
    let room : c.held-count.result < 64 = omega arith in
    let stores = c.stored.ensures.turns _ p room sizes in (
      becomes (λ m. alerted m (offered a.byte m)) (then stores (c.requested.ensures.turns stores.sizes))
          (alerts_over (view old) (offered a.byte (view old)) c.held-count.result (c.held-count.result + 1) level.result c.alerts.result c.alerts-2.result
          level.ensures (stored_registers a.byte (view old)) count
          (stored_length a.byte (view old) c.held-count.result count room) c.alerts.ensures.is c.alerts-2.ensures.is),
      none_lost (view old) (omega (arith, count)),
    )

pub returns-then-count-ge64-clause-others : goal.returns-then-count-ge64-clause-others
unfolding view_of
returns-then-count-ge64-clause-others c chip sizes =
    let a = c.args in
    let old = numbers_state_registers_slots a.chip.now chip in
    let full : 64 ≤ length (view old).held = omega (arith, count_length c.held-count.ensures old.slots) in
    let lost = here (ap (λ (d : Chip). numbers_state_registers_slots d chip) c.one_lost.ensures.rest) (c.one_lost.ensures.others old sizes) in (
      becomes (λ m. alerted m (offered a.byte m)) lost (lost_quiet (view old) ∙ ap (alerted (view old)) (offer_lost a.byte (view old) full)),
      one_is_lost (view old) full,
    )

pub returns-clause-others : goal.returns-clause-others
unfolding view_of
returns-clause-others c chip sizes =
    let level = c.fifo_level-level in
    let a = c.args in
    let on : Chip → Chip = λ d. numbers_state_registers_slots d chip in
    let old = on a.chip.now in
    let p = c.held-count.ensures in
    let count = count_length p old.slots in
    let room : c.held-count.result < 64 = omega arith in
    let stores = here (ap on c.stored.ensures.rest) (c.stored.ensures.others _ p room old sizes) in
    let requests = here (ap on c.requested.ensures.rest) (c.requested.ensures.others (on c.stored.new.chip) stores.sizes) in (
      becomes (λ m. alerted m (offered a.byte m)) (then stores requests)
          (alerts_over (view old) (offered a.byte (view old)) c.held-count.result (c.held-count.result + 1) level.result c.alerts.result c.alerts-2.result
          level.ensures (stored_registers a.byte (view old)) count
          (stored_length a.byte (view old) c.held-count.result count room) c.alerts.ensures.is c.alerts-2.ensures.is),
      none_lost (view old) (omega (arith, count)),
    )
