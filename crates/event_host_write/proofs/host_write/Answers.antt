-- `event_host_write::host_write` meets its contract, by the refusals in their order, and then by the way that the code takes. Assumes nothing.
use Rattle.std.proofs.Common.{Bool, refl, sym, ap, ◌∙◌, arith, lt-ltb}
use Rattle.machine.specs.Refusals.{host_write, refuse_if}
use Rattle.state.specs.View.{view_of}
use Rattle.state.specs.Meets.{Whole}
use Rattle.state.proofs.RingLaws.{count_length}
use Rattle.state.proofs.MeetLaws.{refused, malformed, write_refusal}
use Rattle.event_host_write.proofs.WriteLaws.{Passes, data_worked, data_summed, data_waits, command_worked, command_begins, other_wrote}
use Rattle.event_host_write.proofs.host_write.Goals as goal
use Rattle.event_host_write.proofs.host_write.Goals.{After-mapped-register}

passes : (found : After-mapped-register) → Whole found.args.chip.now → Passes found.args.chip.now found.args.address found.mapped-register.result found.args.v
unfolding view_of
passes found whole =
    record {
      formed = sym (found.well_formed-2.ensures whole.sizes) ∙ found.if-not-well_formed.false;
      whole = whole;
      low = omega (arith, found.if-address-ge-ADDRESSES.false);
      byte = found.ranges.v.fits;
      is = found.mapped-register.ensures;
    }

pub returns-then-not-well_formed-clause-turns : goal.returns-then-not-well_formed-clause-turns
returns-then-not-well_formed-clause-turns c whole =
    malformed c.args.chip.now (host_write c.args.address c.args.v) tt (sym (c.well_formed-2.ensures whole.sizes) ∙ c.if-not-well_formed.true) whole

pub returns-then-address-ge-ADDRESSES-clause-turns : goal.returns-then-address-ge-ADDRESSES-clause-turns
returns-then-address-ge-ADDRESSES-clause-turns c whole =
    let address = c.args.address in
    refused c.args.chip.now (host_write address c.args.v) 0
    (write_refusal c.args.chip.now (sym (c.well_formed-2.ensures whole.sizes) ∙ c.if-not-well_formed.false) address c.args.v 1
    (ap (λ (t : Bool). refuse_if t 1 0) (lt-ltb 63 address (omega (arith, c.if-address-ge-ADDRESSES.true))))).0 whole

pub returns-then-stage-eq-CALC_CRC-clause-turns : goal.returns-then-stage-eq-CALC_CRC-clause-turns
returns-then-stage-eq-CALC_CRC-clause-turns c whole =
    data_summed (passes (goal.at.returns-then-stage-eq-CALC_CRC-clause-turns c).After-mapped-register whole) c.checksum_fed.new.chip 0 0 refl c.if-register-eq2.true refl c.if-stage-eq-CALC_CRC.true
    (c.checksum_fed.ensures.turns whole.sizes)

pub returns-then-stage-clause-turns : goal.returns-then-stage-clause-turns
returns-then-stage-clause-turns c whole =
    let (turned, lost) = c.fifo_written.ensures.turns whole.sizes in
    data_waits (passes (goal.at.returns-then-stage-clause-turns c).After-mapped-register whole) c.fifo_written.new.chip _ _ refl c.if-register-eq2.true c.if-stage.true turned lost

pub returns-then-register-eq2-clause-turns : goal.returns-then-register-eq2-clause-turns
returns-then-register-eq2-clause-turns c whole =
    let (turned, lost) = c.fifo_worked.ensures.turns whole.sizes in
    data_worked (passes (goal.at.returns-then-register-eq2-clause-turns c).After-mapped-register whole) c.fifo_worked.new.chip _ _ refl c.if-register-eq2.true turned lost

pub returns-then-begins_checksum-clause-turns : goal.returns-then-begins_checksum-clause-turns
unfolding view_of
returns-then-begins_checksum-clause-turns c whole =
    let test = sym c.begins_checksum.ensures ∙ c.if-begins_checksum.true in
    command_begins (passes (goal.at.returns-then-begins_checksum-clause-turns c).After-mapped-register whole) c.checksum_begun.new.chip 0 0 refl c.if-register-eq1.true refl
    c.held.result (count_length c.held.ensures c.args.chip.now.slots) test (λ none. c.checksum_begun.ensures.turns none whole.sizes)

pub returns-then-register-eq1-clause-turns : goal.returns-then-register-eq1-clause-turns
returns-then-register-eq1-clause-turns c whole =
    let (turned, lost) = c.command_worked.ensures.turns whole.sizes in
    command_worked (passes (goal.at.returns-then-register-eq1-clause-turns c).After-mapped-register whole) c.command_worked.new.chip _ _ refl c.if-register-eq1.true turned lost

pub returns-clause-turns : goal.returns-clause-turns
returns-clause-turns c whole =
    other_wrote (passes (goal.at.returns-clause-turns c).After-mapped-register whole) c.register_written.new.chip 0 0 refl refl c.if-register-eq1.false c.if-register-eq2.false
    (c.register_written.ensures.turns whole.sizes)
