-- `event_frame_deliver::deliver` meets its contract, by the refusals in their order. Assumes nothing.
use Rattle.std.proofs.Common.{ℕ, true, false, not, [], refl, sym, ap, ◌∙◌, rules, eq-eqb, ne_eqb}
use Rattle.machine.specs.Events as answer
use Rattle.machine.specs.Refusals.{deliver}
use Rattle.state.specs.View.{view}
use Rattle.state.specs.Meets.{coded}
use Rattle.state.proofs.TurnLaws.{then}
use Rattle.state.proofs.MeetLaws.{refused, malformed, deliver_unformed, deliver_judged, own_fields_formed, accepted_here}
use Rattle.state.proofs.PowerLaws.{stands_by_word}
use Rattle.state.proofs.ByteLaws.{known_bytes}
use Rattle.event_frame_deliver.proofs.DeliverLaws.{frame_delivered}
use Rattle.event_frame_deliver.proofs.deliver.Goals as goal

pub returns-then-not-well_formed-clause-turns : goal.returns-then-not-well_formed-clause-turns
returns-then-not-well_formed-clause-turns c whole =
    let a = c.args in
    malformed a.chip.now (deliver a.bytes.now a.parities.now a.last_bits) tt (sym (c.if-not-well_formed.ensures whole.sizes)) whole

pub returns-then-not-frame_formed-clause-turns : goal.returns-then-not-frame_formed-clause-turns
returns-then-not-frame_formed-clause-turns c whole =
    let a = c.args in
    let formed = sym (c.if-not-well_formed.ensures whole.sizes) in
    let number = deliver_unformed a.chip.now formed a.bytes.now a.parities.now a.last_bits c.if-not-frame_formed.ensures refl in
    refused a.chip.now (deliver a.bytes.now a.parities.now a.last_bits) 4 number.0 whole

pub returns-then-not-receives-clause-turns : goal.returns-then-not-receives-clause-turns
returns-then-not-receives-clause-turns c whole =
    let a = c.args in
    let formed = sym (c.if-not-well_formed.ensures whole.sizes) in
    let number =
    deliver_judged a.chip.now formed a.bytes.now a.parities.now a.last_bits c.if-not-frame_formed.ensures refl false _ (sym c.if-not-receives.ensures) refl in
    refused a.chip.now (deliver a.bytes.now a.parities.now a.last_bits) 3 number.0 whole

pub returns-then-modes_word-ne0-clause-turns : goal.returns-then-modes_word-ne0-clause-turns
returns-then-modes_word-ne0-clause-turns c whole =
    let a = c.args in
    let old = a.chip.now in
    let formed = sym (c.if-not-well_formed.ensures whole.sizes) in
    let number =
    deliver_judged old formed a.bytes.now a.parities.now a.last_bits c.if-not-frame_formed.ensures refl true true (sym c.if-not-receives.ensures)
    (sym (stands_by_word old c.modes_word.result (own_fields_formed old formed) c.modes_word.ensures) ∙ ap not (ne_eqb _ 0 c.if-modes_word-ne0.true)) in
    refused old (deliver a.bytes.now a.parities.now a.last_bits) 3 number.0 whole

pub returns-clause-turns : goal.returns-clause-turns
returns-clause-turns c whole =
    let a = c.args in
    let old = a.chip.now in
    let bytes = a.bytes.now in
    let formed = sym (c.if-not-well_formed.ensures whole.sizes) in
    let (first, lost) = c.received-lost.ensures.turns whole.sizes in
    let turn = then first (c.alerted.ensures.turns first.sizes) in
    accepted_here old formed (deliver bytes a.parities.now a.last_bits) c.alerted.new.chip _ []
    (search (rules, known_bytes)) whole
    (deliver_judged old formed bytes a.parities.now a.last_bits c.if-not-frame_formed.ensures refl true false (sym c.if-not-receives.ensures)
    (sym (stands_by_word old c.modes_word.result (own_fields_formed old formed) c.modes_word.ensures) ∙ ap not (eq-eqb _ 0 c.if-modes_word-ne0.false)))
    (record {
      answered = ap (λ (n : ℕ). coded (answer.lost n)) lost;
      turned = turn.machine ∙ frame_delivered bytes a.parities.now a.last_bits (view old) c.alerts_of-before.result c.alerts_of-before.ensures.is;
      lent = refl;
      fields = turn.fields (own_fields_formed old formed);
      sizes = turn.sizes;
    })
