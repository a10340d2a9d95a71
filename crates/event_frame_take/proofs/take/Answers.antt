-- `event_frame_take::take` meets its contract, by the refusals in their order. Assumes nothing.
use Rattle.std.proofs.Common.{ℕ, ◌+◌, ◌*◌, ◌%◌, true, false, not, refl, sym, ap, ◌∙◌, arith, rules, eq-eqb, ne_eqb}
use Rattle.machine.specs.Refusals.{take_frame}
use Rattle.machine.specs.Events.{buffer_taken}
use Rattle.state.specs.View.{at, view_of}
use Rattle.state.proofs.MeetLaws.{refused, malformed, take_short, take_judged, own_fields_formed, few_held, accepted_here}
use Rattle.state.proofs.PowerLaws.{stands_by_word}
use Rattle.state.proofs.ByteLaws.{known_bytes}
use Rattle.event_frame_take.proofs.take.Goals as goal

pub returns-then-not-well_formed-clause-turns : goal.returns-then-not-well_formed-clause-turns
returns-then-not-well_formed-clause-turns c whole = malformed c.args.chip.now (take_frame c.args.buffer.now) tt (sym (c.if-not-well_formed.ensures whole.sizes)) whole

pub returns-then-buffer-lt66-clause-turns : goal.returns-then-buffer-lt66-clause-turns
returns-then-buffer-lt66-clause-turns c whole =
    let old = c.args.chip.now in
    let buffer = c.args.buffer.now in
    refused old (take_frame buffer) 5 (take_short old (sym (c.if-not-well_formed.ensures whole.sizes)) buffer c.if-buffer-lt66.true).0 whole

pub returns-then-not-frame_waits-clause-turns : goal.returns-then-not-frame_waits-clause-turns
returns-then-not-frame_waits-clause-turns c whole =
    let old = c.args.chip.now in
    let buffer = c.args.buffer.now in
    let number = take_judged old (sym (c.if-not-well_formed.ensures whole.sizes)) buffer (omega arith) false _ (sym c.if-not-frame_waits.ensures) refl in
    refused old (take_frame buffer) 3 number.0 whole

pub returns-then-modes_word-ne0-clause-turns : goal.returns-then-modes_word-ne0-clause-turns
returns-then-modes_word-ne0-clause-turns c whole =
    let old = c.args.chip.now in
    let buffer = c.args.buffer.now in
    let formed = sym (c.if-not-well_formed.ensures whole.sizes) in
    let number =
    take_judged old formed buffer (omega arith) true true (sym c.if-not-frame_waits.ensures)
    (sym (stands_by_word old c.modes_word.result (own_fields_formed old formed) c.modes_word.ensures) ∙ ap not (ne_eqb _ 0 c.if-modes_word-ne0.true)) in
    refused old (take_frame buffer) 3 number.0 whole

pub returns-clause-turns : goal.returns-clause-turns
unfolding view_of buffer_taken
returns-clause-turns c whole =
    let old = c.args.chip.now in
    let buffer = c.args.buffer.now in
    let formed = sym (c.if-not-well_formed.ensures whole.sizes) in
    let puts = c.frame_into-count.ensures.puts (few_held old formed) in
    let goes = c.taken.ensures.turns whole.sizes in
    accepted_here old formed (take_frame buffer) c.taken.new.chip _ c.frame_into-count.new.buffer
    (search (rules, known_bytes)) whole
    (take_judged old formed buffer (omega arith) true false (sym c.if-not-frame_waits.ensures)
    (sym (stands_by_word old c.modes_word.result (own_fields_formed old formed) c.modes_word.ensures) ∙ ap not (eq-eqb _ 0 c.if-modes_word-ne0.false)))
    (record {
      answered = ap (λ (n : ℕ). 0x100 * n + 0x1_0000 * (at old.state 16 % 8)) puts.counted;
      turned = goes.machine;
      lent = puts.fills;
      fields = goes.fields (own_fields_formed old formed);
      sizes = goes.sizes;
    })
