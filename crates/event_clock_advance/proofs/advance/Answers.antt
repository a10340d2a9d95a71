-- `event_clock_advance::advance` meets its contract, by the refusals in their order. Assumes nothing.
use Prim.Native.Nat.{ℕ}
use mathlib.Core.Path.{refl, sym, ap, ◌∙◌}
use mathlib.Core.List.{[]}
use Rattle.machine.specs.Refusals.{advance}
use Rattle.machine.specs.Events.{clocks, advanced}
use Rattle.state.specs.View.{view, view_of}
use Rattle.state.proofs.MeetLaws.{malformed, advance_refusal, own_fields_formed, machine_formed, accepted_here}
use Rattle.state.proofs.TurnLaws.{then, becomes}
use Rattle.state_fifo.specs.Alerts.{alerted_from}
use Rattle.state_fifo.proofs.AlertLaws.{alerted_from_lem}
use Rattle.event_clock_advance.proofs.advance.Goals as goal

pub returns-then-not-well_formed-clause-turns : goal.returns-then-not-well_formed-clause-turns
returns-then-not-well_formed-clause-turns c whole = malformed c.args.chip.now (advance c.args.by) tt (sym (c.well_formed-2.ensures whole.sizes) ∙ c.if-not-well_formed.true) whole

-- The clocks, and then the alerts against those before.
pub returns-clause-turns : goal.returns-clause-turns
unfolding view_of advanced
returns-clause-turns c whole =
    let old = c.args.chip.now in
    let by = c.args.by in
    let m = view old in
    let formed = sym (c.well_formed-2.ensures whole.sizes) ∙ c.if-not-well_formed.false in
    let agrees = own_fields_formed old formed in
    let often = c.clocked_times.ensures.turns whole.sizes agrees (machine_formed old formed whole) in
    let turned =
    becomes (advanced by) (then often (c.alerted.ensures.turns often.sizes))
    (ap (λ (n : ℕ). alerted_from n (clocks by m)) c.alerts_of-before.ensures.is ∙ alerted_from_lem m (clocks by m)) in
    accepted_here old formed (advance by) c.alerted.new.chip 0 [] tt whole (advance_refusal old formed by)
    (record { answered = refl; turned = turned.machine; lent = refl; fields = turned.fields agrees; sizes = turned.sizes })
