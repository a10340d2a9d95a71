-- `event_frame_take::sent::after_sending` meets its contract, by whether a Transceive sends. Assumes nothing.
use Rattle.std.proofs.Common.{refl, ap, ◌∙◌, set, length-set, arith}
use Rattle.machine.specs.State.{Command}
use Rattle.machine.specs.Frames.{after_sending}
use Rattle.machine.proofs.WellFormed.Parts.{both}
use Rattle.state.specs.View.{core, view, view_of, with_state}
use Rattle.state.proofs.StoreLaws.{at_set, stored, stage_agrees, others_agree}
use Rattle.state.proofs.TurnLaws.{becomes, sized_state}
use Rattle.event_frame_take.proofs.SentLaws.{transceive_sends, others_end, receives_agrees}
use Rattle.event_frame_take.proofs.sent.after_sending.Goals as goal

pub returns-then-chip-eq-TRANSCEIVE_SENDING-clause-turns : goal.returns-then-chip-eq-TRANSCEIVE_SENDING-clause-turns
unfolding view_of
returns-then-chip-eq-TRANSCEIVE_SENDING-clause-turns c sizes =
    let old = c.args.chip.now in
    let receiving = set old.state 12 0x9E in
    let k = core old in
    stored (with_state receiving old) refl refl (at_set old.state 12 0x9E (omega (arith, sizes.state_count))) (λ m. after_sending m.command m) old
    (sized_state sizes receiving (length-set old.state 12 0x9E ∙ sizes.state_count))
    (ap (λ (d : Command). after_sending d (view old)) (transceive_sends k old.latch c.if-chip-eq-TRANSCEIVE_SENDING.true))
    (λ formed. both (receives_agrees k.stage k.latched k.left k.next c.if-chip-eq-TRANSCEIVE_SENDING.true (stage_agrees old formed)) (others_agree old formed))

pub returns-clause-turns : goal.returns-clause-turns
unfolding view_of
returns-clause-turns c sizes =
    let old = c.args.chip.now in
    becomes (λ m. after_sending m.command m) (c.ended.ensures.turns sizes) (others_end (core old) old.latch (view old) c.if-chip-eq-TRANSCEIVE_SENDING.false)
