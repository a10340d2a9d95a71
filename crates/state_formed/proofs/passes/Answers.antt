-- `state_formed::passes` meets its contract, test by test. Assumes nothing.
use Rattle.std.proofs.Common.{◌≡◌, refl, sym, ap, ◌∙◌, Bool, true, ◌&&◌, eqb, ltb}
use borrow.Author.Tests.{eq-eqb, ne_eqb, lt-ltb, le-ltb}
use Rattle.state.specs.View.{core, held_count}
use Rattle.state_clauses.specs.Clauses.{timer_fields_formed}
use Rattle.state_formed.specs.Judged.{rests_with, usual_with}
use Rattle.state_clauses.proofs.ByteLaws.{joined}
use Rattle.state_formed.proofs.passes.Goals as goal
use Rattle.state_formed.proofs.passes.Goals.{After-none, After-rests}

-- What the first test leaves to be asked.
usually :
    (c : After-none) {t : Bool} → let a = c.args in let k = core a.chip.now in eqb c.none.result 0 ≡ t →
    usual_with a.next (eqb a.modes 0) k
    ≡ (t && (ltb a.next 0x200 && (rests_with k.stage (held_count k.read k.write) && timer_fields_formed k.running k.value k.prescaler k.phase)))
usually c is = joined (joined (sym c.word-bits.ensures) refl ∙ sym c.none.ensures ∙ is) refl

-- What the third does, where the first passes.
resting :
    (c : After-rests) {t : Bool} → let a = c.args in let k = core a.chip.now in
    usual_with a.next (eqb a.modes 0) k
    ≡ (true && (ltb a.next 0x200 && (rests_with k.stage (held_count k.read k.write) && timer_fields_formed k.running k.value k.prescaler k.phase))) →
    c.rests.result ≡ t → usual_with a.next (eqb a.modes 0) k ≡ (t && timer_fields_formed k.running k.value k.prescaler k.phase)
resting c first is =
    let k = core c.args.chip.now in
    first ∙ joined (lt-ltb _ 0x200 c.if-next-ge512.false) (joined (ap (rests_with k.stage) (sym c.held.ensures.counted) ∙ sym c.rests.ensures ∙ is) refl)

pub returns-then-none-ne0 : goal.returns-then-none-ne0
returns-then-none-ne0 c = sym (usually (goal.at.returns-then-none-ne0 c).After-none (ne_eqb _ 0 c.if-none-ne0.true))

pub returns-then-next-ge512 : goal.returns-then-next-ge512
returns-then-next-ge512 c =
    sym (usually (goal.at.returns-then-next-ge512 c).After-none (eq-eqb _ 0 c.if-none-ne0.false) ∙ joined (le-ltb _ 0x200 c.if-next-ge512.true) refl)

pub returns-then-not-rests : goal.returns-then-not-rests
returns-then-not-rests c =
    let at = goal.at.returns-then-not-rests c in
    sym (resting at.After-rests (usually at.After-none (eq-eqb _ 0 c.if-none-ne0.false)) c.if-not-rests.true)

pub returns : goal.returns
returns c =
    let at = goal.at.returns c in
    c.timer_kept.ensures ∙ sym (resting at.After-rests (usually at.After-none (eq-eqb _ 0 c.if-none-ne0.false)) c.if-not-rests.false)
