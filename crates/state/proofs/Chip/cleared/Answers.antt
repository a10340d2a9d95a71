-- `Chip::cleared` meets its contract, by whether a flag of the mask is set. Assumes nothing.
use Rattle.std.proofs.Common.{refl, ◌∙◌, arith, lit<}
use Rattle.state.specs.View.{at, view, view_of, with_state, unmarked}
use Rattle.state.proofs.FlagLaws.{errors_unmarked, none_unmarked, errors_and}
use Rattle.state.proofs.StoreLaws.{set_byte, own_formed}
use Rattle.state.proofs.TurnLaws.{stays, becomes}
use Rattle.state.proofs.Chip.cleared.Goals as goal

pub returns-then-self-mask-ne0-clause-others : goal.returns-then-self-mask-ne0-clause-others
unfolding view_of
returns-then-self-mask-ne0-clause-others c chip sizes =
    let l = c.args.self.now.state in
    set_byte (unmarked c.args.mask) l 7 _ chip (lit< tt) refl sizes (errors_unmarked (at l 7) c.args.mask (view (with_state l chip)) (omega arith) refl)
    (λ bytes. errors_and (at l 7) _ (own_formed (at l) 12 7 (lit< tt) bytes))

pub returns-then-self-mask-ne0-clause-turns : goal.returns-then-self-mask-ne0-clause-turns
unfolding view_of
returns-then-self-mask-ne0-clause-turns c sizes =
    let old = c.args.self.now in
    let l = old.state in
    set_byte (unmarked c.args.mask) l 7 _ old (lit< tt) refl sizes (errors_unmarked (at l 7) c.args.mask (view old) (omega arith) refl)
    (λ bytes. errors_and (at l 7) _ (own_formed (at l) 12 7 (lit< tt) bytes))

pub returns-else-self-mask-ne0-clause-others : goal.returns-else-self-mask-ne0-clause-others
unfolding view_of
returns-else-self-mask-ne0-clause-others c chip sizes =
    let l = c.args.self.now.state in
    let old = with_state l chip in
    becomes (unmarked c.args.mask) (stays old sizes)
    (none_unmarked (at l 7) c.args.mask (view old) (omega arith) c.if-self-mask-ne0.false ∙ errors_unmarked (at l 7) c.args.mask (view old) (omega arith) refl)

pub returns-else-self-mask-ne0-clause-turns : goal.returns-else-self-mask-ne0-clause-turns
unfolding view_of
returns-else-self-mask-ne0-clause-turns c sizes =
    let old = c.args.self.now in
    let l = old.state in
    becomes (unmarked c.args.mask) (stays old sizes)
    (none_unmarked (at l 7) c.args.mask (view old) (omega arith) c.if-self-mask-ne0.false ∙ errors_unmarked (at l 7) c.args.mask (view old) (omega arith) refl)
