-- `Chip::failed` meets its contract. Assumes nothing.
use Rattle.std.proofs.Common.{refl, lit<}
use Rattle.state.specs.View.{at, view, view_of, with_state, marked}
use Rattle.state.proofs.FlagLaws.{errors_marked, errors_or}
use Rattle.state.proofs.StoreLaws.{set_byte, own_formed}
use Rattle.state.proofs.Chip.failed.Goals as goal

pub returns-clause-others : goal.returns-clause-others
unfolding view_of
returns-clause-others c chip sizes =
    let l = c.args.self.now.state in
    let mask = c.args.mask in
    set_byte (marked mask) l 7 _ chip (lit< tt) refl sizes (errors_marked (at l 7) mask (view (with_state l chip)) refl)
    (λ bytes. errors_or (at l 7) mask (own_formed (at l) 12 7 (lit< tt) bytes))

pub returns-clause-turns : goal.returns-clause-turns
unfolding view_of
returns-clause-turns c sizes =
    let old = c.args.self.now in
    let mask = c.args.mask in
    set_byte (marked mask) old.state 7 _ old (lit< tt) refl sizes (errors_marked (at old.state 7) mask (view old) refl)
    (λ bytes. errors_or (at old.state 7) mask (own_formed (at old.state) 12 7 (lit< tt) bytes))
