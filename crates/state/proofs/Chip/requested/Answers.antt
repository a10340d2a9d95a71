-- `Chip::requested` meets its contract, by whether a request is new. Assumes nothing.
use Rattle.std.proofs.Common.{ℕ, sym, refl, ap, ◌∙◌, arith, lit<}
use Rattle.machine.specs.State.{with_requests}
use Rattle.state.specs.View.{at, view, view_of, with_state, raised, interrupts_of}
use Rattle.state.proofs.FlagLaws.{requests_raised, requests_or}
use Rattle.state.proofs.StoreLaws.{set_byte, own_formed}
use Rattle.state.proofs.TurnLaws.{stays, becomes}
use Rattle.state.proofs.Chip.requested.Goals as goal

pub returns-then-next-requests-clause-others : goal.returns-then-next-requests-clause-others
unfolding view_of
returns-then-next-requests-clause-others c chip sizes =
    let l = c.args.self.now.state in
    set_byte (raised c.args.mask) l 6 _ chip (lit< tt) refl sizes (requests_raised (at l 6) c.args.mask (view (with_state l chip)) (omega arith) refl)
    (λ bytes. requests_or (at l 6) _ (omega arith) (own_formed (at l) 12 6 (lit< tt) bytes))

pub returns-then-next-requests-clause-turns : goal.returns-then-next-requests-clause-turns
unfolding view_of
returns-then-next-requests-clause-turns c sizes =
    let old = c.args.self.now in
    let l = old.state in
    set_byte (raised c.args.mask) l 6 _ old (lit< tt) refl sizes (requests_raised (at l 6) c.args.mask (view old) (omega arith) refl)
    (λ bytes. requests_or (at l 6) _ (omega arith) (own_formed (at l) 12 6 (lit< tt) bytes))

pub returns-else-next-requests-clause-others : goal.returns-else-next-requests-clause-others
unfolding view_of
returns-else-next-requests-clause-others c chip sizes =
    let l = c.args.self.now.state in
    let old = with_state l chip in
    becomes (raised c.args.mask) (stays old sizes)
    (ap (λ (n : ℕ). with_requests (interrupts_of n) (view old)) (sym c.if-next-requests.false)
    ∙ requests_raised (at l 6) c.args.mask (view old) (omega arith) refl)

pub returns-else-next-requests-clause-turns : goal.returns-else-next-requests-clause-turns
unfolding view_of
returns-else-next-requests-clause-turns c sizes =
    let old = c.args.self.now in
    let l = old.state in
    becomes (raised c.args.mask) (stays old sizes)
    (ap (λ (n : ℕ). with_requests (interrupts_of n) (view old)) (sym c.if-next-requests.false)
    ∙ requests_raised (at l 6) c.args.mask (view old) (omega arith) refl)
