-- `state_timer::timer_started` meets its contract, by whether the reload is 0 or the prescaler above 21. Assumes nothing.
use Rattle.std.proofs.Common.{◌%◌, ◌≡◌, sym, ap, ◌∙◌, Bool, true, false, cond, ◌||◌, eqb, ltb, ⊎_elim}
use mathlib.Core.Bool.{or-true}
use borrow.Author.Tests.{eq-eqb, ne_eqb, lt-ltb, le-ltb}
use Rattle.machine.specs.State.{with_timer}
use Rattle.machine.specs.Timer.{stopped_at, running_at, timer_started, timer_reload, t_pre_scaler}
use Rattle.state.specs.View.{at, view, view_of}
use Rattle.state.specs.Parts.{clocks_state_registers}
use Rattle.state.specs.Turns.{Turned}
use Rattle.state.specs.declared.Chip.{Chip}
use Rattle.state.proofs.TurnLaws.{becomes, here}
use Rattle.state_timer.proofs.timer_started.Goals as goal

-- A timer that is loaded by that test is started.
by_test : {old next : Chip} (t : Bool) → let m = view old in (eqb (timer_reload m) 0 || ltb 21 (t_pre_scaler m)) ≡ t →
    Turned (with_timer (cond t (stopped_at 0) (running_at (timer_reload m) (t_pre_scaler m) 0))) old next → Turned timer_started old next
by_test {old} t is turn =
    let m = view old in becomes timer_started turn (ap (λ (b : Bool). with_timer (cond b (stopped_at 0) (running_at (timer_reload m) (t_pre_scaler m) 0)) m) (sym is))

pub returns-then-prescaler-gt21-clause-others : goal.returns-then-prescaler-gt21-clause-others
unfolding view_of
returns-then-prescaler-gt21-clause-others c chip sizes =
    let registers = c.args.chip.now.registers in
    let halts = c.if-prescaler-gt21 in
    let stops : (eqb (at registers 0x1C) 0 || ltb 21 (at registers 0x1A % 32)) ≡ true =
    ⊎_elim
    (λ zero. ap (λ (b : Bool). b || ltb 21 (at registers 0x1A % 32)) (eq-eqb _ _ zero))
    (λ w. ap (λ (b : Bool). eqb (at registers 0x1C) 0 || b) (lt-ltb _ _ w.1) ∙ or-true _)
    halts.either in
    by_test true stops (here (ap (λ (d : Chip). clocks_state_registers d chip) c.timer_set.ensures.rest) (c.timer_set.ensures.others (clocks_state_registers c.args.chip.now chip) sizes))

pub returns-then-prescaler-gt21-clause-turns : goal.returns-then-prescaler-gt21-clause-turns
unfolding view_of
returns-then-prescaler-gt21-clause-turns c sizes =
    let registers = c.args.chip.now.registers in
    let stops : (eqb (at registers 0x1C) 0 || ltb 21 (at registers 0x1A % 32)) ≡ true =
    ⊎_elim
    (λ zero. ap (λ (b : Bool). b || ltb 21 (at registers 0x1A % 32)) (eq-eqb _ _ zero))
    (λ w. ap (λ (b : Bool). eqb (at registers 0x1C) 0 || b) (lt-ltb _ _ w.1) ∙ or-true _)
    c.if-prescaler-gt21.either in
    by_test true stops (c.timer_set.ensures.turns sizes)

pub returns-else-prescaler-gt21-clause-others : goal.returns-else-prescaler-gt21-clause-others
unfolding view_of
returns-else-prescaler-gt21-clause-others c chip sizes =
    let registers = c.args.chip.now.registers in
    let goes = c.if-prescaler-gt21 in
    let runs : (eqb (at registers 0x1C) 0 || ltb 21 (at registers 0x1A % 32)) ≡ false =
    ap (λ (b : Bool). b || ltb 21 (at registers 0x1A % 32)) (ne_eqb _ _ goes.false.0) ∙ le-ltb _ _ goes.false.1 in
    let sets = c.timer_set-else-prescaler-gt21.ensures in
    by_test false runs (here (ap (λ (d : Chip). clocks_state_registers d chip) sets.rest) (sets.others (clocks_state_registers c.args.chip.now chip) sizes))

pub returns-else-prescaler-gt21-clause-turns : goal.returns-else-prescaler-gt21-clause-turns
unfolding view_of
returns-else-prescaler-gt21-clause-turns c sizes =
    let registers = c.args.chip.now.registers in
    let runs : (eqb (at registers 0x1C) 0 || ltb 21 (at registers 0x1A % 32)) ≡ false =
    ap (λ (b : Bool). b || ltb 21 (at registers 0x1A % 32)) (ne_eqb _ _ c.if-prescaler-gt21.false.0) ∙ le-ltb _ _ c.if-prescaler-gt21.false.1 in
    by_test false runs (c.timer_set-else-prescaler-gt21.ensures.turns sizes)
