-- `event_clock_advance::clock::clocked_reaching` meets its contract: each turn of the loop takes the clocks up to the end of a programming. Where a mode takes hold
-- there, the clocks left over do nothing.
-- Assumes nothing.
use Rattle.std.proofs.Common.{◌≡◌, ℕ, ◌+◌, ◌-◌, ◌≤◌, true, false, ◌||◌, take, set, refl, sym, ap, ◌∙◌, arith}
use Rattle.machine.specs.State.{Machine, Modes}
use Rattle.machine.specs.Commands.{programs}
use Rattle.machine.specs.Power.{has_hold, modes_clocked, stands_still}
use Rattle.machine.specs.Events.{clocks}
use Rattle.machine.proofs.ManyClocks.Pieces.{in_parts}
use Rattle.machine.proofs.PowerModes.{in_hold_rests}
use Rattle.state.specs.View.{batch_start, core, view, view_of, with_clocks}
use Rattle.state.specs.Turns.{Turned}
use Rattle.state.specs.declared.Chip.{Chip}
use Rattle.state.proofs.TurnLaws.{stays, then, becomes}
use Rattle.event_clock_advance.proofs.BatchLaws.{is_idle, left_turns}
use Rattle.event_clock_advance.proofs.ClockLaws.{piece_rests, piece_ends, piece_goes_on, modes_kept, ends_here, goes_past, still_left}
use Rattle.event_clock_advance.proofs.Reaching.{Runs, entered, runs_here, further, all, is_run, others, leaves, leaves_then}
use Rattle.event_clock_advance.proofs.clock.clocked_reaching.Goals as goal
use Rattle.event_clock_advance.proofs.clock.clocked_reaching.Goals.{After-stands_still}

pub loop-chip-init : goal.loop-chip-init
unfolding clocks
loop-chip-init c =
    let old = c.args.chip.now in
    let by = c.args.by in
    let none : 0 ≡ by - by = omega arith in
    record {
      within = omega arith;
      known = refl;
      so_far = λ entry. becomes (clocks (by - by)) (stays old entry.sizes) (ap (λ (n : ℕ). clocks n (view old)) none);
      runs = λ entry. entry.without;
      left_be = refl;
    }

-- Behind the end of a programming, where it is asked whether a mode has hold.
module _ (c : After-stands_still) where
  abbrev here : Chip
  here = c.loop-chip.chip

  abbrev after : Chip
  after = c.hold_taken.new.chip

  -- the test of the loop
  ends : (c.loop-chip.left ≡ 0 → ⊥) × (c.loop-chip.left ≤ c.loop-chip.rest)
  ends = ends_here c.loop-chip.left c.loop-chip.rest (sym c.ends_within.ensures ∙ c.loop-chip-test.true)

  -- what all clocks up to there have left
  kept : after ≡ others after c.args.chip.now
  kept =
      let ticks = c.timer_clocked.new.chip in
      let stores = c.programmed.new.chip in
      leaves_then c.args.chip.now here after c.loop-chip.invariant.left_be
      (leaves_then here stores after
      (leaves_then here ticks stores (leaves here c.timer_clocked.ensures.rest refl) (leaves ticks c.programmed.ensures.rest refl))
      (leaves stores c.hold_taken.ensures.rest refl))

  module _ (entry : Runs c.args.chip.now) where
    -- the clocks up to the end, and the modes then
    to_its_end : Turned (clocks c.loop-chip.left) here after × ((view after).status.modes ≡ modes_clocked true (view here).status.modes)
    unfolding view_of
    to_its_end =
        let turn = c.loop-chip.invariant in
        let left = c.loop-chip.left in
        let was = view here in
        let k = core here in
        let runs = runs_here turn entry in
        let is = is_run turn entry ends.0 in
        let start = batch_start k.next k.latched in
        let bytes = take k.latched here.latch in
        let ticks = c.timer_clocked.ensures.turns runs.sizes runs.fields runs.well in
        let stores = c.programmed.ensures.turns (still_left was runs.well c.timer_clocked.new.chip left ticks.machine (ap programs is)) ticks.sizes (ticks.fields runs.fields) in
        let stored = then ticks stores in
        let same : (view c.programmed.new.chip).status.modes ≡ was.status.modes =
        ap (λ (m : Machine). m.status.modes) stored.machine ∙ modes_kept was runs.well runs.without start left bytes is in
        let without : stands_still (view c.programmed.new.chip) ≡ false = ap (λ (m : Modes). has_hold m.stand_by || has_hold m.power_down) same ∙ runs.without in
        let holds = c.hold_taken.ensures.turns stored.sizes (stored.fields runs.fields) without in (
          becomes (clocks left) (then stored holds) (piece_ends was runs.well runs.without start left bytes is),
          ap (λ (m : Machine). m.status.modes) holds.machine ∙ ap (modes_clocked true) same,
        )

    -- the answer to that question
    asked : c.stands_still.result ≡ stands_still (view after)
    asked = c.stands_still.ensures (to_its_end.0.fields (runs_here c.loop-chip.invariant entry).fields)

    -- all clocks up to there
    had : Turned (clocks (c.args.by - (c.loop-chip.rest - c.loop-chip.left))) c.args.chip.now after
    had = further c.loop-chip.invariant entry c.loop-chip.left ends.1 to_its_end.0

-- A mode has taken hold.
pub returns-then-stands_still-clause-turns : goal.returns-then-stands_still-clause-turns
returns-then-stands_still-clause-turns c sizes formed well without =
    let behind = (goal.at.returns-then-stands_still-clause-turns c).After-stands_still in
    let entry = entered sizes formed well without in
    let k = c.args.by in
    let n = c.loop-chip.rest - c.loop-chip.left in
    let before = view c.args.chip.now in
    let m = view (after behind) in
    let reached = had behind entry in
    let sum : k - n + n ≡ k = omega (arith, c.loop-chip.invariant.within) in
    becomes (clocks k) reached
    (sym
    (ap (λ (j : ℕ). clocks j before) (sym sum)
    ∙ in_parts (k - n) n before
    ∙ ap (clocks n) (sym reached.machine)
    ∙ in_hold_rests n m (view (here behind)).status.modes (runs_here c.loop-chip.invariant entry).without (to_its_end behind entry).1
    (sym (asked behind entry) ∙ c.if-stands_still.true)
    ∙ reached.machine))

pub returns-then-stands_still-clause-rest : goal.returns-then-stands_still-clause-rest
returns-then-stands_still-clause-rest c = kept (goal.at.returns-then-stands_still-clause-rest c).After-stands_still

pub overflow_sub-rest : goal.overflow_sub-rest
overflow_sub-rest c = omega (arith, (ends_here c.loop-chip.left c.loop-chip.rest (sym c.ends_within.ensures ∙ c.loop-chip-test.true)).1)

pub loop-chip-smaller : goal.loop-chip-smaller
loop-chip-smaller c =
    let (some, within) = ends_here c.loop-chip.left c.loop-chip.rest (sym c.ends_within.ensures ∙ c.loop-chip-test.true) in omega (arith, some, within)

pub loop-chip-preserved : goal.loop-chip-preserved
loop-chip-preserved c =
    let behind = (goal.at.loop-chip-preserved c).After-stands_still in
    record {
      within = omega (arith, c.loop-chip.invariant.within);
      known = refl;
      so_far = had behind;
      runs = λ entry. sym (asked behind entry) ∙ c.if-stands_still.false;
      left_be = kept behind;
    }

-- Behind the loop, after the clocks that are left: nothing is programmed.
pub returns-then-left-eq0-clause-turns : goal.returns-then-left-eq0-clause-turns
unfolding view_of
returns-then-left-eq0-clause-turns c sizes formed well without =
    let turn = c.loop-chip.invariant in
    let entry = entered sizes formed well without in
    let runs = runs_here turn entry in
    let x = c.loop-chip.chip in
    let rest = c.loop-chip.rest in
    let ticks = c.timer_clocked-2.ensures.turns runs.sizes runs.fields runs.well in
    all turn entry
    (further turn entry rest (omega arith)
    (becomes (clocks rest) ticks (piece_rests (view x) runs.well runs.without rest (is_idle (core x) x.latch (sym turn.known ∙ c.if-left-eq0.true)))))

pub returns-then-left-eq0-clause-rest : goal.returns-then-left-eq0-clause-rest
returns-then-left-eq0-clause-rest c = leaves_then c.args.chip.now c.loop-chip.chip c.timer_clocked-2.new.chip c.loop-chip.invariant.left_be (leaves c.loop-chip.chip c.timer_clocked-2.ensures.rest refl)

-- The rest ends before the programming does.
pub overflow_sub-chip : goal.overflow_sub-chip
overflow_sub-chip c =
    let past = goes_past c.loop-chip.left c.loop-chip.rest (sym c.ends_within.ensures ∙ c.loop-chip-test.false) c.if-left-eq0.false in omega (arith, past)

pub returns-clause-turns : goal.returns-clause-turns
unfolding view_of
returns-clause-turns c sizes formed well without =
    let turn = c.loop-chip.invariant in
    let past = goes_past c.loop-chip.left c.loop-chip.rest (sym c.ends_within.ensures ∙ c.loop-chip-test.false) c.if-left-eq0.false in
    let entry = entered sizes formed well without in
    let runs = runs_here turn entry in
    let x = c.loop-chip.chip in
    let k = core x in
    let rest = c.loop-chip.rest in
    let left = c.loop-chip.left in
    let ticks = c.timer_clocked-2.ensures.turns runs.sizes runs.fields runs.well in
    let y = c.timer_clocked-2.new.chip in
    let is = is_run turn entry c.if-left-eq0.false in
    let counts = left_turns y (left - rest) ticks.sizes (ticks.fields runs.fields) (still_left (view x) runs.well y rest ticks.machine (ap programs is)) (omega (arith, past)) in
    all turn entry
    (further turn entry rest (omega arith)
    (becomes (clocks rest) (then ticks counts) (piece_goes_on (view x) runs.well runs.without (batch_start k.next k.latched) left (take k.latched x.latch) is rest past)))

pub returns-clause-rest : goal.returns-clause-rest
returns-clause-rest c =
    let left = set c.timer_clocked-2.new.chip.clocks 1 (c.loop-chip.left - c.loop-chip.rest) in
    ap (with_clocks left) (leaves_then c.args.chip.now c.loop-chip.chip c.timer_clocked-2.new.chip c.loop-chip.invariant.left_be (leaves c.loop-chip.chip c.timer_clocked-2.ensures.rest refl))
