-- `state_timer::timer_set` meets its contract: four stores at once. Assumes nothing.
use mir.Val.{bool_byte}
use Prim.Native.Nat.{ℕ}
use native.Mathlib.Omega.{arith}
use mathlib.Core.Path.{◌≡◌, refl, ap, ◌∙◌}
use mathlib.Core.Bool.{Bool, true, false}
use lib.ListN.{set, length-set}
use Rattle.machine.specs.State.{with_timer}
use Rattle.machine.proofs.WellFormed.Parts.{both}
use Rattle.state.specs.View.{at, is_set, view, view_of, with_clocks, with_state}
use Rattle.state.specs.Parts.{clocks_state}
use Rattle.state.specs.Formed.{is_flag}
use Rattle.state.specs.Turns.{Sizes, Turned}
use Rattle.state.specs.declared.Chip.{Chip}
use Rattle.state.proofs.StoreLaws.{put, at_set, at_set_two, stored, stage_agrees, modes_agree_lem, bytes_agree, put_formed}
use Rattle.state.proofs.TurnLaws.{sized_clocks, sized_state}
use Rattle.state_timer.proofs.timer_set.Goals as goal

-- A flag's byte, 0 or 1, is set where the flag is.
flag_set : (b : Bool) → is_set (bool_byte b) ≡ b
flag_set true = refl
flag_set false = refl

flag_formed : (b : Bool) → is_flag (bool_byte b) ≡ true
flag_formed true = refl
flag_formed false = refl

-- The four stores, in any chip.
set_in : (running : Bool) (value prescaler : ℕ) (old : Chip) → Sizes old →
    Turned (with_timer (record { running = running; value = value; prescaler = prescaler; phase = 0 })) old
    (with_clocks (set old.clocks 0 0) (with_state (set (set (set old.state 8 (bool_byte running)) 9 prescaler) 15 value) old))
unfolding view_of
set_in running value prescaler old sizes =
    let clocks = set old.clocks 0 0 in
    let two = set (set old.state 8 (bool_byte running)) 9 prescaler in
    let bytes = set two 15 value in
    let whole = sizes.state_count in
    stored (with_clocks clocks (with_state bytes old)) (at_set old.clocks 0 0 (omega (arith, sizes.clock_count))) refl
    (at_set two 15 value (simp length-set (omega arith)) ∙ ap (put 15 value) (at_set_two old.state 8 (bool_byte running) 9 prescaler (omega arith) (omega arith))) _ old
    (sized_clocks (sized_state sizes bytes (simp length-set whole)) clocks (simp length-set sizes.clock_count))
    (ap (λ (t : Bool). with_timer (record { running = t; value = value; prescaler = prescaler; phase = 0 }) (view old)) (flag_set running))
    (λ formed. both (stage_agrees old formed)
    (both (modes_agree_lem old formed)
    (put_formed (put 9 prescaler (put 8 (bool_byte running) (at old.state))) 15 value 12 refl
    (put_formed (put 8 (bool_byte running) (at old.state)) 9 prescaler 12 refl (put_formed (at old.state) 8 (bool_byte running) 12 (flag_formed running) (bytes_agree old formed))))))

pub returns-clause-others : goal.returns-clause-others
returns-clause-others c chip = set_in c.args.running c.args.value c.args.prescaler (clocks_state c.args.chip.now chip)

pub returns-clause-turns : goal.returns-clause-turns
returns-clause-turns c = set_in c.args.running c.args.value c.args.prescaler c.args.chip.now
