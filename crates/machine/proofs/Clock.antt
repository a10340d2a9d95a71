-- One clock: what the timer's part of it leaves alone, and what the command's does to a programming, which goes on or ends, and to every other command. Of a
-- clock that reaches neither, since a power mode has hold, only the modes change.
-- Assumes nothing.
use Prim.Native.Nat.{ℕ, ◌+◌, ◌-◌, ◌%◌, ◌^◌, ◌<◌, ◌≤◌}
use mathlib.Core.Path.{◌≡◌, refl, sym, ap, subst, ◌∙◌}
use mathlib.Core.Bool.{Bool, true, false, cond}
use mathlib.Core.List.{List}
use native.Mathlib.Omega.{arith}
use lib.Dec.{ltb, leb, eqb}
use lib.ListN.{length, take}
use borrow.Author.Tests.{le-leb, lt-leb, eqb-false, ltb-false}
use Rattle.machine.specs.State.{Machine, Command, Timer, Modes, WriteE2, programming, with_command, with_timer, with_registers, with_modes}
use Rattle.machine.specs.Timer.{timer_clock, running_at, raised_timer, restarted, stopped_at, t_auto_restart, timer_reload}
use Rattle.machine.specs.Memory.{room_in_block, programming_clocks}
use Rattle.machine.specs.Commands.{programs, raised_tx, ended, taken, with_access_err, latched, settled}
use Rattle.machine.specs.Power.{modes_clocked, stands_still}
use Rattle.machine.specs.Events.{batch_stored, programmed, programming_clocked, command_clocked, reached, ends_programming, clock}
use Rattle.machine.proofs.Cases.{by_cond, not_programming, while_programming_lem}
use Rattle.machine.proofs.Settling.{settled_writes}
use Rattle.machine.proofs.Power.{modes_stay}

-- What holds of the machine with any timer, and with the request, holds after a clock of the timer.
pub timer_any : (P : Machine → Type 0) (m : Machine) → P m → ((t : Timer) → P (with_timer t m)) → ((t : Timer) → P (with_timer t (raised_timer m))) → P (timer_clock m)
unfolding timer_clock
timer_any P m p q r = go m.timer.running (ltb (m.timer.phase + 1) (2 ^ m.timer.prescaler)) (ltb 1 m.timer.value)
  where
    go : (runs within above : Bool) →
        P (cond runs
        (cond within (with_timer (running_at m.timer.value m.timer.prescaler (m.timer.phase + 1)) m)
        (cond above (with_timer (running_at (m.timer.value - 1) m.timer.prescaler 0) m)
        (with_timer (cond (t_auto_restart m) (restarted (timer_reload m) m.timer.prescaler) (stopped_at 0)) (raised_timer m))))
        m)
    go true true above = q _
    go true false true = q _
    go true false false = r _
    go false within above = p

pub timer_eeprom : (m : Machine) → (timer_clock m).eeprom ≡ m.eeprom
timer_eeprom m = timer_any (λ n. n.eeprom ≡ m.eeprom) m refl (λ t. refl) (λ t. refl)

pub timer_command : (m : Machine) → (timer_clock m).command ≡ m.command
timer_command m = timer_any (λ n. n.command ≡ m.command) m refl (λ t. refl) (λ t. refl)

pub timer_held : (m : Machine) → (timer_clock m).held ≡ m.held
timer_held m = timer_any (λ n. n.held ≡ m.held) m refl (λ t. refl) (λ t. refl)

pub timer_modes : (m : Machine) → (timer_clock m).status.modes ≡ m.status.modes
timer_modes m = timer_any (λ n. n.status.modes ≡ m.status.modes) m refl (λ t. refl) (λ t. refl)

-- It reads the timer and the registers alone, so it does to a machine with other parts anew what it does to the machine.
timer_past : (g : Machine → Machine) (m : Machine) → (g m).timer ≡ m.timer → (g m).registers ≡ m.registers →
    ((t : Timer) → with_timer t (g m) ≡ g (with_timer t m)) → ((t : Timer) → with_timer t (raised_timer (g m)) ≡ g (with_timer t (raised_timer m))) →
    timer_clock (g m) ≡ g (timer_clock m)
unfolding timer_clock
timer_past g m same-timer same-registers keeps raises =
    (λ i. clocked (same-timer i) (same-registers i) (g m))
    ∙ go m.timer.running (ltb (m.timer.phase + 1) (2 ^ m.timer.prescaler)) (ltb 1 m.timer.value)
  where
    again : Timer → List ℕ → Timer
    again t rs = let reload = with_registers rs m in cond (t_auto_restart reload) (restarted (timer_reload reload) t.prescaler) (stopped_at 0)

    clocked : Timer → List ℕ → Machine → Machine
    clocked t rs x =
        cond t.running
        (cond (ltb (t.phase + 1) (2 ^ t.prescaler)) (with_timer (running_at t.value t.prescaler (t.phase + 1)) x)
        (cond (ltb 1 t.value) (with_timer (running_at (t.value - 1) t.prescaler 0) x) (with_timer (again t rs) (raised_timer x))))
        x

    by_tests : Machine → Bool → Bool → Bool → Machine
    by_tests x runs within above =
        let t = m.timer in
        cond runs
        (cond within (with_timer (running_at t.value t.prescaler (t.phase + 1)) x)
        (cond above (with_timer (running_at (t.value - 1) t.prescaler 0) x) (with_timer (again t m.registers) (raised_timer x))))
        x

    go : (runs within above : Bool) → by_tests (g m) runs within above ≡ g (by_tests m runs within above)
    go true true above = keeps _
    go true false true = keeps _
    go true false false = raises _
    go false within above = refl

pub timer_past_command : (c : Command) (m : Machine) → timer_clock (with_command c m) ≡ with_command c (timer_clock m)
timer_past_command c m = timer_past (with_command c) m refl refl (λ t. refl) (λ t. refl)

timer_past_modes : (x : Modes) (m : Machine) → timer_clock (with_modes x m) ≡ with_modes x (timer_clock m)
timer_past_modes x m = timer_past (with_modes x) m refl refl (λ t. refl) (λ t. refl)

-- A command that does not program stands.
pub plain_clocked : (c : Command) (n : Machine) → programs c ≡ false → command_clocked c n ≡ n
plain_clocked c n p = ap (λ (f : Machine → Machine). f n) (not_programming programming_clocked (λ m. m) c p)

-- What a clock that reaches timer and programming does, it does whatever the power modes are.
module _ (x : Modes) where
  abbrev Past : (Machine → Machine) → Machine → Type 0
  Past f m = f (with_modes x m) ≡ with_modes x (f m)

  end_past : (a : ℕ) (bs : List ℕ) (m : Machine) → Past (programmed a bs) m
  end_past a bs m = by (eqb (length m.held) 0)
    where
      next : ℕ
      next = (a + length bs) % 0x200

      steps : (some low : Bool) (y : Machine) →
          cond some (cond low (ended (with_access_err (with_modes x y))) (with_command (WriteE2 (programming next (take (room_in_block next) y.held) programming_clocks)) (taken (room_in_block next) (with_modes x y)))) (with_modes x y)
          ≡ with_modes x (cond some (cond low (ended (with_access_err y)) (with_command (WriteE2 (programming next (take (room_in_block next) y.held) programming_clocks)) (taken (room_in_block next) y))) y)
      steps true true y = refl
      steps true false y = refl
      steps false low y = refl

      by : (t : Bool) → cond t (raised_tx (batch_stored a bs (with_modes x m))) (settled (batch_stored a bs (with_modes x m))) ≡ with_modes x (cond t (raised_tx (batch_stored a bs m)) (settled (batch_stored a bs m)))
      by true = refl
      by false =
          sym (settled_writes (batch_stored a bs (with_modes x m)) next refl)
          ∙ steps (leb 1 (length m.held)) (ltb next 0x10) (batch_stored a bs m)
          ∙ ap (with_modes x) (settled_writes (batch_stored a bs m) next refl)

  command_past : (c : Command) (m : Machine) → Past (command_clocked c) m
  command_past c m =
      while_programming_lem (λ (f : Machine → Machine). Past f m) programming_clocked (λ n. n) c (λ a bs left is. by a bs left (leb left 1)) refl
    where
      by : (a : ℕ) (bs : List ℕ) (left : ℕ) (t : Bool) →
          cond t (programmed a bs (with_modes x m)) (with_command (WriteE2 (programming a bs (left - 1))) (with_modes x m))
          ≡ with_modes x (cond t (programmed a bs m) (with_command (WriteE2 (programming a bs (left - 1))) m))
      by a bs left true = end_past a bs m
      by a bs left false = refl

  pub reached_past_modes : (m : Machine) → Past reached m
  unfolding reached
  reached_past_modes m = ap (command_clocked m.command) (timer_past_modes x m) ∙ command_past m.command (timer_clock m)

-- A clock while a mode has hold, and one that reaches timer and programming.
pub clock_stands : (m : Machine) → stands_still m ≡ true → clock m ≡ with_modes (modes_clocked false m.status.modes) m
unfolding clock
clock_stands m h =
    ap (λ (t : Bool). cond t (with_modes (modes_clocked false m.status.modes) m) (with_modes (modes_clocked (ends_programming m.command) m.status.modes) (reached m))) h

pub clock_reaches : (m : Machine) → stands_still m ≡ false → clock m ≡ with_modes (modes_clocked (ends_programming m.command) m.status.modes) (reached m)
unfolding clock
clock_reaches m h =
    ap (λ (t : Bool). cond t (with_modes (modes_clocked false m.status.modes) m) (with_modes (modes_clocked (ends_programming m.command) m.status.modes) (reached m))) h

-- It reaches the timer alone where nothing is programmed.
pub clock_plain : (m : Machine) → stands_still m ≡ false → programs m.command ≡ false → clock m ≡ timer_clock m
unfolding reached
clock_plain m h idle =
    let x = m.status.modes in
    clock_reaches m h
    ∙ ap (λ (t : Bool). with_modes (modes_clocked t x) (reached m)) (not_programming {X = Bool} _ false m.command idle)
    ∙ ap (with_modes (modes_clocked false x)) (plain_clocked m.command (timer_clock m) idle)
    ∙ modes_stay m (timer_clock m) h (timer_modes m)

-- A clock of a programming that goes on, and of one that ends.
module _ (m : Machine) (a left : ℕ) (bs : List ℕ) (runs : stands_still m ≡ false) (is : m.command ≡ WriteE2 (programming a bs left)) where
  by_left : (t : Bool) → leb left 1 ≡ t →
      clock m ≡ with_modes (modes_clocked t m.status.modes) (cond t (programmed a bs (timer_clock m)) (with_command (WriteE2 (programming a bs (left - 1))) (timer_clock m)))
  unfolding reached
  by_left t e =
      let x = m.status.modes in
      clock_reaches m runs
      ∙ ap (λ (c : Command). with_modes (modes_clocked (ends_programming c) x) (command_clocked c (timer_clock m))) is
      ∙ ap (λ (u : Bool). with_modes (modes_clocked u x) (cond u (programmed a bs (timer_clock m)) (with_command (WriteE2 (programming a bs (left - 1))) (timer_clock m)))) e

  pub goes_on_lem : 1 < left → clock m ≡ with_command (WriteE2 (programming a bs (left - 1))) (timer_clock m)
  goes_on_lem more =
      by_left false (lt-leb left 1 more) ∙ modes_stay m (with_command (WriteE2 (programming a bs (left - 1))) (timer_clock m)) runs (timer_modes m)

  pub ends : left ≤ 1 → clock m ≡ with_modes (modes_clocked true m.status.modes) (programmed a bs (timer_clock m))
  ends last = by_left true (le-leb left 1 last)

-- What the end of a programming leaves: with no byte held WriteE2 waits for one; where the next one meets block 0 the command is over; else those that fit
-- into the block are latched.
module _ (a : ℕ) (bs : List ℕ) (m : Machine) where
  abbrev next : ℕ
  next = (a + length bs) % 0x200

  abbrev done : Machine
  done = batch_stored a bs m

  pub end_any : (P : Machine → Type 0) → P (raised_tx done) → P (ended (with_access_err done)) →
      (1 ≤ length m.held → 0x10 ≤ next → P (with_command (WriteE2 (programming next (take (room_in_block next) m.held) programming_clocks)) (taken (room_in_block next) done))) →
      P (programmed a bs m)
  end_any P waits over latches =
      by_cond P (eqb (length m.held) 0) (raised_tx done) (settled done) (λ e. waits)
      (λ e.
      let some : 1 ≤ length m.held = omega (arith, eqb-false (length m.held) 0 e) in
      subst P (ap (λ (t : Bool). cond t (latched next done) done) (sym (le-leb 1 (length m.held) some)) ∙ settled_writes done next refl)
      (by_cond P (ltb next 0x10) (ended (with_access_err done)) _ (λ f. over) (λ f. latches some (ltb-false next 0x10 f))))
