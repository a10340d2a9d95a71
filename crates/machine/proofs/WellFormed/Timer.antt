-- The timer stays well formed: when it is started and stopped, and with every clock.
-- Assumes nothing.
use Prim.Native.Nat.{ℕ, zero, suc, ◌+◌, ◌-◌, ◌^◌, ◌≤◌, ◌<◌}
use mathlib.Core.Path.{◌≡◌, refl}
use mathlib.Core.Bool.{Bool, true, false, cond, ◌||◌, true≢false}
use native.Mathlib.Omega.{arith}
use lib.Dec.{ltb, leb, eqb}
use lib.Pow.{pow_pos}
use borrow.Author.Tests.{ltb-true, ltb-false, leb-true, lt-ltb, le-leb}
use Rattle.bits.proofs.Bytes.{byte_at}
use Rattle.machine.specs.State.{Machine, Timer, Command, with_timer}
use Rattle.machine.specs.Timer.{t_pre_scaler, t_auto_restart, timer_reload, stopped_at, running_at, loaded_timer, restarted, timer_started, timer_stopped, timer_stepped, timer_clock}
use Rattle.machine.specs.WellFormed.{timer_formed}
use Rattle.machine.proofs.Cases.{by_cond, either, neither}
use Rattle.machine.proofs.WellFormed.Parts.{Almost, Good, both, each, new_timer}

-- A number that is not 0 is at least 1.
positive : (n : ℕ) → eqb n 0 ≡ false → 1 ≤ n
positive zero h = absurd (true≢false h)
positive (suc n) h = omega arith

-- A running timer with these is formed.
running_formed : (v p k : ℕ) → 1 ≤ v → v ≤ 255 → p ≤ 21 → k < 2 ^ p → timer_formed (running_at v p k) ≡ true
running_formed v p k low high scaled phased = both (le-leb 1 v low) (both (le-leb v 255 high) (both (le-leb p 21 scaled) (lt-ltb k (2 ^ p) phased)))

-- What a running timer has.
pub record Running (t : Timer) : Type 0 where
  pub low : 1 ≤ t.value
  high : t.value ≤ 255
  pub scaled : t.prescaler ≤ 21
  pub phased : t.phase < 2 ^ t.prescaler

pub running : (t : Timer) → t.running ≡ true → timer_formed t ≡ true → Running t
running t on h =
    let (low, h₁) = each (leb 1 t.value) _ (rw on at h) in
    let (high, h₂) = each (leb t.value 255) _ h₁ in
    let (scaled, phased) = each (leb t.prescaler 21) _ h₂ in
    record { low = leb-true 1 t.value low; high = leb-true t.value 255 high; scaled = leb-true t.prescaler 21 scaled; phased = ltb-true t.phase (2 ^ t.prescaler) phased }

-- A timer that is loaded is stopped or formed, and so is one that restarts.
loaded_formed : (reload p : ℕ) → reload < 256 → timer_formed (loaded_timer reload p) ≡ true
loaded_formed reload p small = by_cond (λ t. timer_formed t ≡ true) (eqb reload 0 || ltb 21 p) (stopped_at 0) (running_at reload p 0) (λ e. refl) runs
  where
    runs : (eqb reload 0 || ltb 21 p) ≡ false → timer_formed (running_at reload p 0) ≡ true
    runs e = let (some, low) = neither (eqb reload 0) (ltb 21 p) e in running_formed reload p 0 (positive reload some) (omega arith) (ltb-false 21 p low) (pow_pos p)

restarted_formed : (reload p : ℕ) → reload < 256 → p ≤ 21 → timer_formed (restarted reload p) ≡ true
restarted_formed reload p small low =
    by_cond (λ t. timer_formed t ≡ true) (eqb reload 0) (stopped_at 0) (running_at reload p 0) (λ e. refl)
    (λ e. running_formed reload p 0 (positive reload e) (omega arith) low (pow_pos p))

-- A start event, and a stop.
pub started_almost : (m : Machine) → Almost m → Almost (timer_started m)
started_almost m a = new_timer a (loaded_timer (timer_reload m) (t_pre_scaler m)) (loaded_formed (timer_reload m) (t_pre_scaler m) (byte_at m.registers 0x1C a.registers.bytes))

pub stopped_almost : (m : Machine) → Almost m → Almost (timer_stopped m)
stopped_almost m a = new_timer a (stopped_at m.timer.value) refl

-- A good machine whose command is c.
abbrev pub GoodAs : Command → Machine → Type 0
GoodAs c m = Good m × (m.command ≡ c)

-- A clock of the timer keeps the machine good, and its command.
pub ticked : (m : Machine) → Good m → GoodAs m.command (timer_clock m)
unfolding timer_clock
ticked m (a, r) = by_cond P m.timer.running _ m (λ on. clocked (running m.timer on a.timer)) (λ off. ((a, r), refl))
  where
    P : Machine → Type 0
    P = GoodAs m.command

    reload_small : timer_reload m < 256
    reload_small = byte_at m.registers 0x1C a.registers.bytes

    with_timer_lem : (t : Timer) → timer_formed t ≡ true → P (with_timer t m)
    with_timer_lem t h = ((new_timer a t h, r), refl)

    -- a step from a value above 1
    falls : Running m.timer → 1 < m.timer.value → P (with_timer (running_at (m.timer.value - 1) m.timer.prescaler 0) m)
    falls t above =
        with_timer_lem (running_at (m.timer.value - 1) m.timer.prescaler 0)
        (running_formed (m.timer.value - 1) m.timer.prescaler 0 (omega arith) (omega (arith, t.high)) t.scaled (pow_pos m.timer.prescaler))

    -- a step from 1
    again : Running m.timer → timer_formed (cond (t_auto_restart m) (restarted (timer_reload m) m.timer.prescaler) (stopped_at 0)) ≡ true
    again t = either (λ x. timer_formed x ≡ true) (t_auto_restart m) _ (stopped_at 0) (restarted_formed (timer_reload m) m.timer.prescaler reload_small t.scaled) refl

    clocked : Running m.timer → P (cond (ltb (m.timer.phase + 1) (2 ^ m.timer.prescaler)) (with_timer (running_at m.timer.value m.timer.prescaler (m.timer.phase + 1)) m) (timer_stepped m))
    clocked t =
        by_cond P (ltb (m.timer.phase + 1) (2 ^ m.timer.prescaler)) _ (timer_stepped m)
        (λ e. with_timer_lem (running_at m.timer.value m.timer.prescaler (m.timer.phase + 1)) (running_formed _ _ _ t.low t.high t.scaled (ltb-true (m.timer.phase + 1) (2 ^ m.timer.prescaler) e)))
        (λ e. by_cond P (ltb 1 m.timer.value) _ _ (λ e. falls t (ltb-true 1 m.timer.value e)) (λ e. with_timer_lem _ (again t)))
