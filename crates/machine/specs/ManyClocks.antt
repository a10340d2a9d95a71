-- Many clocks at once (manual 5.2, 6.3 and 9.7). The definition goes clock by clock; here stands what so many clocks leave without going through them:
-- the timer by a division and a remainder, a programming by its count, and the clocks split where a programming ends. At most six end, however many
-- clocks come. What clocks do while a power mode has hold is said in PowerModes. The last fields are examples.
-- Assumes nothing.
use Rattle.std.specs.Prelude.{ℕ, zero, suc, ◌+◌, ◌-◌, ◌/◌, ◌%◌, ◌^◌, ◌<◌, ◌≤◌, true, false, cond, not, ◌&&◌, List, [], ◌∷◌, ◌++◌, ◌≡◌, ltb, eqb}
use Rattle.machine.specs.State.{Machine, WriteE2, programming, with_command, with_timer, with_modes}
use Rattle.machine.specs.Timer.{t_auto_restart, timer_reload, stopped_at, running_at, raised_timer}
use Rattle.machine.specs.Memory.{bytes_from}
use Rattle.machine.specs.Commands.{programs}
use Rattle.machine.specs.Power.{modes_clocked, stands_still}
use Rattle.machine.specs.Refusals.{Call, advance}
use Rattle.machine.specs.Events.{programmed, ends_programming, clock, clocks}
use Rattle.machine.specs.WellFormedness.{Formed}
use Rattle.machine.specs.Numbers.{after_start, command, timer_run}

-- A running timer after so many steps, and so many clocks of the next one. Fewer steps than its value are taken off it. With as many or more the request is set;
-- by TAutoRestart, where TimerReload is not 0, the steps left over have gone round TimerReload, and else the timer is stopped at 0.
abbrev pub after_steps : ℕ → ℕ → Machine → Machine
after_steps steps phase m =
    let value = m.timer.value in
    let prescaler = m.timer.prescaler in
    let reload = timer_reload m in
    cond (ltb steps value)
    (with_timer (running_at (value - steps) prescaler phase) m)
    (with_timer
    (cond (t_auto_restart m && not (eqb reload 0)) (running_at (reload - (steps - value) % reload) prescaler phase) (stopped_at 0))
    (raised_timer m))

-- The timer after so many clocks: each 2^prescaler of them, with those of the step that had begun, are a step.
unfoldable pub timer_after : ℕ → Machine → Machine
timer_after n m =
    let total = m.timer.phase + n in
    let period = 2 ^ m.timer.prescaler in
    cond m.timer.running (after_steps (total / period) (total % period) m) m

-- How many programmings end within so many clocks: with each that is the last of one and reaches it.
abbrev pub ends_next : Machine → ℕ
ends_next m = cond (stands_still m) 0 (cond (ends_programming m.command) 1 0)

unfoldable pub ends_within : ℕ → Machine → ℕ
ends_within zero m = 0
ends_within (suc n) m = ends_next m + ends_within n (clock m)

-- Five bytes for 16Ch, and one advance: the first is programmed alone, the next three up to the end of its block, and the last in the block behind.
abbrev pub five_written : List Call
five_written = command 0x01 (0x6C ∷ 0x01 ∷ 0xD1 ∷ 0xD2 ∷ 0xD3 ∷ 0xD4 ∷ 0xD5 ∷ [])

abbrev pub five_bytes : ℕ → Machine
five_bytes n = after_start (five_written ++ advance n ∷ [])

pub record ManyClocks : Type 0 where
  -- The clocks of a sum are those of its parts, one after the other.
  pub in_parts : (a b : ℕ) (m : Machine) → clocks (a + b) m ≡ clocks b (clocks a m)
  -- Where nothing is programmed and no mode has hold, clocks reach the timer alone.
  pub timer_alone : (n : ℕ) (m : Machine) → Formed m → stands_still m ≡ false → programs m.command ≡ false → clocks n m ≡ timer_after n m
  -- While a programming has clocks left, they fall by so many.
  pub before_end :
      (n : ℕ) (m : Machine) (a left : ℕ) (bs : List ℕ) → Formed m → stands_still m ≡ false → m.command ≡ WriteE2 (programming a bs left) → n < left →
      clocks n m ≡ with_command (WriteE2 (programming a bs (left - n))) (timer_after n m)
  -- The last of them ends it, and then a mode that has waited takes hold.
  pub at_end :
      (m : Machine) (a left : ℕ) (bs : List ℕ) → Formed m → stands_still m ≡ false → m.command ≡ WriteE2 (programming a bs left) →
      clocks left m ≡ with_modes (modes_clocked true m.status.modes) (programmed a bs (timer_after left m))
  -- At most six programmings end: the one that runs, that of the bytes that fill its block, and four of a block each.
  pub at_most_six : (n : ℕ) (m : Machine) → Formed m → ends_within n m ≤ 6
  -- Three programmings take three times 78,648 clocks, and not one less.
  pub five_bytes_at_235944 : bytes_from (five_bytes 235_944).eeprom 0x16C 5 ≡ 0xD1 ∷ 0xD2 ∷ 0xD3 ∷ 0xD4 ∷ 0xD5 ∷ []
  pub five_bytes_at_235943 : bytes_from (five_bytes 235_943).eeprom 0x16C 5 ≡ 0xD1 ∷ 0xD2 ∷ 0xD3 ∷ 0xD4 ∷ 0x00 ∷ []
  pub five_bytes_request : (five_bytes 235_944).status.requests.tx ≡ true
  pub five_bytes_no_request : (five_bytes 235_943).status.requests.tx ≡ false
  -- The longest that a timer runs: TimerReload 255, TPreScaler 21.
  pub longest_run_ends : (after_start (timer_run 255 21 534_773_760)).status.requests.timer ≡ true
  pub longest_run_lasts : (after_start (timer_run 255 21 534_773_759)).status.requests.timer ≡ false
  -- The most clocks of one call, with a timer that restarts: TimerReload 3 and TPreScaler 1, and TimerReload 1 and TPreScaler 0.
  pub restarts_3 : (after_start (timer_run 3 0x21 4_294_967_295)).timer ≡ running_at 2 1 1
  pub restarts_1 : (after_start (timer_run 1 0x20 4_294_967_295)).timer ≡ running_at 1 0 0
