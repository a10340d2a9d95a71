-- Manual 5: the timer.
-- Assumes nothing.
use Rattle.std.specs.Prelude.{ℕ, ◌+◌, ◌-◌, ◌%◌, ◌^◌, Bool, true, false, cond, ◌||◌, ltb, eqb}
use Rattle.bits.specs.Bits.{bit_set}
use Rattle.machine.specs.State.{Machine, Timer, Interrupts, with_timer, with_requests, six_sources}
use Rattle.machine.specs.Fifo.{register_at}

-- TimerClock (2Ah) bits 4-0 and 5, TimerReload (2Ch), and the bits of TimerControl (2Bh).
abbrev pub t_pre_scaler : Machine → ℕ
t_pre_scaler m = register_at m 0x2A % 32

abbrev pub t_auto_restart : Machine → Bool
t_auto_restart m = bit_set (register_at m 0x2A) 5

abbrev pub timer_reload : Machine → ℕ
timer_reload m = register_at m 0x2C

abbrev pub t_start_tx_begin : Machine → Bool
t_start_tx_begin m = bit_set (register_at m 0x2B) 0

abbrev pub t_start_tx_end : Machine → Bool
t_start_tx_end m = bit_set (register_at m 0x2B) 1

-- With either of these bits a delivery stops the timer (manual 5.3).
abbrev pub t_stop_rx : Machine → Bool
t_stop_rx m = bit_set (register_at m 0x2B) 2 || bit_set (register_at m 0x2B) 3

-- A stopped timer keeps its value readable, and no prescaler and no phase.
abbrev pub stopped_at : ℕ → Timer
stopped_at v = record { running = false; value = v; prescaler = 0; phase = 0 }

abbrev pub running_at : ℕ → ℕ → ℕ → Timer
running_at v p k = record { running = true; value = v; prescaler = p; phase = k }

-- A start event (manual 5.1): the timer runs down from TimerReload, by the prescaler that stands in 2Ah then. From 0, or by a prescaler of 22 or more,
-- it does not run, and its value is 0.
abbrev pub loaded_timer : ℕ → ℕ → Timer
loaded_timer reload p = cond (eqb reload 0 || ltb 21 p) (stopped_at 0) (running_at reload p 0)

abbrev pub timer_started : Machine → Machine
timer_started m = with_timer (loaded_timer (timer_reload m) (t_pre_scaler m)) m

abbrev pub timer_stopped : Machine → Machine
timer_stopped m = with_timer (stopped_at m.timer.value) m

abbrev pub raised_timer : Machine → Machine
raised_timer m =
    let r = m.status.requests in with_requests (six_sources true r.tx r.rx r.idle r.hi_alert r.lo_alert) m

-- One timer step (manual 5.2, 5.3): 1 less; from 1 the timer's request is set, and the timer is stopped at 0 or, by TAutoRestart, runs again from
-- TimerReload, where that is not 0.
abbrev pub restarted : ℕ → ℕ → Timer
restarted reload p = cond (eqb reload 0) (stopped_at 0) (running_at reload p 0)

abbrev pub timer_stepped : Machine → Machine
timer_stepped m =
    cond (ltb 1 m.timer.value)
    (with_timer (running_at (m.timer.value - 1) m.timer.prescaler 0) m)
    (with_timer (cond (t_auto_restart m) (restarted (timer_reload m) m.timer.prescaler) (stopped_at 0)) (raised_timer m))

-- One clock; a timer step is due at every 2^prescaler of them (manual 5.2).
unfoldable pub timer_clock : Machine → Machine
timer_clock m =
    cond m.timer.running
    (cond (ltb (m.timer.phase + 1) (2 ^ m.timer.prescaler))
    (with_timer (running_at m.timer.value m.timer.prescaler (m.timer.phase + 1)) m)
    (timer_stepped m))
    m
