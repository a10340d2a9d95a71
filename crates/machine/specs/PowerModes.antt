-- What holds of the power modes (manual 9.10), of every machine: no clock of a mode changes timer or programming, the first one behind its leaving does, and its
-- bit reads 1 until the last clock of the leaving. The last fields are examples.
-- Assumes nothing.
use Rattle.std.specs.Prelude.{ℕ, suc, ◌-◌, ◌<◌, ◌≤◌, Bool, true, false, cond, ◌||◌, List, [], ◌∷◌, ◌++◌, ◌≡◌, leb, eqb, replicate}
use Rattle.machine.specs.State.{Machine, Mode, Modes, off, waiting, in_hold, leaving, with_modes}
use Rattle.machine.specs.Memory.{bytes_from, programming_clocks}
use Rattle.machine.specs.Power.{has_hold, modes_clocked, stands_still}
use Rattle.machine.specs.Refusals.{Call, host_read, host_write, advance, take_frame}
use Rattle.machine.specs.Events.{Answer, byte, frame, refused, ends_programming, reached, clock, clocks, perform}
use Rattle.machine.specs.WellFormedness.{Formed}
use Rattle.machine.specs.Numbers.{command}
use Rattle.machine.specs.Lost.{on_linear, answered}

-- A mode after so many clocks in which no programming ends.
abbrev pub mode_after : ℕ → Mode → Mode
mode_after n off = off
mode_after n waiting = waiting
mode_after n in_hold = in_hold
mode_after n (leaving k) = cond (leb k n) off (leaving (k - n))

abbrev pub modes_after : ℕ → Modes → Modes
modes_after n x = record { stand_by = mode_after n x.stand_by; power_down = mode_after n x.power_down }

-- It has hold as each of so many clocks begins.
abbrev pub holds_for : ℕ → Mode → Bool
holds_for n off = eqb n 0
holds_for n waiting = eqb n 0
holds_for n in_hold = true
holds_for n (leaving k) = leb n k

-- One of the two has.
abbrev pub stands_for : ℕ → Modes → Bool
stands_for n x = holds_for n x.stand_by || holds_for n x.power_down

-- Neither has hold after so many clocks.
abbrev pub LeftAfter : ℕ → Modes → Type 0
LeftAfter n x = (has_hold (mode_after n x.stand_by) ≡ false) × (has_hold (mode_after n x.power_down) ≡ false)

-- The leaving of one of the two, whatever the other is: its clocks are all that are given.
pub record Leaving (of : Modes → Mode) : Type 0 where
  -- the bit reads 1 before the last of its clocks
  pub lasts : (m : Machine) (n k : ℕ) → of m.status.modes ≡ leaving n → k < n → of (clocks k m).status.modes ≡ leaving (n - k)
  -- and with the last one the mode is off
  pub ends : (m : Machine) (n : ℕ) → of m.status.modes ≡ leaving n → 1 ≤ n → of (clocks n m).status.modes ≡ off

-- TimerReload 255 with prescaler 0, a timer that is started by the same write to Control as a mode is set (22h), and that mode left, with clocks behind.
abbrev pub left_running : ℕ → Machine
left_running n = on_linear (host_write 0x2C 0xFF ∷ host_write 0x2A 0x00 ∷ host_write 0x09 0x22 ∷ host_write 0x09 0x00 ∷ advance n ∷ [])

-- What Control reads after writes to it and clocks behind them.
abbrev pub control : List Call → Answer
control calls = answered calls (host_read 0x09)

-- WriteE2 of one byte at 030h.
abbrev pub one_byte : List Call
one_byte = command 0x01 (0x30 ∷ 0x00 ∷ 0xEE ∷ [])

pub record PowerModes : Type 0 where
  -- While a mode has hold, clocks change nothing but the leavings: not the timer, not a programming, and no byte.
  pub stands : (n : ℕ) (m : Machine) → Formed m → stands_for n m.status.modes ≡ true → clocks n m ≡ with_modes (modes_after n m.status.modes) m
  -- The clock behind them is the first that reaches timer and programming again, and it finds them as the mode did.
  pub reaches_again :
      (n : ℕ) (m : Machine) → Formed m → stands_for n m.status.modes ≡ true → LeftAfter n m.status.modes →
      clocks (suc n) m ≡ with_modes (modes_clocked (ends_programming m.command) (modes_after n m.status.modes)) (reached m)
  -- Each of the two by its own count.
  pub stand_by_lem : Leaving (λ x. x.stand_by)
  pub power_down_lem : Leaving (λ x. x.power_down)
  -- StandBy is left in four clocks, of which the timer gets none; it gets the fifth
  pub timer_at_4 : (left_running 4).timer.value ≡ 255
  pub timer_at_5 : (left_running 5).timer.value ≡ 254
  -- both left together: 30h for three clocks, and 10h until the 512th
  pub both_at_3 : control (host_write 0x09 0x30 ∷ host_write 0x09 0x00 ∷ advance 3 ∷ []) ≡ byte 0x30
  pub both_at_4 : control (host_write 0x09 0x30 ∷ host_write 0x09 0x00 ∷ advance 4 ∷ []) ≡ byte 0x10
  pub both_at_511 : control (host_write 0x09 0x30 ∷ host_write 0x09 0x00 ∷ advance 511 ∷ []) ≡ byte 0x10
  pub both_at_512 : control (host_write 0x09 0x30 ∷ host_write 0x09 0x00 ∷ advance 512 ∷ []) ≡ byte 0x00
  -- a 1 ends a leaving, and the next one takes all its clocks; a 0 changes nothing
  pub kept_anew : control (host_write 0x09 0x20 ∷ host_write 0x09 0x00 ∷ advance 3 ∷ host_write 0x09 0x20 ∷ host_write 0x09 0x00 ∷ advance 1 ∷ []) ≡ byte 0x20
  pub left_again : control (host_write 0x09 0x20 ∷ host_write 0x09 0x00 ∷ advance 3 ∷ host_write 0x09 0x00 ∷ advance 1 ∷ []) ≡ byte 0x00
  -- a bit set while a programming runs stops nothing, and can be taken back at once
  pub waits : (on_linear (one_byte ++ host_write 0x09 0x10 ∷ [])).status.modes.power_down ≡ waiting
  pub taken_back : control (one_byte ++ host_write 0x09 0x10 ∷ host_write 0x09 0x00 ∷ []) ≡ byte 0x00
  -- the programming goes on to its end, where the mode takes hold
  pub ends_in_hold : (on_linear (one_byte ++ host_write 0x09 0x10 ∷ advance programming_clocks ∷ [])).status.modes.power_down ≡ in_hold
  pub ends_stored : bytes_from (on_linear (one_byte ++ host_write 0x09 0x10 ∷ advance programming_clocks ∷ [])).eeprom 0x30 1 ≡ 0xEE ∷ []
  -- a frame is not taken while a mode has hold, its leaving included
  pub frame_waits_lem : answered (host_write 0x02 0x26 ∷ host_write 0x01 0x1E ∷ host_write 0x09 0x20 ∷ host_write 0x09 0x00 ∷ advance 3 ∷ []) (take_frame (replicate 66 0x00)) ≡ refused 4
  pub frame_taken : answered (host_write 0x02 0x26 ∷ host_write 0x01 0x1E ∷ host_write 0x09 0x20 ∷ host_write 0x09 0x00 ∷ advance 4 ∷ []) (take_frame (replicate 66 0x00)) ≡ frame 1 0
