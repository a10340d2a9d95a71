-- The single-clock rule (manual 9.7): advancing the machine by a number of clocks is the same as advancing it by so many single clocks, for every
-- machine; and so for the calls that ask for it, of every well-formed machine.
-- Assumes nothing.
use Rattle.std.specs.Prelude.{ℕ, zero, suc, ◌+◌, ◌≤◌, ◌≡◌, true, false, [], length, replicate}
use Rattle.machine.specs.State.{Machine}
use Rattle.machine.specs.Fifo.{lo_alert, hi_alert, alerted}
use Rattle.machine.specs.Refusals.{advance}
use Rattle.machine.specs.Events.{clock, clocks, advanced, done, perform, after_calls}
use Rattle.machine.specs.WellFormedness.{Formed}

-- So many advances, each by one clock.
unfoldable pub singly : ℕ → Machine → Machine
singly zero m = m
singly (suc n) m = singly n (advanced 1 m)

pub record SingleClockRule : Type 0 where
  -- An advance by no clock changes nothing.
  pub none : (m : Machine) → advanced 0 m ≡ m
  -- An advance by one clock is that clock, with the alerts judged over it.
  pub one : (m : Machine) → advanced 1 m ≡ alerted m (clock m)
  -- An advance by a sum is two advances, one after the other.
  pub sums : (a b : ℕ) (m : Machine) → advanced (a + b) m ≡ advanced b (advanced a m)
  -- An advance is so many advances by one clock.
  pub singles : (n : ℕ) (m : Machine) → advanced n m ≡ singly n m
  -- Within an advance the number of held bytes only falls,
  pub held_falls : (n : ℕ) (m : Machine) → length (clocks n m).held ≤ length m.held
  -- and registers 10h-2Fh, WaterLevel among them, stand.
  pub registers_stand : (n : ℕ) (m : Machine) → (clocks n m).registers ≡ m.registers
  -- So LoAlert can only rise and HiAlert only fall: an alert judged once over the advance agrees with one judged at each clock.
  pub lo_rises : (n : ℕ) (m : Machine) → lo_alert m ≡ true → lo_alert (clocks n m) ≡ true
  pub hi_falls : (n : ℕ) (m : Machine) → hi_alert m ≡ false → hi_alert (clocks n m) ≡ false

-- The same of calls. A machine that is not well formed refuses each of them with 7. A number of clocks has no bound here; a program's has 32 bits, so that
-- its sums are those that fit.
pub record SingleClockCalls : Type 0 where
  -- A call for any number of clocks is done: it answers so, and the machine has advanced by them.
  pub is_done : (n : ℕ) (m : Machine) → Formed m → perform m (advance n) ≡ record { answer = done; next = advanced n m; buffer = [] }
  -- A call for a sum answers and leaves what the second of two calls does, each for one part.
  pub sums : (a b : ℕ) (m : Machine) → Formed m → perform m (advance (a + b)) ≡ perform (perform m (advance a)).next (advance b)
  -- A call for n clocks leaves what n calls for one clock do.
  pub singles : (n : ℕ) (m : Machine) → Formed m → (perform m (advance n)).next ≡ after_calls m (replicate n (advance 1))
