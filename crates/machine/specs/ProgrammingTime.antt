-- The 78,648 clocks of a programming (manual 6.3), of every machine and at every address: all of them are left when a batch is latched, each clock that
-- reaches it takes one, and nothing that the host writes takes or adds any. No example can say this.
-- Assumes nothing.
use Rattle.std.specs.Prelude.{ℕ, ◌-◌, ◌<◌, ◌≤◌, true, false, List, ◌≡◌}
use Rattle.machine.specs.State.{Machine, WriteE2, programming}
use Rattle.machine.specs.Memory.{programming_clocks}
use Rattle.machine.specs.Commands.{programs}
use Rattle.machine.specs.Power.{stands_still}
use Rattle.machine.specs.Refusals.{host_write}
use Rattle.machine.specs.Events.{clock, perform}

pub record ProgrammingTime : Type 0 where
  -- a host write latches the batch
  pub write_begins :
      (m : Machine) (address v a left : ℕ) (bs : List ℕ) → programs m.command ≡ false →
      (perform m (host_write address v)).next.command ≡ WriteE2 (programming a bs left) → left ≡ programming_clocks
  -- the last clock of the batch before latches it
  pub clock_begins :
      (m : Machine) (a left b left' : ℕ) (bs cs : List ℕ) → stands_still m ≡ false → m.command ≡ WriteE2 (programming a bs left) → left ≤ 1 →
      (clock m).command ≡ WriteE2 (programming b cs left') → left' ≡ programming_clocks
  -- a clock before the last
  pub one_fewer :
      (m : Machine) (a left : ℕ) (bs : List ℕ) → stands_still m ≡ false → m.command ≡ WriteE2 (programming a bs left) → 1 < left →
      (clock m).command ≡ WriteE2 (programming a bs (left - 1))
  -- a clock while a power mode has hold
  pub none_fewer : (m : Machine) → stands_still m ≡ true → (clock m).command ≡ m.command
  -- a host write meanwhile
  pub write_leaves :
      (m : Machine) (address v a left : ℕ) (bs : List ℕ) → m.command ≡ WriteE2 (programming a bs left) →
      (perform m (host_write address v)).next.command ≡ WriteE2 (programming a bs left)
