-- What a function on a chip promises, and, where it looks at some of the arrays alone, what it promises whatever the others are.
-- Assumes nothing.
use Rattle.std.specs.Prelude.{◌≡◌, ℕ, ◌<◌, Bool, true, List, length}
use Rattle.bits.specs.Bits.{bit_set}
use Rattle.machine.specs.State.{Machine}
use Rattle.state.specs.View.{at, held_count, view}
use Rattle.state.specs.Formed.{byte_formed, fields_formed}
use Rattle.state.specs.declared.Chip.{Chip}

-- What every chip is by the types of its arrays.
pub record Sizes (c : Chip) : Type 0 where
  pub clock_count : length c.clocks ≡ 2
  pub number_count : length c.numbers ≡ 6
  pub state_count : length c.state ≡ 24
  pub register_count : length c.registers ≡ 32
  pub slot_count : length c.slots ≡ 64
  pub latch_count : length c.latch ≡ 16
  pub key_count : length c.key ≡ 6
  pub eeprom_count : length c.eeprom ≡ 512

-- The machine of the next chip is f's of the one before, and fields that agree with each other go on agreeing.
pub record Turned (f : Machine → Machine) (before after : Chip) : Type 0 where
  pub machine : view after ≡ f (view before)
  pub sizes : Sizes after
  pub fields : fields_formed before ≡ true → fields_formed after ≡ true

-- A contract doesn't see how long an array of a lent chip is, so this takes it from the caller, and `Turned` says it of the next chip too.
abbrev pub Turns : (Machine → Machine) → Chip → Chip → Type 0
Turns f before after = Sizes before → Turned f before after

-- The same, whatever the arrays are that a function doesn't look at: `lent` puts the others, those that it looks at or changes, into any chip.
abbrev pub TurnsAny : (Chip → Chip → Chip) → (Machine → Machine) → Chip → Chip → Type 0
TurnsAny lent f before after = (c : Chip) → Turns f (lent before c) (lent after c)

-- A function that turns the machine, and answers how many bytes were lost on the way, which `lost` gives of the machine before.
abbrev pub TurnsLosing : (Machine → Machine) → (Machine → ℕ) → Chip → Chip → ℕ → Type 0
TurnsLosing f lost before after r = Sizes before → Turned f before after × (r ≡ lost (view before))

abbrev pub TurnsLosingAny : (Chip → Chip → Chip) → (Machine → Machine) → (Machine → ℕ) → Chip → Chip → ℕ → Type 0
TurnsLosingAny lent f lost before after r = (c : Chip) → TurnsLosing f lost (lent before c) (lent after c) r

-- A function that reads: its answer is what a definition gives of the machine.
abbrev pub Reads : {A : Type 0} → (Machine → A) → Chip → A → Type 0
Reads f c r = r ≡ f (view c)

-- How many bytes the FIFO holds, from its positions, which are bytes.
pub record Counts (read write count : ℕ) : Type 0 where
  pub counted : count ≡ held_count read write
  pub read_fits : read < 256
  pub write_fits : write < 256

abbrev pub Holds : List ℕ → ℕ → Type 0
Holds state count = Counts (at state 13) (at state 14) count

-- A byte of Control has these bits for StandBy and PowerDown, and no others.
pub record ControlIs (stand_by power_down : Bool) (control : ℕ) : Type 0 where
  pub stand_by_lem : bit_set control 5 ≡ stand_by
  pub power_down_lem : bit_set control 4 ≡ power_down
  pub formed : byte_formed 1 control ≡ true
