-- What clocks do to the arrays of a chip.
-- Assumes nothing.
use Rattle.std.specs.Prelude.{ℕ, zero, suc, ◌+◌, ◌-◌, ◌%◌, ◌≤◌, Bool, true, false, cond, ◌&&◌, ◌||◌, List, ◌≡◌, ltb, leb, eqb, get_or, set}
use Rattle.machine.specs.State.{Machine, WriteE2, programming, while_programming, with_command, with_modes}
use Rattle.machine.specs.Power.{modes_clocked, stands_still}
use Rattle.machine.specs.WellFormedness.{Formed}
use Rattle.machine.specs.Events.{programmed, clocks}
use Rattle.state.specs.View.{view}
use Rattle.state.specs.Formed.{fields_formed}
use Rattle.state.specs.Turns.{Sizes, Turned}
use Rattle.state.specs.declared.Chip.{Chip}

-- So many bytes of the latch stored from an address on, each place by its remainder: 512 of the EEPROM's, 16 of the latch's.
unfoldable pub stored_wrapped : List ℕ → List ℕ → ℕ → ℕ → List ℕ
stored_wrapped eeprom latch address zero = eeprom
stored_wrapped eeprom latch address (suc n) = set (stored_wrapped eeprom latch address n) ((address + n) % 512) (get_or latch (n % 16) 0)

-- The programming that runs ends; and it goes on, with so many clocks left.
abbrev pub programming_ended : Machine → Machine
programming_ended m = while_programming (λ a bs left. programmed a bs m) m m.command

abbrev pub programming_left : ℕ → Machine → Machine
programming_left n m = while_programming (λ a bs left. with_command (WriteE2 (programming a bs n)) m) m m.command

-- The machine turns by a function where the chip's own fields agree; where no power mode has hold besides; where the chip is well formed; and where both are so.
abbrev pub TurnsAgreeing : (Machine → Machine) → Chip → Chip → Type 0
TurnsAgreeing f before after = Sizes before → fields_formed before ≡ true → Turned f before after

abbrev pub TurnsRunning : (Machine → Machine) → Chip → Chip → Type 0
TurnsRunning f before after = Sizes before → fields_formed before ≡ true → stands_still (view before) ≡ false → Turned f before after

abbrev pub TurnsFormed : (Machine → Machine) → Chip → Chip → Type 0
TurnsFormed f before after = Sizes before → fields_formed before ≡ true → Formed (view before) → Turned f before after

abbrev pub TurnsReaching : (Machine → Machine) → Chip → Chip → Type 0
TurnsReaching f before after = Sizes before → fields_formed before ≡ true → Formed (view before) → stands_still (view before) ≡ false → Turned f before after

-- A function that reads a chip whose own fields agree.
abbrev pub ReadsAgreeing : {A : Type 0} → (Machine → A) → Chip → A → Type 0
ReadsAgreeing f c r = fields_formed c ≡ true → r ≡ f (view c)

-- A mode that has waited takes hold behind the end of a programming.
abbrev pub hold_taken : Machine → Machine
hold_taken m = with_modes (modes_clocked true m.status.modes) m

-- How many of so many clocks begin while the mode of a number has hold: none; all, where it is not being left; or those that its leaving has to go.
abbrev pub standing : ℕ → ℕ → ℕ
standing number by = cond (ltb number 0x8000) 0 (cond (eqb number 0x8000 || ltb by (number - 0x8000)) by (number - 0x8000))

-- The leaving of that number is over within so many clocks; what its number is after them.
abbrev pub left_within : ℕ → ℕ → Bool
left_within number by = ltb 0x8000 number && leb (number - 0x8000) by

abbrev pub number_after : ℕ → ℕ → ℕ
number_after number by = cond (leb number 0x8000) number (cond (leb (number - 0x8000) by) 0 (number - by))

-- So many clocks of which the first ones begin while a mode has hold: these are done, and `rest` are left, in which none has hold.
pub record StoodBy (by rest : ℕ) (before after : Chip) : Type 0 where
  pub within : rest ≤ by
  pub stood : Turned (clocks (by - rest)) before after
  pub reaches : (rest ≡ 0 → ⊥) → stands_still (view after) ≡ false

-- Of a chip that is well formed.
abbrev pub Stands : ℕ → Chip → Chip → ℕ → Type 0
Stands by before after rest = Sizes before → fields_formed before ≡ true → Formed (view before) → StoodBy by rest before after
