-- The stages in which a command begins, the command of each, and what a code's command does before it begins.
-- Assumes nothing.
use Rattle.std.specs.Prelude.{◌≡◌, ℕ, Bool, true, false, cond, not, ◌&&◌, ◌||◌, [], eqb}
use Rattle.machine.specs.State.{Machine, Command, with_command}
use Rattle.machine.specs.Commands.{with_key_err, checksum_started, ended, command_started}
use Rattle.state.specs.View.{core_by, command_of}
use Rattle.state.specs.Formed.{listed}

-- Any that is listed but WriteE2's with its address, which comes later.
abbrev pub begins : ℕ → Bool
begins stage = listed stage && not (eqb stage 0x41)

-- The stage's command where every other field is 0.
abbrev pub begun : ℕ → Command
begun stage = command_of (core_by (λ j. 0) (λ j. 0) (λ j. cond (eqb j 12) stage 0)) []

-- LoadKeyE2 and LoadKey clear KeyErr, and CalcCRC reads its mode and presets.
abbrev pub prepared : ℕ → Machine → Machine
prepared code m = cond (eqb code 0x0B || eqb code 0x19) (with_key_err false m) (cond (eqb code 0x12) (checksum_started m) m)

-- A code's command begins in a stage, once it has prepared.
pub record BeginsIn (code stage : ℕ) : Type 0 where
  pub begins_lem : begins stage ≡ true
  pub starts : (m : Machine) → with_command (begun stage) (prepared code m) ≡ command_started code m

-- A code has no command.
abbrev pub IsUnknown : ℕ → Type 0
IsUnknown code = (m : Machine) → ended m ≡ command_started code m
