-- What a write to Command does, by the tests that the code makes.
-- Assumes nothing.
use Prim.Native.Nat.{ℕ, ◌%◌}
use mathlib.Core.Path.{◌≡◌, refl}
use mathlib.Core.Bool.{true, false}
use lib.Dec.{lit<}
use lib.ListN.{set}
use Rattle.machine.specs.State.{Machine, with_checksum}
use Rattle.machine.specs.Commands.{programs, cleared_errors, command_started, command_written}
use Rattle.state.specs.View.{view_of, with_numbers}
use Rattle.state.specs.Turns.{Sizes, Turned}
use Rattle.state.specs.declared.Chip.{Chip}
use Rattle.state.proofs.StoreLaws.{set_number}

-- The CRC register, and the mode, become numbers.
abbrev pub with_mode : ℕ → Machine → Machine
with_mode x m = with_checksum (record { register = m.checksum.register; mode = x }) m

abbrev pub with_register : ℕ → Machine → Machine
with_register x m = with_checksum (record { register = x; mode = m.checksum.mode }) m

pub register_stored : (x : ℕ) (c : Chip) → Sizes c → Turned (with_register x) c (with_numbers (set c.numbers 0 x) c)
unfolding view_of
register_stored x c sizes = set_number (with_register x) 0 x c (lit< tt) refl sizes refl

-- A write, by whether programming runs.
module _ (v : ℕ) (m : Machine) where
  pub write_ignored : programs m.command ≡ true → m ≡ command_written v m
  unfolding command_written
  write_ignored e = rw e refl

  pub write_starts : programs m.command ≡ false → command_started (v % 64) (cleared_errors m) ≡ command_written v m
  unfolding command_written
  write_starts e = rw e refl
