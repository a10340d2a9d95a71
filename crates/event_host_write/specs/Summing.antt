-- What CalcCRC does with a write where nothing is held: it begins, and it takes a byte that never waits in the FIFO.
-- Assumes nothing.
use Rattle.std.specs.Prelude.{ℕ, ◌%◌, Bool, ◌&&◌, ◌≡◌, eqb}
use Rattle.crc.specs.Checksum.{absorbed}
use Rattle.machine.specs.State.{Machine, CalcCRC, with_checksum, with_command}
use Rattle.machine.specs.Commands.{raised_tx, cleared_errors, checksum_started}
use Rattle.state.specs.View.{core}
use Rattle.state.specs.Turns.{Sizes, Turned}
use Rattle.state.specs.declared.Chip.{Chip}

-- A byte goes into the checksum, and TxIRq is set.
abbrev pub byte_summed : ℕ → Machine → Machine
byte_summed v m =
    raised_tx (with_checksum (record { register = absorbed m.checksum.mode m.checksum.register v; mode = m.checksum.mode }) m)

-- CalcCRC is active, with AccessErr, CRCErr and ParityErr cleared, and with its mode and presets.
abbrev pub checksum_begun : Machine → Machine
checksum_begun m = with_command CalcCRC (checksum_started (cleared_errors m))

-- Only that happens: the code in bits 5-0 is CalcCRC's, no byte is held, and no programming clocks are left.
abbrev pub only_begins : ℕ → ℕ → ℕ → Bool
only_begins v held left = eqb (v % 64) 0x12 && (eqb held 0 && eqb left 0)

-- A function promises a turn where no programming clocks are left.
abbrev pub TurnsUnprogrammed : (Machine → Machine) → Chip → Chip → Type 0
TurnsUnprogrammed f before after = (core before).left ≡ 0 → Sizes before → Turned f before after
