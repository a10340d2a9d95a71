-- What the code judges: a chip, and the states that a host meets most of the time.
-- Assumes nothing.
use Rattle.std.specs.Prelude.{ℕ, Bool, cond, not, ◌&&◌, ◌≡◌, ltb, leb, eqb}
use Rattle.crc.specs.Checksum.{crc8_bit}
use Rattle.machine.specs.WellFormed.{bits_formed}
use Rattle.state.specs.View.{Core, core, held_count}
use Rattle.state.specs.Formed.{chip_formed}
use Rattle.state.specs.Turns.{Sizes}
use Rattle.state.specs.declared.Chip.{Chip}
use Rattle.state_clauses.specs.Clauses.{flags_formed, timer_fields_formed}

-- A function that reads fields: its answer is what a definition gives of them.
abbrev pub ReadsFields : (Core → Bool) → Chip → Bool → Type 0
ReadsFields f c r = r ≡ f (core c)

-- A function that judges: its answer is whether the chip is well formed. A contract doesn't see how long an array of a lent chip is, so this takes it from the
-- caller.
abbrev pub Judges : Chip → Bool → Type 0
Judges c r = Sizes c → r ≡ chip_formed c

-- The first eight bytes of state have 0 where they always read 0, Control is 0, and CRC8 is 0.
abbrev pub first_clear : ℕ → ℕ → ℕ → ℕ → ℕ → ℕ → ℕ → ℕ → Bool
first_clear page control loaded last enables mode requests errors =
    (eqb control 0 && bits_formed page last) && (flags_formed loaded enables requests errors && not (crc8_bit mode))

-- Idle with at most 64 bytes held, or CalcCRC with none.
abbrev pub rests_with : ℕ → ℕ → Bool
rests_with stage count = cond (eqb stage 0x00) (leb count 64) (eqb stage 0x12 && eqb count 0)

-- The states that a host meets most of the time, but for the edition: every bit of the first eight bytes that always reads 0 is 0, Control is 0 and CRC8 is 0, no
-- programming clocks are left, no power mode has a number, the next address is below 200h, Idle holds at most 64 bytes or CalcCRC none, and the timer is formed.
abbrev pub usual_with : ℕ → Bool → Core → Bool
usual_with next off k =
    (first_clear k.page k.control k.key_loaded k.rx_last_bits k.enables k.crc_mode k.requests k.errors && (eqb k.left 0 && off))
    && (ltb next 0x200
    && (rests_with k.stage (held_count k.read k.write) && timer_fields_formed k.running k.value k.prescaler k.phase))

-- Of the chip's own next address and numbers of the power modes.
abbrev pub usual : Core → Bool
usual k = usual_with k.next (eqb k.stand_by 0 && eqb k.power_down 0) k
