-- When a chip is well formed (manual 10.3), clause by clause. `machine` judges what a machine shows (its WellFormed.antt); here stands what
-- only the chip's own fields show. A field that the active command does not use is judged only where a clause names it.
-- Assumes nothing.
use Rattle.std.specs.Prelude.{ℕ, ◌+◌, ◌/◌, ◌%◌, Bool, true, cond, not, ◌&&◌, ◌||◌, ◌==◌, nat_le, nat_lt}
use Rattle.bits.specs.Bits.{bit, bit_set}
use Rattle.bits.proofs.Below.{all}
use Rattle.edition.specs.Edition.{is_number}
use Rattle.machine.specs.WellFormed.{well_formed}
use Rattle.state.specs.View.{Core, at, core, view, batch_start}
use Rattle.state.specs.declared.Chip.{Chip}

-- The stages that there are: a code of manual 7.1, with bits 7 and 6 as that command has them.
abbrev pub listed : ℕ → Bool
listed stage =
    (stage == 0x00)
    || (stage == 0x01
    || (stage == 0x41
    || (stage == 0x03
    || (stage == 0x07
    || (stage == 0x0B
    || (stage == 0x12
    || (stage == 0x19
    || (stage == 0x5A
    || (stage == 0x96
    || (stage == 0x5E
    || stage == 0x9E))))))))))

-- WriteE2 is active, with its address or without.
abbrev pub writes : ℕ → Bool
writes stage = stage == 0x01 || stage == 0x41

-- Between 1 and 16 bytes are latched, and they lie in one block, which is not block 0.
abbrev pub batch_fits : ℕ → ℕ → Bool
batch_fits next latched =
    nat_le 1 latched && (nat_le latched 16 && (nat_le (batch_start next latched % 16 + latched) 16 && nat_le 0x10 (batch_start next latched)))

-- Two tests agree.
abbrev pub agree : Bool → Bool → Bool
agree a b = cond a b (not b)

-- Clocks are left just where such a batch is latched within WriteE2; and the next address is one of the 200h.
abbrev pub stage_formed : ℕ → ℕ → ℕ → ℕ → Bool
stage_formed stage latched left next = listed stage && (agree (nat_lt 0 left) (writes stage && batch_fits next latched) && nat_lt next 0x200)

-- A power mode that has hold has its bit of Control, and only one with hold is being left: its number is 0, or both are there.
abbrev pub mode_agrees : Bool → ℕ → Bool
mode_agrees bit number = number == 0 || (bit && nat_le 0x8000 number)

abbrev pub modes_agree : ℕ → ℕ → ℕ → Bool
modes_agree control stand_by power_down = mode_agrees (bit_set control 5) stand_by && mode_agrees (bit_set control 4) power_down

-- A flag's byte is 0 or 1.
abbrev pub is_flag : ℕ → Bool
is_flag x = nat_le x 1

-- What a register never shows as 1 is 0, of the bytes that a machine has as flags, by their index: Control but for bits 5 and 4, key loaded, InterruptEn,
-- InterruptRq, ErrorFlag and TRunning. And the edition's byte, 11, is the number of one.
abbrev pub byte_formed : ℕ → ℕ → Bool
byte_formed k x =
    cond (k == 1) (x % 16 == 0 && x / 64 == 0)
    (cond (k == 2) (is_flag x)
    (cond (k == 4) (nat_lt x 64)
    (cond (k == 6) (nat_lt x 64)
    (cond (k == 7) (bit x 7 + (bit x 2 + bit x 0) == 0)
    (cond (k == 8) (is_flag x)
    (cond (k == 11) (is_number x)
    true))))))

abbrev pub bytes_formed : (ℕ → ℕ) → Bool
bytes_formed byte = all (λ k. byte_formed k (byte k)) 12

abbrev pub fields_by : Core → (ℕ → ℕ) → Bool
fields_by k byte = stage_formed k.stage k.latched k.left k.next && (modes_agree k.control k.stand_by k.power_down && bytes_formed byte)

unfoldable pub fields_formed : Chip → Bool
fields_formed c = fields_by (core c) (at c.state)

-- Refusal 7 is given where this does not hold.
unfoldable pub chip_formed : Chip → Bool
chip_formed c = fields_formed c && well_formed (view c)
