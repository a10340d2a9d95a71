-- The clauses of refusal 7 as tests of numbers by value.
-- Assumes nothing.
use Rattle.std.specs.Prelude.{ℕ, Bool, cond, not, ◌&&◌, List, ltb, leb, eqb}
use Rattle.bits.specs.Bits.{bit_set}
use Rattle.edition.specs.Edition.{is_of, is_number, numbered}
use Rattle.machine.specs.Memory.{programming_clocks}
use Rattle.machine.specs.Power.{stand_by_clocks, power_down_clocks}
use Rattle.machine.specs.WellFormed.{timer_formed, mode_formed, bits_formed}
use Rattle.state.specs.View.{is_set, mode_of}
use Rattle.state.specs.Formed.{writes, batch_fits, agree, mode_agrees, is_flag, byte_formed}

-- Page, Control and RxLastBits have 0 where they always read 0.
abbrev pub named_formed : ℕ → ℕ → ℕ → Bool
named_formed page control rx_last_bits = byte_formed 1 control && bits_formed page rx_last_bits

-- A power mode by its bit of Control and its number: the two agree, and the mode is formed.
abbrev pub mode_fields_formed : Bool → ℕ → ℕ → Bool → Bool
mode_fields_formed bit number whole programs = mode_agrees bit number && mode_formed whole programs (mode_of bit number)

-- Both modes. A programming is there exactly where clocks are left: the clauses on these are `programming_formed`.
abbrev pub modes_fields_formed : ℕ → ℕ → ℕ → ℕ → Bool
modes_fields_formed control stand_by power_down left =
    mode_fields_formed (bit_set control 5) stand_by stand_by_clocks (not (eqb left 0))
    && mode_fields_formed (bit_set control 4) power_down power_down_clocks (not (eqb left 0))

-- The bytes of flags, but for Control and TRunning: ErrorFlag, InterruptRq, InterruptEn, and whether a key is loaded.
abbrev pub flags_formed : ℕ → ℕ → ℕ → ℕ → Bool
flags_formed loaded enables requests errors = byte_formed 7 errors && (byte_formed 6 requests && (byte_formed 4 enables && byte_formed 2 loaded))

-- TRunning's byte, and the timer.
abbrev pub timer_fields_formed : ℕ → ℕ → ℕ → ℕ → Bool
timer_fields_formed running value prescaler phase =
    is_flag running && timer_formed (record { running = is_set running; value = value; prescaler = prescaler; phase = phase })

-- The clauses of `stage_formed` (state, Formed) but for the stage itself, and the most clocks that may be left.
abbrev pub programming_formed : ℕ → ℕ → ℕ → ℕ → Bool
programming_formed stage latched left next =
    leb left programming_clocks && (agree (ltb 0 left) (writes stage && batch_fits next latched) && ltb next 0x200)

-- One more than the most bytes that may wait in a stage that programs nothing; 0 where it is none.
abbrev pub stage_room : ℕ → ℕ
stage_room s =
    cond (eqb s 0x00) 65
    (cond (eqb s 0x01) 2
    (cond (eqb s 0x41) 1
    (cond (eqb s 0x03) 3
    (cond (eqb s 0x07) 2
    (cond (eqb s 0x0B) 2
    (cond (eqb s 0x12) 1
    (cond (eqb s 0x19) 12
    (cond (eqb s 0x5A) 65
    (cond (eqb s 0x96) 65
    (cond (eqb s 0x5E) 65
    (cond (eqb s 0x9E) 65
    0)))))))))))

-- While programming clocks are left, 64 may wait.
abbrev pub room_of : ℕ → ℕ → ℕ
room_of stage left = cond (eqb left 0) (stage_room stage) 65

-- The edition's byte, and the memory that is of that edition.
abbrev pub edition_fields_formed : ℕ → List ℕ → Bool
edition_fields_formed number eeprom = is_number number && is_of (numbered number) eeprom
