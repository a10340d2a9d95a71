-- Laws of what bytes of the state show: a source that two bytes of interrupts have in common, the byte that flags make, a stage's code, and the stages that
-- neither send nor receive.
-- Assumes nothing.
use Prim.Native.Nat.{ℕ, ◌+◌, ◌*◌, ◌/◌, ◌%◌, ◌<◌}
use native.Mathlib.Omega.{arith}
use mathlib.Core.Path.{◌≡◌, refl, sym, ap, ◌∙◌}
use mathlib.Core.Bool.{Bool, true, false, cond, not, and_comm, ◌&&◌, ◌||◌}
use mathlib.Core.List.{List}
use lib.Bits.{bit_and, and_le_l}
use lib.Dec.{T, eqb}
use borrow.Author.Tests.{eqb-true, ne_eqb}
use Rattle.bits.specs.Bits.{bit_set}
use Rattle.bits.proofs.Below.{all, agree}
use Rattle.machine.specs.Commands.{code_of}
use Rattle.machine.specs.Frames.{sending, receiving}
use Rattle.machine.specs.Registers.{flag, interrupt_byte, error_byte, control_byte}
use Rattle.machine.proofs.WellFormed.Parts.{each}
use Rattle.state.specs.View.{Core, interrupts_of, errors_of, mode_of, command_of}
use Rattle.state.specs.Formed.{listed, byte_formed}
use Rattle.state.proofs.FlagLaws.{and_bit}
use Rattle.state.proofs.PowerLaws.{mode_reads}
use Rattle.state.proofs.StageLaws.{Other, by_stage, stage_sends, stage_receives}

-- A number of six bits is not 0 exactly where one of them is 1.
abbrev any_set : ℕ → Bool
any_set x = bit_set x 5 || bit_set x 4 || bit_set x 3 || bit_set x 2 || bit_set x 1 || bit_set x 0

flag_set : (t : Bool) → eqb (flag t) 1 ≡ t
flag_set true = refl
flag_set false = refl

any_set_lem : (x : ℕ) → x < 64 → not (eqb x 0) ≡ any_set x
any_set_lem x h =
    sym (flag_set (not (eqb x 0))) ∙ ap (λ (n : ℕ). eqb n 1) (agree (λ n. flag (not (eqb n 0))) (λ n. flag (any_set n)) 64 tt x h) ∙ flag_set (any_set x)

-- Two bytes of interrupts have a source in common.
abbrev any_common : ℕ → ℕ → Bool
any_common x y =
    bit_set x 5 && bit_set y 5
    || bit_set x 4 && bit_set y 4
    || bit_set x 3 && bit_set y 3
    || bit_set x 2 && bit_set y 2
    || bit_set x 1 && bit_set y 1
    || bit_set x 0 && bit_set y 0

-- Two bytes have a bit in common, where one of them has six.
pub common_set : (x y : ℕ) → x < 64 → not (eqb (bit_and x y) 0) ≡ any_common x y
common_set x y h = any_set_lem (bit_and x y) (omega (arith, and_le_l x y)) ∙ simp (shared 5, shared 4, shared 3, shared 2, shared 1, shared 0)
  where
    shared : (k : ℕ) → bit_set (bit_and x y) k ≡ (bit_set x k && bit_set y k)
    shared k = and_bit x y k ∙ and_comm (bit_set y k) (bit_set x k)

-- InterruptEn and InterruptRq are the bytes that their flags make.
pub interrupt_byte_lem : (x : ℕ) → x < 64 → x ≡ interrupt_byte (interrupts_of x)
interrupt_byte_lem x h = agree (λ n. n) (λ n. interrupt_byte (interrupts_of n)) 64 tt x h

-- A byte that is formed is what a function makes of it, from one test that the checker computes. ErrorFlag is the byte that its flags make, and Control the
-- one that the bits of the power modes make, whatever their numbers are.
where_formed : (k : ℕ) (f : ℕ → ℕ) → T (all (λ n. eqb n (cond (byte_formed k n) (f n) n)) 256) → (x : ℕ) → x < 256 → byte_formed k x ≡ true → x ≡ f x
where_formed k f t x h formed = agree (λ n. n) (λ n. cond (byte_formed k n) (f n) n) 256 t x h ∙ ap (λ (b : Bool). cond b (f x) x) formed

pub error_byte_lem : (x : ℕ) → x < 256 → byte_formed 7 x ≡ true → x ≡ error_byte (errors_of x)
error_byte_lem = where_formed 7 (λ n. error_byte (errors_of n)) tt

pub control_byte_lem : (x stand_by power_down : ℕ) → byte_formed 1 x ≡ true → x ≡ control_byte (record { stand_by = mode_of (bit_set x 5) stand_by; power_down = mode_of (bit_set x 4) power_down })
control_byte_lem x stand_by power_down formed =
    let high = eqb-true (x / 64) 0 (each (eqb (x % 16) 0) _ formed).1 in
    where_formed 1 (λ n. 32 * flag (bit_set n 5) + 16 * flag (bit_set n 4)) tt x (omega (arith, high)) formed
    ∙ sym (λ i. 32 * flag (mode_reads (bit_set x 5) stand_by i) + 16 * flag (mode_reads (bit_set x 4) power_down i))

-- The code of a listed stage's command is in bits 5-0.
pub stage_code : (k : Core) (latch : List ℕ) → listed k.stage ≡ true → k.stage % 64 ≡ code_of (command_of k latch)
stage_code k latch =
    by_stage (λ s x. listed s ≡ true → s % 64 ≡ code_of x) k latch
    (λ l. refl) (λ l. refl) (λ l. refl) (λ l. refl) (λ l. refl) (λ l. refl) (λ l. refl) (λ l. refl) (λ l. refl) (λ l. refl) (λ l. refl) idle
  where
    left_of : (a b : Bool) → b ≡ false → (a || b) ≡ true → a ≡ true
    left_of true b none h = refl
    left_of false b none h = sym none ∙ h

    idle : Other k.stage → listed k.stage ≡ true → k.stage % 64 ≡ 0
    idle o l =
        ap (λ (n : ℕ). n % 64)
        (eqb-true k.stage 0x00 (left_of (eqb k.stage 0x00) _ (simp (o.n01, o.n41, o.n03, o.n07, o.n0b, o.n12, o.n19, o.n5a, o.n96, o.n5e, o.n9e)) l))

-- A stage below 5Ah neither sends nor receives.
module _ (k : Core) (latch : List ℕ) (below : k.stage < 0x5A) where
  pub below_sends : sending (command_of k latch) ≡ false
  below_sends = sym (stage_sends k latch) ∙ simp (ne_eqb k.stage 0x5A (λ e. omega arith), ne_eqb k.stage 0x5E (λ e. omega arith))

  pub below_receives : receiving (command_of k latch) ≡ false
  below_receives = sym (stage_receives k latch) ∙ simp (ne_eqb k.stage 0x96 (λ e. omega arith), ne_eqb k.stage 0x9E (λ e. omega arith))
