-- The bits of an or and of an and, and what the bytes of requests and error flags show then.
-- Assumes nothing.
use Rattle.std.proofs.Common.{◌≡◌, ℕ, zero, suc, ◌+◌, ◌-◌, ◌/◌, ◌%◌, ◌^◌, ◌<◌, Bool, true, false, not, ◌&&◌, ◌||◌, eqb, sym, refl, ap, ◌∙◌, true≢false, mod-lt, arith, lit<, ltb-true, lt-ltb, eq-eqb, eqb-true}
use lib.Bits.{bit_or, bit_and, or_shr, or_mod, or_lt, and_shr, and_mod, and_le_l}
use Rattle.bits.specs.Bits.{bit, bit_set}
use Rattle.bits.proofs.Below.{all, each, agree}
use Rattle.machine.specs.State.{Machine, with_requests, with_errors}
use Rattle.state.specs.View.{interrupts_of, errors_of, raised, marked, unmarked}
use Rattle.state.specs.Formed.{byte_formed}

-- What holds of 0 and 1 holds of single bits.
digits : (P : ℕ → ℕ → Type 0) → P 0 0 → P 0 1 → P 1 0 → P 1 1 → (a b : ℕ) → a < 2 → b < 2 → P a b
digits P p00 p01 p10 p11 zero zero h k = p00
digits P p00 p01 p10 p11 zero (suc zero) h k = p01
digits P p00 p01 p10 p11 (suc zero) zero h k = p10
digits P p00 p01 p10 p11 (suc zero) (suc zero) h k = p11
digits P p00 p01 p10 p11 zero (suc (suc b)) h k = absurd (omega arith)
digits P p00 p01 p10 p11 (suc zero) (suc (suc b)) h k = absurd (omega arith)
digits P p00 p01 p10 p11 (suc (suc a)) b h k = absurd (omega arith)

pub digit : (x k : ℕ) → bit x k < 2
digit x k = mod-lt (x / 2 ^ k) (lit< tt)

-- The mask comes first, so that at a known mask the right side computes.
pub or_bit : (x m k : ℕ) → bit_set (bit_or x m) k ≡ (bit_set m k || bit_set x k)
or_bit x m k =
    ap (λ (n : ℕ). eqb (n % 2) 1) (or_shr x m k) ∙ ap (λ (n : ℕ). eqb n 1) (or_mod (x / 2 ^ k) (m / 2 ^ k) 1)
    ∙ digits (λ a b. eqb (bit_or a b) 1 ≡ (eqb b 1 || eqb a 1)) refl refl refl refl (bit x k) (bit m k) (digit x k) (digit m k)

pub and_bit : (x m k : ℕ) → bit_set (bit_and x m) k ≡ (bit_set m k && bit_set x k)
and_bit x m k =
    ap (λ (n : ℕ). eqb (n % 2) 1) (and_shr x m k) ∙ ap (λ (n : ℕ). eqb n 1) (and_mod (x / 2 ^ k) (m / 2 ^ k) 1)
    ∙ digits (λ a b. eqb (bit_and a b) 1 ≡ (eqb b 1 && eqb a 1)) refl refl refl refl (bit x k) (bit m k) (digit x k) (digit m k)

-- Bits 5-0 of a byte are those of its remainder; the bits of ErrorFlag's flags stay under their mask; every bit is turned by the complement.
pub low_bits : (v : ℕ) → v < 256 → (k : ℕ) → k < 6 → bit_set (v % 64) k ≡ bit_set v k
low_bits v h k l =
    ap (λ (n : ℕ). eqb n 1) (agree (λ j. bit (v % 64) j) (λ j. bit v j) 6 (each (λ w. all (λ j. eqb (bit (w % 64) j) (bit w j)) 6) 256 tt v h) k l)

-- The flags' own bits of a mask.
abbrev flag_bits : ℕ → ℕ
flag_bits v = bit_and v 0x7A

other_digit : (b : ℕ) → b < 2 → eqb (1 - b) 1 ≡ not (eqb b 1)
other_digit zero h = refl
other_digit (suc zero) h = refl
other_digit (suc (suc b)) h = absurd (omega arith)

pub turned_bit : (v : ℕ) → v < 256 → (k : ℕ) → k < 8 → bit_set (255 - v) k ≡ not (bit_set v k)
turned_bit v h k l =
    ap (λ (n : ℕ). eqb n 1) (agree (λ j. bit (255 - v) j) (λ j. 1 - bit v j) 8 (each (λ w. all (λ j. eqb (bit (255 - w) j) (1 - bit w j)) 8) 256 tt v h) k l)
    ∙ other_digit (bit v k) (digit v k)

-- A byte of requests, and of error flags, with a mask's bits, and without them.
module _ (x mask : ℕ) where
  raised_bit : mask < 256 → (k : ℕ) → k < 6 → bit_set (bit_or x (mask % 64)) k ≡ (bit_set mask k || bit_set x k)
  raised_bit h k l = or_bit x (mask % 64) k ∙ ap (λ (t : Bool). t || bit_set x k) (low_bits mask h k l)

  marked_bit : (k : ℕ) → bit_set (bit_or x (flag_bits mask)) k ≡ ((bit_set 0x7A k && bit_set mask k) || bit_set x k)
  marked_bit k = or_bit x (flag_bits mask) k ∙ ap (λ (t : Bool). t || bit_set x k) (and_bit mask 0x7A k)

  unmarked_bit : mask < 256 → (k : ℕ) → k < 8 → bit_set (bit_and x (255 - mask)) k ≡ (not (bit_set mask k) && bit_set x k)
  unmarked_bit h k l = and_bit x (255 - mask) k ∙ ap (λ (t : Bool). t && bit_set x k) (turned_bit mask h k l)

  module _ (m : Machine) where
    pub requests_raised : mask < 256 → m.status.requests ≡ interrupts_of x → with_requests (interrupts_of (bit_or x (mask % 64))) m ≡ raised mask m
    requests_raised h e =
        simp (raised_bit h 5 (lit< tt), raised_bit h 4 (lit< tt), raised_bit h 3 (lit< tt), raised_bit h 2 (lit< tt), raised_bit h 1 (lit< tt), raised_bit h 0 (lit< tt), e)

    pub errors_marked : m.status.errors ≡ errors_of x → with_errors (errors_of (bit_or x (flag_bits mask))) m ≡ marked mask m
    errors_marked e = simp (marked_bit 6, marked_bit 5, marked_bit 4, marked_bit 3, marked_bit 1, e)

    pub errors_unmarked : mask < 256 → m.status.errors ≡ errors_of x → with_errors (errors_of (bit_and x (255 - mask))) m ≡ unmarked mask m
    errors_unmarked h e =
        simp (unmarked_bit h 6 (lit< tt), unmarked_bit h 5 (lit< tt), unmarked_bit h 4 (lit< tt), unmarked_bit h 3 (lit< tt), unmarked_bit h 1 (lit< tt), e)

    -- No flag of the mask is set.
    pub none_unmarked : mask < 256 → bit_and x mask ≡ 0 → with_errors (errors_of x) m ≡ with_errors (errors_of (bit_and x (255 - mask))) m
    none_unmarked h z =
        simp (unmarked_bit h 6 (lit< tt), unmarked_bit h 5 (lit< tt), unmarked_bit h 4 (lit< tt), unmarked_bit h 3 (lit< tt), unmarked_bit h 1 (lit< tt), kept 6 refl, kept 5 refl, kept 4 refl, kept 3 refl, kept 1 refl)
      where
        apart : (a b : Bool) → (b && a) ≡ false → (not b && a) ≡ a
        apart true true q = absurd (true≢false q)
        apart false true q = refl
        apart true false q = refl
        apart false false q = refl

        kept : (k : ℕ) → bit_set 0 k ≡ false → (not (bit_set mask k) && bit_set x k) ≡ bit_set x k
        kept k none = apart (bit_set x k) (bit_set mask k) (sym (and_bit x mask k) ∙ ap (λ (n : ℕ). bit_set n k) z ∙ none)

-- They keep 0 where a bit always reads 0.
pub requests_or : (x mask : ℕ) → mask < 64 → byte_formed 6 x ≡ true → byte_formed 6 (bit_or x mask) ≡ true
requests_or x mask p q = lt-ltb (bit_or x mask) 64 (or_lt 6 x mask (ltb-true x 64 q) p)

pub requests_and : (x mask : ℕ) → byte_formed 6 x ≡ true → byte_formed 6 (bit_and x mask) ≡ true
requests_and x mask q = lt-ltb (bit_and x mask) 64 (omega (arith, and_le_l x mask, ltb-true x 64 q))

-- A sum is 0 exactly where its parts are.
none : (a b c : ℕ) → eqb (a + (b + c)) 0 ≡ true → (a ≡ 0) × ((b ≡ 0) × (c ≡ 0))
none a b c h = let sum = eqb-true (a + (b + c)) 0 h in (omega arith, (omega arith, omega arith))

nothing : (a b c : ℕ) → a ≡ 0 → b ≡ 0 → c ≡ 0 → eqb (a + (b + c)) 0 ≡ true
nothing a b c p q r = eq-eqb (a + (b + c)) 0 (omega arith)

or_clear : (x m k : ℕ) → bit x k ≡ 0 → bit m k ≡ 0 → bit (bit_or x m) k ≡ 0
or_clear x m k p q =
    ap (λ (n : ℕ). n % 2) (or_shr x m k) ∙ or_mod (x / 2 ^ k) (m / 2 ^ k) 1
    ∙ ap (λ (n : ℕ). bit_or n (bit m k)) p ∙ ap (λ (n : ℕ). bit_or 0 n) q

and_clear : (x m k : ℕ) → bit x k ≡ 0 → bit (bit_and x m) k ≡ 0
and_clear x m k p =
    ap (λ (n : ℕ). n % 2) (and_shr x m k) ∙ and_mod (x / 2 ^ k) (m / 2 ^ k) 1
    ∙ digits (λ a b. a ≡ 0 → bit_and a b ≡ 0) (λ e. refl) (λ e. refl) (λ e. refl) (λ e. absurd (omega (arith, e))) (bit x k) (bit m k) (digit x k) (digit m k) p

-- A mask's own clear bits.
mask_clear : (v k : ℕ) → bit 0x7A k ≡ 0 → bit (flag_bits v) k ≡ 0
mask_clear v k p =
    ap (λ (n : ℕ). n % 2) (and_shr v 0x7A k) ∙ and_mod (v / 2 ^ k) (0x7A / 2 ^ k) 1
    ∙ digits (λ a b. b ≡ 0 → bit_and a b ≡ 0) (λ e. refl) (λ e. refl) (λ e. refl) (λ e. absurd (omega (arith, e))) (bit v k) (bit 0x7A k) (digit v k) (digit 0x7A k) p

pub errors_or : (x mask : ℕ) → byte_formed 7 x ≡ true → byte_formed 7 (bit_or x (flag_bits mask)) ≡ true
errors_or x mask q =
    let (x7, (x2, x0)) = none (bit x 7) (bit x 2) (bit x 0) q in
    let y = bit_or x (flag_bits mask) in
    nothing (bit y 7) (bit y 2) (bit y 0)
    (or_clear x (flag_bits mask) 7 x7 (mask_clear mask 7 refl)) (or_clear x (flag_bits mask) 2 x2 (mask_clear mask 2 refl)) (or_clear x (flag_bits mask) 0 x0 (mask_clear mask 0 refl))

pub errors_and : (x mask : ℕ) → byte_formed 7 x ≡ true → byte_formed 7 (bit_and x mask) ≡ true
errors_and x m q =
    let (x7, (x2, x0)) = none (bit x 7) (bit x 2) (bit x 0) q in
    nothing (bit (bit_and x m) 7) (bit (bit_and x m) 2) (bit (bit_and x m) 0) (and_clear x m 7 x7) (and_clear x m 2 x2) (and_clear x m 0 x0)
