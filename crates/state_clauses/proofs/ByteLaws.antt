-- Laws for judging numbers by value: a byte's mask for each of its tests, a timer's tests without a choice, counts, and tests that are joined.
-- Assumes nothing.
use Prim.Native.Nat.{ℕ, suc, ◌+◌, ◌/◌, ◌%◌, ◌<◌, ◌≤◌}
use native.Mathlib.Omega.{arith}
use mathlib.Core.Path.{◌≡◌, refl, sym, ◌∙◌}
use mathlib.Core.Bool.{Bool, true, false, not, and-false, ◌&&◌}
use lib.Bits.{bit_and, bit_or, and_le_l, and_le_r, or_add_and}
use lib.Dec.{T, eqb, ltb, leb}
use borrow.Author.Tests.{le-leb, leb-true, leb-false, eqb-true, eqb-false, eq-eqb, ne_eqb, lt-ltb, le-ltb}
use Rattle.bits.specs.Bits.{bit}
use Rattle.bits.proofs.Below.{all, each}
use Rattle.crc.specs.Checksum.{crc8_bit}
use Rattle.machine.specs.WellFormed.{bits_formed}
use Rattle.state.specs.Formed.{is_flag}
use Rattle.state_clauses.specs.Clauses.{named_formed, flags_formed}

-- Tests that are joined, each by its answer. The second may lean on the first.
pub joined : {a b s t : Bool} → a ≡ s → b ≡ t → (a && b) ≡ (s && t)
joined p q = rw (p, q)

pub joined_if : {a : Bool} (b s t : Bool) → a ≡ s → (s ≡ true → b ≡ t) → (a && b) ≡ (s && t)
joined_if b true t p q = joined p (q refl)
joined_if b false t p q = rw p

-- The first two of three are exchanged.
pub and_left_comm : (a b c : Bool) → (a && (b && c)) ≡ (b && (a && c))
and_left_comm true b c = refl
and_left_comm false b c = sym (and-false b)

-- Two tests that agree at each byte, from one test that the checker computes.
abbrev same : Bool → Bool → Bool
same true b = b
same false b = not b

same_eq : (a b : Bool) → T (same a b) → a ≡ b
same_eq true true t = refl
same_eq true false t = absurd t
same_eq false true t = absurd t
same_eq false false t = refl

alike : (f g : ℕ → Bool) → T (all (λ k. same (f k) (g k)) 256) → (k : ℕ) → k < 256 → f k ≡ g k
alike f g t k h = same_eq (f k) (g k) (each (λ n. same (f n) (g n)) 256 t k h)

-- The mask of each byte's bits that always read 0, of a flag's, of a whole byte, and of CRC8.
interrupt_bits : (x : ℕ) → x < 256 → eqb (bit_and x 0xC0) 0 ≡ ltb x 64
interrupt_bits = alike (λ x. eqb (bit_and x 0xC0) 0) (λ x. ltb x 64) tt

error_bits_lem : (x : ℕ) → x < 256 → eqb (bit_and x 0x85) 0 ≡ eqb (bit x 7 + (bit x 2 + bit x 0)) 0
error_bits_lem = alike (λ x. eqb (bit_and x 0x85) 0) (λ x. eqb (bit x 7 + (bit x 2 + bit x 0)) 0) tt

flag_bits_lem : (x : ℕ) → x < 256 → eqb (bit_and x 0xFE) 0 ≡ is_flag x
flag_bits_lem = alike (λ x. eqb (bit_and x 0xFE) 0) is_flag tt

page_bits : (x : ℕ) → x < 256 → eqb (bit_and x 0x78) 0 ≡ eqb (x / 8 % 16) 0
page_bits = alike (λ x. eqb (bit_and x 0x78) 0) (λ x. eqb (x / 8 % 16) 0) tt

control_bits : (x : ℕ) → x < 256 → eqb (bit_and x 0xCF) 0 ≡ (eqb (x % 16) 0 && eqb (x / 64) 0)
control_bits = alike (λ x. eqb (bit_and x 0xCF) 0) (λ x. eqb (x % 16) 0 && eqb (x / 64) 0) tt

pub whole_byte : (x : ℕ) → x < 256 → eqb (bit_and x 0xFF) 0 ≡ eqb x 0
whole_byte = alike (λ x. eqb (bit_and x 0xFF) 0) (λ x. eqb x 0) tt

last_bits_lem : (x : ℕ) → x < 256 → eqb (bit_and x 0xF8) 0 ≡ ltb x 8
last_bits_lem = alike (λ x. eqb (bit_and x 0xF8) 0) (λ x. ltb x 8) tt

pub mode_bit : (x : ℕ) → x < 256 → eqb (bit_and x 0x10) 0 ≡ not (crc8_bit x)
mode_bit = alike (λ x. eqb (bit_and x 0x10) 0) (λ x. not (crc8_bit x)) tt

-- Page and RxLastBits, with a test of Control as some mask makes it.
pub named_judged : (page masked last : ℕ) (t : Bool) → page < 256 → last < 256 → eqb masked 0 ≡ t →
    (eqb (bit_and page 0x78) 0 && (eqb masked 0 && eqb (bit_and last 0xF8) 0)) ≡ (t && bits_formed page last)
named_judged page masked last t p l judged = joined (page_bits page p) (joined judged (last_bits_lem last l)) ∙ and_left_comm (eqb (page / 8 % 16) 0) t (ltb last 8)

pub bits_judged : (page control last : ℕ) → page < 256 → control < 256 → last < 256 →
    (eqb (bit_and page 0x78) 0 && (eqb (bit_and control 0xCF) 0 && eqb (bit_and last 0xF8) 0)) ≡ named_formed page control last
bits_judged page control last p c l = named_judged page (bit_and control 0xCF) last _ p l (control_bits control c)

pub flags_judged : (loaded enables requests errors : ℕ) → loaded < 256 → enables < 256 → requests < 256 → errors < 256 →
    (eqb (bit_and errors 0x85) 0 && (eqb (bit_and requests 0xC0) 0 && (eqb (bit_and enables 0xC0) 0 && eqb (bit_and loaded 0xFE) 0))) ≡ flags_formed loaded enables requests errors
flags_judged loaded enables requests errors l e r x = simp (flag_bits_lem loaded l, interrupt_bits enables e, interrupt_bits requests r, error_bits_lem errors x)

-- A number that is 0 exactly where two are, and the or of two is such a number.
pub none_of : (a b n : ℕ) → (n ≡ 0 → (a ≡ 0) × (b ≡ 0)) → (a ≡ 0 → b ≡ 0 → n ≡ 0) → eqb n 0 ≡ (eqb a 0 && eqb b 0)
none_of a b n only where-both = go (eqb a 0) (eqb b 0) refl refl
  where
    go : (s t : Bool) → eqb a 0 ≡ s → eqb b 0 ≡ t → eqb n 0 ≡ (s && t)
    go true true p q = eq-eqb n 0 (where-both (eqb-true a 0 p) (eqb-true b 0 q))
    go true false p q = ne_eqb n 0 (λ e. eqb-false b 0 q (only e).1)
    go false t p q = ne_eqb n 0 (λ e. eqb-false a 0 p (only e).0)

pub or_none : (a b : ℕ) → eqb (bit_or a b) 0 ≡ (eqb a 0 && eqb b 0)
or_none a b =
    let sum = or_add_and a b in
    let low = and_le_r a b in
    let lower = and_le_l a b in
    none_of a b (bit_or a b) (λ h. (omega (arith, h), omega (arith, h))) (λ h k. omega (arith, h, k))

-- A count that is below one more than so many.
below_next : (t : Bool) (n l : ℕ) → leb n l ≡ t → ltb n (suc l) ≡ t
below_next true n l e = lt-ltb n (suc l) (omega (arith, leb-true n l e))
below_next false n l e = le-ltb n (suc l) (omega (arith, leb-false n l e))

pub below : (n l : ℕ) → ltb n (suc l) ≡ leb n l
below n l = below_next (leb n l) n l refl

-- A count that is at most so many, where that is at most 64.
at_most : (t : Bool) (n l : ℕ) → l ≤ 64 → leb n l ≡ t → (leb n 64 && leb n l) ≡ leb n l
at_most true n l h e = simp (e, le-leb n 64 (omega (arith, h, leb-true n l e)))
at_most false n l h e = simp (e, and-false)

pub waiting : (n l : ℕ) → l ≤ 64 → ltb n (suc l) ≡ (leb n 64 && leb n l)
waiting n l h = below n l ∙ sym (at_most (leb n l) n l h refl)
