-- Laws of a host read: registers by number, and what a read answers and leaves.
-- Assumes nothing.
use Prim.Native.Nat.{ℕ, ◌*◌, ◌%◌, ◌<◌, ◌≤◌}
use native.Mathlib.Omega.{arith}
use mathlib.Core.Path.{◌≡◌, refl, sym, ap, ◌∙◌}
use mathlib.Core.Bool.{Bool, true, cond}
use mathlib.Core.List.{[]}
use lib.Dec.{ltb}
use borrow.Author.Tests.{eq-eqb, ne_eqb, le-leb, lt-ltb, le-ltb}
use Rattle.machine.specs.State.{Machine, with_held}
use Rattle.machine.specs.Fifo.{register_at, first_of, rest_of, alerted}
use Rattle.machine.specs.Registers.{mapped, register_read}
use Rattle.machine.specs.Refusals.{host_read, refuse_if}
use Rattle.machine.specs.Events.{read_byte, after_read}
use Rattle.state.specs.View.{view}
use Rattle.state.specs.Formed.{fields_formed, chip_formed}
use Rattle.state.specs.Turns.{Sizes, Turned}
use Rattle.state.specs.Meets.{Meets, Whole}
use Rattle.state.specs.declared.Chip.{Chip}
use Rattle.state.proofs.MeetLaws.{read_refusal, own_fields_formed, accepted_here}

-- A register that is known by its number.
pub read_as : (r k x : ℕ) (m : Machine) → r ≡ k → x ≡ register_read k m → x ≡ register_read r m
read_as r k x m is reads = reads ∙ ap (λ (n : ℕ). register_read n m) (sym is)

-- Page is at every eighth number.
pub read_page : (r : ℕ) (m : Machine) → r % 8 ≡ 0 → m.page ≡ register_read r m
unfolding register_read
read_page r m eighth = simp (eq-eqb (r % 8) 0 eighth)

-- From 10h on a register is stored, or reads 0.
module _ (r : ℕ) (m : Machine) (other : r % 8 ≡ 0 → ⊥) (above : 0x10 ≤ r) where
  read_above : register_read r m ≡ cond (ltb r 0x30) (register_at m r) 0
  unfolding register_read
  read_above =
      simp (
        ne_eqb (r % 8) 0 other,
        ne_eqb r 0x01 (λ e. omega arith),
        ne_eqb r 0x02 (λ e. omega arith),
        ne_eqb r 0x03 (λ e. omega arith),
        ne_eqb r 0x04 (λ e. omega arith),
        ne_eqb r 0x05 (λ e. omega arith),
        ne_eqb r 0x06 (λ e. omega arith),
        ne_eqb r 0x07 (λ e. omega arith),
        ne_eqb r 0x09 (λ e. omega arith),
        ne_eqb r 0x0A (λ e. omega arith),
        ne_eqb r 0x0C (λ e. omega arith),
        ne_eqb r 0x0D (λ e. omega arith),
        ne_eqb r 0x0E (λ e. omega arith),
        ne_eqb r 0x0F (λ e. omega arith),
        le-leb 0x10 r above,
      )

  pub read_stored : r < 0x30 → register_at m r ≡ register_read r m
  read_stored below = sym (read_above ∙ ap (λ (t : Bool). cond t (register_at m r) 0) (lt-ltb r 0x30 below))

  pub read_none : 0x30 ≤ r → 0 ≡ register_read r m
  read_none beyond = sym (read_above ∙ ap (λ (t : Bool). cond t (register_at m r) 0) (le-ltb r 0x30 beyond))

-- A read that is not refused, and the register that its address is.
pub record Passes (c : Chip) (address register : ℕ) : Type 0 where
  pub formed : chip_formed c ≡ true
  pub whole : Whole c
  pub low : address < 64
  pub is : register ≡ mapped (view c).page address

module _ {c : Chip} {address register : ℕ} (p : Passes c address register) where
  reads : (next : Chip) (r : ℕ) → r ≡ register_read register (view c) → view next ≡ after_read address (view c) → fields_formed next ≡ true → Sizes next →
      Meets c (host_read address) next (0x100 * r) [] × Whole next
  unfolding read_byte
  reads next r shown turned fields sizes =
      accepted_here c p.formed (host_read address) next (0x100 * r) [] tt p.whole
      (read_refusal c p.formed address 0 (ap (λ (t : Bool). refuse_if t 1 0) (le-ltb 63 address (omega (arith, p.low)))))
      (record { answered = ap (λ (n : ℕ). 0x100 * n) (shown ∙ ap (λ (n : ℕ). register_read n (view c)) p.is); turned = turned; lent = refl; fields = fields; sizes = sizes })

  -- FIFOData: the first byte leaves.
  pub read_removes : (next : Chip) (r : ℕ) → register ≡ 0x02 → r ≡ first_of (view c).held → Turned (λ m. alerted m (with_held (rest_of m.held) m)) c next →
      Meets c (host_read address) next (0x100 * r) [] × Whole next
  unfolding register_read after_read
  read_removes next r fifo shown turn =
      reads next r (read_as register 0x02 r (view c) fifo shown) (turn.machine ∙ sym (rw (eq-eqb (mapped (view c).page address) 0x02 (sym p.is ∙ fifo))))
      (turn.fields (own_fields_formed c p.formed)) turn.sizes

  -- Any other register: the chip stays.
  pub read_leaves : (r : ℕ) → (register ≡ 0x02 → ⊥) → r ≡ register_read register (view c) → Meets c (host_read address) c (0x100 * r) [] × Whole c
  unfolding after_read
  read_leaves r other shown =
      reads c r shown (sym (rw (ne_eqb (mapped (view c).page address) 0x02 (λ q. other (p.is ∙ q))))) (own_fields_formed c p.formed) p.whole.sizes
