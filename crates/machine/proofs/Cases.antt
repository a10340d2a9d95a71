-- Choices: what holds of both sides holds of the one that a test picks; and a function that singles out WriteE2, or a programming (specs/State.antt), has a
-- property where it has it there and under every other command.
-- Assumes nothing.
use Prim.Native.Nat.{ℕ}
use mathlib.Core.Path.{◌≡◌, refl, sym, ap, ◌∙◌}
use mathlib.Core.Bool.{Bool, true, false, cond, ◌||◌, true≢false}
use mathlib.Core.List.{List}
use Rattle.machine.specs.State.{Command, Writing, Idle, WriteE2, ReadE2, LoadConfig, LoadKeyE2, LoadKey, CalcCRC, Transmit, Receive, TransceiveSending, TransceiveReceiving, addressing, ready, programming, within_write_e2, of_programming, while_programming}
use Rattle.machine.specs.Commands.{programs}

-- A choice by a test has what both its sides have.
pub by_cond : {A : Type 0} (P : A → Type 0) (t : Bool) (x y : A) → (t ≡ true → P x) → (t ≡ false → P y) → P (cond t x y)
by_cond P true x y p q = p refl
by_cond P false x y p q = q refl

pub either : {A : Type 0} (P : A → Type 0) (t : Bool) (x y : A) → P x → P y → P (cond t x y)
either P t x y p q = by_cond P t x y (λ e. p) (λ e. q)

-- Neither of two tests holds.
pub neither : (a b : Bool) → (a || b) ≡ false → (a ≡ false) × (b ≡ false)
neither true b h = absurd (true≢false h)
neither false b h = (refl, h)

module _ {X : Type 0} (P : X → Type 0) where
  pub within_write_e2_lem : (there : Writing → X) (other : X) (c : Command) → ((w : Writing) → c ≡ WriteE2 w → P (there w)) → P other → P (within_write_e2 there other c)
  within_write_e2_lem there other Idle h o = o
  within_write_e2_lem there other (WriteE2 w) h o = h w refl
  within_write_e2_lem there other ReadE2 h o = o
  within_write_e2_lem there other LoadConfig h o = o
  within_write_e2_lem there other LoadKeyE2 h o = o
  within_write_e2_lem there other LoadKey h o = o
  within_write_e2_lem there other CalcCRC h o = o
  within_write_e2_lem there other Transmit h o = o
  within_write_e2_lem there other Receive h o = o
  within_write_e2_lem there other TransceiveSending h o = o
  within_write_e2_lem there other TransceiveReceiving h o = o

  pub while_programming_lem : (there : ℕ → List ℕ → ℕ → X) (other : X) (c : Command) →
      ((a : ℕ) (bs : List ℕ) (left : ℕ) → c ≡ WriteE2 (programming a bs left) → P (there a bs left)) → P other → P (while_programming there other c)
  while_programming_lem there other c h o = within_write_e2_lem (of_programming there other) other c go o
    where
      go : (w : Writing) → c ≡ WriteE2 w → P (of_programming there other w)
      go addressing is = o
      go (ready a) is = o
      go (programming a bs left) is = h a bs left is

-- A programming, or none.
pub data Kind (c : Command) : Type 0 where
  still : programs c ≡ false → Kind c
  under : (a : ℕ) (bs : List ℕ) (left : ℕ) → c ≡ WriteE2 (programming a bs left) → Kind c

pub kind : (c : Command) → Kind c
kind c = while_programming_lem (λ (t : Bool). programs c ≡ t → Kind c) (λ a bs left. true) false c (λ a bs left is p. under a bs left is) (λ p. still p) refl

pub not_programming : {X : Type 0} (there : ℕ → List ℕ → ℕ → X) (other : X) (c : Command) → programs c ≡ false → while_programming there other c ≡ other
not_programming there other c p = while_programming_lem (λ x. x ≡ other) there other c (λ a bs left is. absurd (true≢false (sym (ap programs is) ∙ p))) refl
