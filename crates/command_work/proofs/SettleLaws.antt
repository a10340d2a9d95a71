-- Laws of all that the active command does at once: when one step is all, when nothing is to be done, and WriteE2's two steps.
-- Assumes nothing.
use Prim.Native.Nat.{ℕ, ◌%◌, ◌<◌, ◌≤◌}
use mathlib.Core.Path.{◌≡◌, refl, sym, ap, ◌∙◌}
use mathlib.Core.Bool.{Bool, true, false, cond}
use mathlib.Core.List.{List}
use lib.Dec.{eqb}
use lib.ListN.{length}
use borrow.Author.Tests.{eq-eqb, ne_eqb, lt-leb, le-leb}
use Rattle.machine.specs.State.{Machine, Command, WriteE2, CalcCRC, addressing, ready, with_command}
use Rattle.machine.specs.Memory.{address_of}
use Rattle.machine.specs.Commands.{code_of, raised_tx, ended, enough, argument, taken, checksum_taken, write_stepped, stepped_as, stepped, settled, lost_settling}
use Rattle.machine.proofs.Cases.{by_cond}
use Rattle.machine.proofs.Lost.{other_loses_none}
use Rattle.machine.proofs.Settling.{settled_by}
use Rattle.state.specs.View.{Core, command_of}
use Rattle.state.proofs.StageLaws.{by_stage}

-- A step that does nothing.
pub settled_rests : (m : Machine) → m ≡ stepped_as m.command m → m ≡ settled m
unfolding settled stepped
settled_rests m same = same ∙ ap (λ (x : Machine). stepped_as x.command x) same

-- A command that ends when it has its bytes, and waits for them before.
pub settled_ends : (m : Machine) (d : Command) (t : Bool) (x : Machine) → m.command ≡ d → stepped_as d m ≡ cond t (ended x) m → stepped_as d m ≡ settled m
unfolding stepped
settled_ends m d t x is does = settled_by m d is (ap stepped does ∙ go t does ∙ sym does)
  where
    go : (u : Bool) → stepped_as d m ≡ cond u (ended x) m → stepped (cond u (ended x) m) ≡ cond u (ended x) m
    go true e = refl
    go false e = ap (λ (c : Command). stepped_as c m) is ∙ e

-- CalcCRC has taken every byte.
pub settled_sums : (m : Machine) → m.command ≡ CalcCRC → stepped_as CalcCRC m ≡ settled m
unfolding stepped
settled_sums m is = settled_by m CalcCRC is (by_cond (λ x. stepped x ≡ x) (enough 1 m) (raised_tx (checksum_taken m)) m (λ e. ap (λ (c : Command). stepped_as c (raised_tx (checksum_taken m))) is) (λ e. first ∙ ap (λ (t : Bool). cond t (raised_tx (checksum_taken m)) m) e))
  where
    first : stepped m ≡ stepped_as CalcCRC m
    first = ap (λ (c : Command). stepped_as c m) is

-- WriteE2 without its address, which waits for two bytes, or takes them and goes on.
module _ (m : Machine) (is : m.command ≡ WriteE2 addressing) where
  first : stepped m ≡ write_stepped addressing m
  unfolding stepped
  first = ap (λ (c : Command). stepped_as c m) is

  abbrev found : ℕ
  found = address_of (argument 0 m) (argument 1 m)

  pub settled_waits : length m.held < 2 → m ≡ settled m
  unfolding stepped
  settled_waits few = settled_rests m (ap (λ (t : Bool). cond t (with_command (WriteE2 (ready found)) (taken 2 m)) m) (sym (lt-leb 2 (length m.held) few)) ∙ sym first)

  pub settled_addresses : 2 ≤ length m.held → write_stepped (ready found) (write_stepped addressing m) ≡ settled m
  unfolding settled stepped
  settled_addresses all =
      let takes : write_stepped addressing m ≡ with_command (WriteE2 (ready found)) (taken 2 m) = ap (λ (t : Bool). cond t (with_command (WriteE2 (ready found)) (taken 2 m)) m) (le-leb 2 (length m.held) all) in
      ap (write_stepped (ready found)) takes ∙ sym (ap stepped (first ∙ takes))

-- The stages whose commands take no waiting byte here. The shape of the premise is that of a `match`'s last arm.
abbrev Others : ℕ → Type 0
Others s = ((((((Unit {0} × (s ≡ 0x01 → ⊥)) × (s ≡ 0x41 → ⊥)) × (s ≡ 0x03 → ⊥)) × (s ≡ 0x07 → ⊥)) × (s ≡ 0x0B → ⊥)) × (s ≡ 0x12 → ⊥)) × (s ≡ 0x19 → ⊥)

pub others_rest : (m : Machine) (k : Core) (latch : List ℕ) → Others k.stage → m ≡ stepped_as (command_of k latch) m
others_rest m k latch (((((((u, n01), n41), n03), n07), n0b), n12), n19) =
    by_stage (λ s c. s ≡ k.stage → m ≡ stepped_as c m) k latch (λ e. absurd (n01 (sym e))) (λ e. absurd (n41 (sym e))) (λ e. absurd (n03 (sym e))) (λ e. absurd (n07 (sym e)))
    (λ e. absurd (n0b (sym e))) (λ e. absurd (n12 (sym e))) (λ e. absurd (n19 (sym e))) (λ e. refl) (λ e. refl) (λ e. refl) (λ e. refl) (λ o e. refl) refl

-- WriteE2's stages where no clocks are left, and where some are.
module _ (k : Core) (latch : List ℕ) where
  pub at_addressing : k.stage ≡ 0x01 → k.left ≡ 0 → command_of k latch ≡ WriteE2 addressing
  at_addressing stage none = rw (stage, eq-eqb k.left 0 none) refl

  pub at_ready : k.stage ≡ 0x41 → k.left ≡ 0 → command_of k latch ≡ WriteE2 (ready (k.next % 0x200))
  at_ready stage none = rw (stage, eq-eqb k.left 0 none) refl

  module _ (m : Machine) (some : k.left ≡ 0 → ⊥) where
    pub programs_first : k.stage ≡ 0x01 → m ≡ stepped_as (command_of k latch) m
    programs_first stage = rw (stage, ne_eqb k.left 0 some) refl

    pub programs_on : k.stage ≡ 0x41 → m ≡ stepped_as (command_of k latch) m
    programs_on stage = rw (stage, ne_eqb k.left 0 some) refl

-- Only ReadE2's stage is that of a command that loses bytes.
pub stage_loses_none : (k : Core) (latch : List ℕ) (m : Machine) → m.command ≡ command_of k latch → eqb k.stage 0x03 ≡ false → 0 ≡ lost_settling m
stage_loses_none k latch m is other =
    sym
    (other_loses_none m
    (ap (λ (c : Command). eqb (code_of c) 0x03) is
    ∙ sym (by_stage (λ s c. eqb s 0x03 ≡ eqb (code_of c) 0x03) k latch refl refl refl refl refl refl refl refl refl refl refl (λ o. o.n03)) ∙ other))
