-- Bytes are programmed from 010h on, so that clocks leave block 0 as it was; the edition they do not touch.
-- Assumes nothing.
use Prim.Native.Nat.{ℕ, zero, suc, ◌+◌, ◌%◌, ◌≤◌}
use mathlib.Core.Path.{◌≡◌, refl, sym, ap, ◌∙◌}
use mathlib.Core.Bool.{Bool, true}
use mathlib.Core.List.{List, [], ◌∷◌}
use native.Mathlib.Omega.{arith}
use lib.Dec.{leb}
use lib.ListN.{length, take, set}
use lib.Seq.{take-set-le}
use borrow.Author.Tests.{leb-true, le-leb}
use Rattle.edition.specs.Edition.{is_of}
use Rattle.edition.proofs.Laws.{by_block_0}
use Rattle.machine.specs.State.{Machine, Command, WriteE2, programming, while_programming}
use Rattle.machine.specs.Timer.{timer_clock}
use Rattle.machine.specs.Memory.{stored_from, programming_clocks}
use Rattle.machine.specs.WellFormed.{command_formed}
use Rattle.machine.specs.Events.{programming_clocked, reached, clock, clocks}
use Rattle.machine.specs.Power.{stands_still}
use Rattle.machine.proofs.Cases.{by_cond, either, while_programming_lem}
use Rattle.machine.proofs.Clock.{timer_any, timer_command, end_any}
use Rattle.machine.proofs.WellFormed.Parts.{each}

-- What is programmed is so from 010h on.
abbrev pub above : Command → Bool
above c = while_programming (λ a bs left. leb 0x10 a) true c

pub formed_above : (c : Command) → command_formed c ≡ true → above c ≡ true
formed_above c formed = while_programming_lem (λ (t : Bool). t ≡ true) (λ a bs left. leb 0x10 a) true c (λ a bs left is. here a bs left (sym (ap command_formed is) ∙ formed)) refl
  where
    here : (a : ℕ) (bs : List ℕ) (left : ℕ) → command_formed (WriteE2 (programming a bs left)) ≡ true → leb 0x10 a ≡ true
    here a bs left h =
        let (low, h₁) = each (leb 1 left) _ h in
        let (high, h₂) = each (leb left programming_clocks) _ h₁ in
        let (some, h₃) = each (leb 1 (length bs)) _ h₂ in
        let (block, h₄) = each (leb (a % 16 + length bs) 16) _ h₃ in (each (leb 0x10 a) _ h₄).0

-- The edition and block 0 of one machine are those of another.
pub record Keeps (m x : Machine) : Type 0 where
  pub edition : x.edition ≡ m.edition
  pub block_0 : take 0x10 x.eeprom ≡ take 0x10 m.eeprom

pub keeps_all : (m : Machine) → Keeps m m
keeps_all m = record { edition = refl; block_0 = refl }

pub keeps_then : {m x y : Machine} → Keeps m x → Keeps x y → Keeps m y
keeps_then k l = record { edition = l.edition ∙ k.edition; block_0 = l.block_0 ∙ k.block_0 }

-- So its memory is of its edition where the other's is.
pub keeps_type : {m x : Machine} → Keeps m x → is_of m.edition m.eeprom ≡ true → is_of x.edition x.eeprom ≡ true
keeps_type {m} {x} k own =
    sym (by_block_0 x.edition x.eeprom)
    ∙ (λ i. is_of (k.edition i) (k.block_0 i))
    ∙ by_block_0 m.edition m.eeprom
    ∙ own

-- Bytes stored from 010h on.
stored_block_0 : (l : List ℕ) (a : ℕ) (bs : List ℕ) → 0x10 ≤ a → take 0x10 (stored_from l a bs) ≡ take 0x10 l
unfolding stored_from
stored_block_0 l a [] h = refl
stored_block_0 l a (b ∷ bs) h = stored_block_0 (set l a b) (a + 1) bs (omega (arith, h)) ∙ take-set-le 0x10 l a b h

-- One clock, and any number.
pub record Goes (m x : Machine) : Type 0 where
  pub kept : Keeps m x
  pub above_still : above x.command ≡ true

reached_goes : (m : Machine) → above m.command ≡ true → Goes m (reached m)
unfolding reached
reached_goes m h =
    while_programming_lem (λ (f : Machine → Machine). Goes m (f (timer_clock m))) programming_clocked (λ n. n) m.command
    (λ a bs left is.
    let low = leb-true 0x10 a (sym (ap above is) ∙ h) in
    by_cond (Goes m) (leb left 1) _ _
    (λ e.
    let stored = stored_block_0 (timer_clock m).eeprom a bs low ∙ ticks.block_0 in
    end_any a bs (timer_clock m) (Goes m) (going ticks.edition stored refl) (going ticks.edition stored refl)
    (λ some high. going ticks.edition stored (le-leb 0x10 ((a + length bs) % 0x200) high)))
    (λ e. going ticks.edition ticks.block_0 (le-leb 0x10 a low)))
    (record { kept = ticks; above_still = ap above (timer_command m) ∙ h })
  where
    ticks : Keeps m (timer_clock m)
    ticks = timer_any (Keeps m) m (keeps_all m) (λ t. record { edition = refl; block_0 = refl }) (λ t. record { edition = refl; block_0 = refl })

    going : {x : Machine} → x.edition ≡ m.edition → take 0x10 x.eeprom ≡ take 0x10 m.eeprom → above x.command ≡ true → Goes m x
    going e l h = record { kept = record { edition = e; block_0 = l }; above_still = h }

pub clock_goes : (m : Machine) → above m.command ≡ true → Goes m (clock m)
unfolding clock
clock_goes m h =
    let g = reached_goes m h in
    either (Goes m) (stands_still m) _ _ (record { kept = record { edition = refl; block_0 = refl }; above_still = h })
    (record { kept = record { edition = g.kept.edition; block_0 = g.kept.block_0 }; above_still = g.above_still })

pub clocks_kept : (n : ℕ) (m : Machine) → above m.command ≡ true → Keeps m (clocks n m)
unfolding clocks
clocks_kept zero m h = keeps_all m
clocks_kept (suc n) m h = let g = clock_goes m h in keeps_then g.kept (clocks_kept n (clock m) g.above_still)
