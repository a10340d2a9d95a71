-- At most six programmings end, however many clocks come: none begins but with bytes that wait, and each takes all that fit into its block.
-- Assumes nothing.
use Prim.Native.Nat.{ℕ, zero, suc, ◌+◌, ◌-◌, ◌/◌, ◌%◌, ◌≤◌}
use native.Mathlib.Nat.{le_trans}
use native.Mathlib.Omega.{arith}
use mathlib.Core.Path.{◌≡◌, refl, sym, ap, subst, ◌∙◌}
use mathlib.Core.Bool.{Bool, true, false, cond}
use mathlib.Core.List.{List}
use lib.Dec.{leb, eqb}
use lib.ListN.{length, take, drop, length-drop}
use lib.Seq.{length-take-le}
use borrow.Author.Tests.{leb-true, leb-false, eqb-true, eqb-false}
use Rattle.machine.specs.State.{Machine, Command, while_programming}
use Rattle.machine.specs.Memory.{room_in_block}
use Rattle.machine.specs.Timer.{timer_clock}
use Rattle.machine.specs.Commands.{programs}
use Rattle.machine.specs.Power.{stands_still}
use Rattle.machine.specs.Events.{programmed, ends_programming, clock}
use Rattle.machine.specs.ManyClocks.{ends_next, ends_within}
use Rattle.machine.proofs.Cases.{Kind, still, under, kind, not_programming, by_cond}
use Rattle.machine.proofs.Clock.{timer_command, timer_held, clock_stands, clock_plain, goes_on_lem, ends, end_any}

-- How many programmings so many waiting bytes make from an address on: one up to the end of its block, and then one for each block.
abbrev batches : ℕ → ℕ → ℕ
batches a held = cond (eqb held 0) 0 (suc ((held - room_in_block a + 15) / 16))

-- How many will end: the one that runs, and those of the bytes that wait.
abbrev to_end : Machine → ℕ
to_end m = while_programming (λ a bs left. suc (batches ((a + length bs) % 0x200) (length m.held))) 0 m.command

-- The bytes that are latched are one of their programmings; what waits behind them begins at a block's start.
latched_one : (a h taken rest : ℕ) → 1 ≤ h → rest ≡ h - room_in_block a → (room_in_block a ≤ h → taken ≡ room_in_block a) → suc (batches ((a + taken) % 0x200) rest) ≤ batches a h
latched_one a h taken rest some left whole =
    by_cond (λ n. suc (batches ((a + taken) % 0x200) rest) ≤ n) (eqb h 0) 0 _ (λ e. absurd (omega (arith, eqb-true h 0 e)))
    (λ e.
    by_cond (λ n. suc n ≤ suc ((h - room_in_block a + 15) / 16)) (eqb rest 0) 0 _ (λ f. omega arith)
    (λ f.
    let more = eqb-false rest 0 f in
    let full = whole (omega (arith, more)) in omega (arith, full, more)))

-- At the end of a programming.
after_end : (a : ℕ) (bs : List ℕ) (m : Machine) → to_end (programmed a bs m) ≤ batches ((a + length bs) % 0x200) (length m.held)
after_end a bs m =
    let next = (a + length bs) % 0x200 in
    end_any a bs m (λ x. to_end x ≤ batches next (length m.held)) (omega arith) (omega arith)
    (λ some high.
    latched_one next (length m.held) (length (take (room_in_block next) m.held)) (length (drop (room_in_block next) m.held)) some (length-drop (room_in_block next) m.held)
    (λ fits. length-take-le (room_in_block next) m.held fits))

-- One clock: none ends by it while a mode has hold, and what is to end stands.
one_clock : (m : Machine) → ends_next m + to_end (clock m) ≤ to_end m
one_clock m = by_hold (stands_still m) refl
  where
    x : Machine
    x = timer_clock m

    go : stands_still m ≡ false → Kind m.command → cond (ends_programming m.command) 1 0 + to_end (clock m) ≤ to_end m
    go runs (still idle) =
        let none : to_end (clock m) ≡ 0 = ap to_end (clock_plain m runs idle) ∙ not_programming _ 0 x.command (ap programs (timer_command m) ∙ idle) in
        let no_end : ◌≡◌ {A = ℕ} (cond (ends_programming m.command) 1 0) 0 = ap (λ (t : Bool). cond {A = ℕ} t 1 0) (not_programming {X = Bool} (λ a bs left. leb left 1) false m.command idle) in
        omega (arith, none, no_end)
    go runs (under a bs left is) = by (leb left 1) refl
      where
        due : ℕ
        due = batches ((a + length bs) % 0x200) (length m.held)

        all : to_end m ≡ suc due
        all = ap (λ (c : Command). while_programming (λ s cs l. suc (batches ((s + length cs) % 0x200) (length m.held))) 0 c) is

        end : (t : Bool) → leb left 1 ≡ t → ◌≡◌ {A = ℕ} (cond (ends_programming m.command) 1 0) (cond t 1 0)
        end t e = ap (λ (c : Command). cond {A = ℕ} (ends_programming c) 1 0) is ∙ ap (λ (u : Bool). cond {A = ℕ} u 1 0) e

        by : (t : Bool) → leb left 1 ≡ t → cond (ends_programming m.command) 1 0 + to_end (clock m) ≤ to_end m
        by true e =
            let next : to_end (clock m) ≤ due =
            subst (λ (y : Machine). to_end y ≤ due) (sym (ends m a left bs runs is (leb-true left 1 e)))
            (subst (λ (h : List ℕ). to_end (programmed a bs x) ≤ batches ((a + length bs) % 0x200) (length h)) (timer_held m) (after_end a bs x)) in
            omega (arith, end true e, next, all)
        by false e =
            let same : to_end (clock m) ≡ suc due =
            ap to_end (goes_on_lem m a left bs runs is (leb-false left 1 e)) ∙ ap (λ (h : List ℕ). suc (batches ((a + length bs) % 0x200) (length h))) (timer_held m) in
            omega (arith, end false e, same, all)

    by_hold : (t : Bool) → stands_still m ≡ t → cond t 0 (cond (ends_programming m.command) 1 0) + to_end (clock m) ≤ to_end m
    by_hold true stands = let same : to_end (clock m) ≡ to_end m = ap to_end (clock_stands m stands) in omega (arith, same)
    by_hold false runs = go runs (kind m.command)

-- So however many come.
within : (n : ℕ) (m : Machine) → ends_within n m ≤ to_end m
unfolding ends_within
within zero m = omega arith
within (suc n) m = omega (arith, one_clock m, within n (clock m))

few : (a h : ℕ) → h ≤ 64 → batches a h ≤ 5
few a h fits = by_cond (λ n. n ≤ 5) (eqb h 0) 0 _ (λ e. omega arith) (λ e. omega arith)

pub at_most_six : (n : ℕ) (m : Machine) → length m.held ≤ 64 → ends_within n m ≤ 6
at_most_six n m fits = le_trans (within n m) (go (kind m.command))
  where
    go : Kind m.command → to_end m ≤ 6
    go (still idle) = omega (arith, not_programming (λ a bs left. suc (batches ((a + length bs) % 0x200) (length m.held))) 0 m.command idle)
    go (under a bs left is) =
        let all : to_end m ≡ suc (batches ((a + length bs) % 0x200) (length m.held)) =
        ap (λ (c : Command). while_programming (λ s cs l. suc (batches ((s + length cs) % 0x200) (length m.held))) 0 c) is in
        omega (arith, all, few ((a + length bs) % 0x200) (length m.held) fits)
