-- What an advance enters: at the end of each programming those of the waiting bytes that are latched then, in turn; and the bytes of every programming
-- that ended are at their addresses when the advance is over. While a power mode has hold, nothing is entered.
-- Assumes nothing.
use mathlib.Core.Path.{◌≡◌, refl, sym, ap, ◌∙◌, subst}
use mathlib.Core.Bool.{Bool, true, false, cond}
use mathlib.Core.List.{List, [], ◌∷◌, ◌++◌, append_assoc, append-nil}
use Prim.Native.Nat.{ℕ, zero, suc, ◌+◌, ◌<◌, ◌≤◌}
use native.Mathlib.Omega.{arith}
use lib.Dec.{leb}
use lib.ListN.{length, get_or}
use borrow.Author.Tests.{leb-true, leb-false}
use Rattle.machine.specs.State.{Machine, Command, WriteE2, programming}
use Rattle.machine.specs.Timer.{timer_clock}
use Rattle.machine.specs.Power.{stands_still}
use Rattle.machine.specs.Events.{clock, clocks}
use Rattle.machine.proofs.Cases.{Kind, still, under, kind, not_programming}
use Rattle.machine.proofs.Clock.{timer_command, clock_stands, clock_plain, goes_on_lem, ends}
use Rattle.journal.specs.Entries.{Entry, Byte, collect}
use Rattle.journal.specs.Journal.{Journal, enter_end, enter_clock_of, enter_clock, enter_clocks}
use Rattle.journal.specs.Demand.{batch, waiting}
use Rattle.journal.specs.Account.{memory_bytes, AtAddresses}
use Rattle.journal.proofs.Folds.{collect_append}
use Rattle.journal.proofs.Agreement.{AgreesWith, PlaceIs}
use Rattle.journal.proofs.Calls.{timer_agrees, clock_agrees, clocks_agree}
use Rattle.journal.proofs.Programming.{finishes}
use Rattle.journal.proofs.Entered.{Inside, inside_none, inside_both, end_enters}

-- Bytes that stand at an address and behind it are at their addresses.
stand_at : (bs cells : List ℕ) (s : ℕ) → s + length bs ≤ length cells → ((i : ℕ) → i < length bs → get_or cells (s + i) 0 ≡ get_or bs i 0) → AtAddresses cells (batch s bs)
unfolding AtAddresses batch
stand_at [] cells s fits h = tt
stand_at (b ∷ bs) cells s fits h =
    let here : s ≡ s + 0 = omega arith in (
      omega arith,
      ap (λ (k : ℕ). get_or cells k 0) here ∙ h 0 (omega arith),
      stand_at bs cells (s + 1) (omega arith) (λ i l. let next : s + 1 + i ≡ s + suc i = omega arith in ap (λ (k : ℕ). get_or cells k 0) next ∙ h (suc i) (omega arith)),
    )

-- Some bytes at their addresses, and others.
at_both : (cells : List ℕ) (xs ys : List Byte) → AtAddresses cells xs → AtAddresses cells ys → AtAddresses cells (xs ++ ys)
unfolding AtAddresses
at_both cells [] ys here there = there
at_both cells (x ∷ xs) ys (inside, stands, rest) there = (inside, stands, at_both cells xs ys rest there)

-- The entries of an advance, and the memory bytes whose programming ended in it.
pub record Clocked (m : Machine) (j : Journal) (next : Machine) (k : Journal) : Type 0 where
  pub entries : List Entry
  pub appended : k.entries ≡ j.entries ++ entries
  pub inside : Inside entries
  pub ended : List Byte
  pub in_order : waiting m.command ++ collect memory_bytes entries ≡ ended ++ waiting next.command
  pub at_addresses : AtAddresses next.eeprom ended

-- A clock by which no programming ends: the same bytes wait after it.
quietly : {m next : Machine} {j k : Journal} (x : Machine) → waiting x.command ≡ waiting m.command → Clocked x j next k → Clocked m j next k
quietly x same l =
    record {
      entries = l.entries;
      appended = l.appended;
      inside = l.inside;
      ended = l.ended;
      in_order = ap (λ (z : List Byte). z ++ collect memory_bytes l.entries) (sym same) ∙ l.in_order;
      at_addresses = l.at_addresses;
    }

-- One clock, before all that so many more enter.
module _ (image : List ℕ) (n : ℕ) (m : Machine) (j : Journal) (agrees : AgreesWith image m j) where
  abbrev x : Machine
  x = timer_clock m

  abbrev k : Journal
  k = enter_clock m j

  abbrev end : Machine
  end = clocks n (clock m)

  -- it enters nothing
  passes : Clocked (clock m) k end (enter_clocks n (clock m) k) → k ≡ j → waiting (clock m).command ≡ waiting m.command → Clocked m j end (enter_clocks n (clock m) k)
  passes rest none same = quietly (clock m) same (subst (λ (z : Journal). Clocked (clock m) z end (enter_clocks n (clock m) k)) none rest)

  by_hold : (t : Bool) → stands_still m ≡ t → k ≡ cond t j (enter_clock_of m.command x j)
  by_hold t h = ap (λ (u : Bool). cond u j (enter_clock_of m.command x j)) h

  module _ (a left : ℕ) (bs : List ℕ) (runs : stands_still m ≡ false) (is : m.command ≡ WriteE2 (programming a bs left)) where
    enters : (t : Bool) → leb left 1 ≡ t → k ≡ cond t (enter_end a bs x j) j
    enters t e = by_hold false runs ∙ ap (λ (c : Command). enter_clock_of c x j) is ∙ ap (λ (u : Bool). cond u (enter_end a bs x j) j) e

    -- a programming ends by it
    finishing : Clocked (clock m) k end (enter_clocks n (clock m) k) → leb left 1 ≡ true → Clocked m j end (enter_clocks n (clock m) k)
    unfolding clocks
    finishing rest e =
        let last = leb-true left 1 e in
        let l = end_enters image a left bs x j (timer_command m ∙ is) (timer_agrees image m j agrees) in
        let place = subst (λ (c : Command). PlaceIs c j.base j.count) is agrees.same_place in
        let next : collect memory_bytes l.entries ≡ waiting (clock m).command = l.waits ∙ ap (λ (y : Machine). waiting y.command) (sym (ends m a left bs runs is last)) in
        let size : length end.eeprom ≡ 512 = (clocks_agree image (suc n) m j agrees).whole in
        record {
          entries = l.entries ++ rest.entries;
          appended =
              rest.appended
              ∙ ap (λ (z : List Entry). z ++ rest.entries) (ap (λ (z : Journal). z.entries) (enters true e) ∙ l.appended)
              ∙ append_assoc j.entries l.entries rest.entries;
          inside = inside_both l.entries rest.entries l.inside rest.inside;
          ended = batch a bs ++ rest.ended;
          in_order =
              ap (λ (c : Command). waiting c ++ collect memory_bytes (l.entries ++ rest.entries)) is
              ∙ ap (λ (z : List Byte). batch a bs ++ z) (collect_append memory_bytes l.entries rest.entries ∙ ap (λ (z : List Byte). z ++ collect memory_bytes rest.entries) next ∙ rest.in_order)
              ∙ sym (append_assoc (batch a bs) rest.ended (waiting end.command));
          at_addresses =
              at_both end.eeprom (batch a bs) rest.ended
              (stand_at bs end.eeprom a (omega (arith, place.0, place.1, size)) (finishes n m a left bs runs is (omega arith) (omega (arith, place.0, place.1)) agrees.whole))
              rest.at_addresses;
        }

  one_clock : Clocked (clock m) k end (enter_clocks n (clock m) k) → Clocked m j end (enter_clocks n (clock m) k)
  one_clock rest = held (stands_still m) refl
    where
      go : stands_still m ≡ false → Kind m.command → Clocked m j end (enter_clocks n (clock m) k)
      go runs (still idle) =
          passes rest (by_hold false runs ∙ not_programming _ j m.command idle)
          (ap (λ (y : Machine). waiting y.command) (clock_plain m runs idle) ∙ ap waiting (timer_command m))
      go runs (under a bs left is) = by (leb left 1) refl
        where
          by : (t : Bool) → leb left 1 ≡ t → Clocked m j end (enter_clocks n (clock m) k)
          by true e = finishing a left bs runs is rest e
          by false e =
              passes rest (enters a left bs runs is false e) (ap (λ (y : Machine). waiting y.command) (goes_on_lem m a left bs runs is (leb-false left 1 e)) ∙ ap waiting (sym is))

      held : (t : Bool) → stands_still m ≡ t → Clocked m j end (enter_clocks n (clock m) k)
      held true holds = passes rest (by_hold true holds) (ap (λ (y : Machine). waiting y.command) (clock_stands m holds))
      held false runs = go runs (kind m.command)

-- Any number of clocks.
pub clocks_enter : (image : List ℕ) (n : ℕ) (m : Machine) (j : Journal) → AgreesWith image m j → Clocked m j (clocks n m) (enter_clocks n m j)
unfolding clocks enter_clocks AtAddresses collect
clocks_enter image zero m j agrees =
    record { entries = []; appended = sym (append-nil j.entries); inside = inside_none; ended = []; in_order = append-nil (waiting m.command); at_addresses = tt }
clocks_enter image (suc n) m j agrees = one_clock image n m j agrees (clocks_enter image n (clock m) (enter_clock m j) (clock_agrees image m j agrees))
