-- An advance that ends programmings leaves the bytes of each at their addresses; a clock reaches none while a power mode has hold.
-- Assumes nothing.
use mathlib.Core.Path.{◌≡◌, refl, sym, ap, ◌∙◌, subst}
use mathlib.Core.Bool.{Bool, true, false, ◌||◌}
use mathlib.Core.List.{List, [], ◌∷◌}
use Prim.Native.Nat.{ℕ, zero, suc, ◌+◌, ◌-◌, ◌%◌, ◌<◌, ◌≤◌}
use native.Mathlib.Nat.{not-suc-le-zero, le_of_suc-le-suc}
use native.Mathlib.Omega.{arith}
use lib.Dec.{leb}
use lib.ListN.{length, get_or, take, set, length-set, length-take}
use lib.Seq.{get_or-set_same, get_or-set_other}
use borrow.Author.Tests.{leb-true, leb-false}
use Rattle.machine.specs.State.{Machine, Command, Modes, WriteE2, programming, with_modes}
use Rattle.machine.specs.Memory.{stored_from, room_in_block, programming_clocks}
use Rattle.machine.specs.Timer.{timer_clock}
use Rattle.machine.specs.Commands.{programs}
use Rattle.machine.specs.Power.{has_hold, modes_clocked, stands_still}
use Rattle.machine.specs.Events.{programmed, clock, clocks}
use Rattle.machine.proofs.ManyClocks.Pieces.{goes_on_by, same_eeprom}
use Rattle.machine.proofs.Clock.{timer_eeprom, timer_command, timer_modes, clock_stands, clock_plain, goes_on_lem, ends, end_any}

-- A byte below the stored ones is as it was; each stored byte stands at its address.
stored_below : (bs eeprom : List ℕ) (a k : ℕ) → k < a → get_or (stored_from eeprom a bs) k 0 ≡ get_or eeprom k 0
unfolding stored_from
stored_below [] eeprom a k h = refl
stored_below (b ∷ bs) eeprom a k h = stored_below bs (set eeprom a b) (a + 1) k (omega arith) ∙ get_or-set_other eeprom a k b 0 (λ e. omega (arith, e))

pub stored_at : (bs eeprom : List ℕ) (a i : ℕ) → a + length bs ≤ length eeprom → i < length bs → get_or (stored_from eeprom a bs) (a + i) 0 ≡ get_or bs i 0
unfolding stored_from
stored_at [] eeprom a i fits h = absurd (not-suc-le-zero h)
stored_at (b ∷ bs) eeprom a zero fits h =
    let here : a + 0 ≡ a = omega arith in
    ap (λ (k : ℕ). get_or (stored_from (set eeprom a b) (a + 1) bs) k 0) here
    ∙ stored_below bs (set eeprom a b) (a + 1) a (omega arith)
    ∙ get_or-set_same eeprom a b 0 (omega arith)
stored_at (b ∷ bs) eeprom a (suc i) fits h =
    let next : a + suc i ≡ a + 1 + i = omega arith in
    ap (λ (k : ℕ). get_or (stored_from (set eeprom a b) (a + 1) bs) k 0) next
    ∙ stored_at bs (set eeprom a b) (a + 1) i (omega (arith, length-set eeprom a b)) (le_of_suc-le-suc h)

-- While a programming has clocks left, its bytes wait on and memory stands.
pub pending : (n : ℕ) (m : Machine) (a left : ℕ) (bs : List ℕ) → stands_still m ≡ false → m.command ≡ WriteE2 (programming a bs left) → n < left →
    ((clocks n m).command ≡ WriteE2 (programming a bs (left - n))) × ((clocks n m).eeprom ≡ m.eeprom)
pending n m a left bs runs is within =
    let same = goes_on_by m a left bs runs is n within in
    (ap (λ (x : Machine). x.command) same, ap (λ (x : Machine). x.eeprom) same ∙ same_eeprom n m)

-- Clocks store nothing below an address: no programming runs, or one from there on, and what follows it comes behind it.
data StoresFrom (b : ℕ) : Command → Type 0 where
  never : {c : Command} → programs c ≡ false → StoresFrom b c
  from : (a left : ℕ) (bs : List ℕ) → b ≤ a → a + length bs ≤ 0x200 → StoresFrom b (WriteE2 (programming a bs left))

-- At the end of a programming: its bytes are in EEPROM, and what is latched then comes behind them.
module _ (a : ℕ) (bs : List ℕ) (m : Machine) (inside : a + length bs ≤ 0x200) where
  end_stores : (programmed a bs m).eeprom ≡ stored_from m.eeprom a bs
  end_stores = end_any a bs m (λ x. x.eeprom ≡ stored_from m.eeprom a bs) refl refl (λ some high. refl)

  end_from : (b : ℕ) → b ≤ a + length bs → StoresFrom b (programmed a bs m).command
  end_from b below =
      let next = (a + length bs) % 0x200 in
      end_any a bs m (λ x. StoresFrom b x.command) (never refl) (never refl)
      (λ some high. from next programming_clocks (take (room_in_block next) m.held) (omega arith) (omega (arith, length-take (room_in_block next) m.held)))

-- One clock, and any number of them.
clock_from : (b : ℕ) (m : Machine) → StoresFrom b m.command → StoresFrom b (clock m).command × ((k : ℕ) → k < b → get_or (clock m).eeprom k 0 ≡ get_or m.eeprom k 0)
clock_from b m at = by_hold (stands_still m) refl
  where
    Next : Machine → Type 0
    Next x = StoresFrom b x.command × ((k : ℕ) → k < b → get_or x.eeprom k 0 ≡ get_or m.eeprom k 0)

    stands : (k : ℕ) → get_or (timer_clock m).eeprom k 0 ≡ get_or m.eeprom k 0
    stands k = ap (λ (x : List ℕ). get_or x k 0) (timer_eeprom m)

    go : stands_still m ≡ false → (c : Command) → m.command ≡ c → StoresFrom b c → Next (clock m)
    go runs c is (never p) =
        subst Next (sym (clock_plain m runs (ap programs is ∙ p))) (subst (StoresFrom b) (sym (timer_command m ∙ is)) (never p), λ k h. stands k)
    go runs c is (from a left bs below inside) = by (leb left 1) refl
      where
        by : (t : Bool) → leb left 1 ≡ t → Next (clock m)
        by true e =
            subst Next (sym (ends m a left bs runs is (leb-true left 1 e))) (
              end_from a bs (timer_clock m) inside b (omega arith),
              λ k h. ap (λ (x : List ℕ). get_or x k 0) (end_stores a bs (timer_clock m) inside) ∙ stored_below bs (timer_clock m).eeprom a k (omega arith) ∙ stands k,
            )
        by false e = subst Next (sym (goes_on_lem m a left bs runs is (leb-false left 1 e))) (from a (left - 1) bs below inside, λ k h. stands k)

    by_hold : (t : Bool) → stands_still m ≡ t → Next (clock m)
    by_hold true holds = subst Next (sym (clock_stands m holds)) (at, λ k h. refl)
    by_hold false runs = go runs m.command refl at

untouched : (n b : ℕ) (m : Machine) → StoresFrom b m.command → (k : ℕ) → k < b → get_or (clocks n m).eeprom k 0 ≡ get_or m.eeprom k 0
unfolding clocks
untouched zero b m at k h = refl
untouched (suc n) b m at k h = let (next, same) = clock_from b m at in untouched n b (clock m) next k h ∙ same k h

-- A programming that ends leaves its bytes at their addresses, however many clocks and programmings follow.
module _ (m : Machine) (a left : ℕ) (bs : List ℕ) (runs : stands_still m ≡ false) (is : m.command ≡ WriteE2 (programming a bs left)) (inside : a + length bs ≤ 0x200) (size : length m.eeprom ≡ 0x200) where
  ends_now : (n : ℕ) → left ≤ 1 → (i : ℕ) → i < length bs → get_or (clocks (suc n) m).eeprom (a + i) 0 ≡ get_or bs i 0
  unfolding clocks
  ends_now n last i h =
      let x = timer_clock m in
      ap (λ (y : Machine). get_or (clocks n y).eeprom (a + i) 0) (ends m a left bs runs is last)
      ∙ untouched n (a + length bs) (with_modes (modes_clocked true m.status.modes) (programmed a bs x)) (end_from a bs x inside (a + length bs) (omega arith)) (a + i) (omega arith)
      ∙ ap (λ (y : List ℕ). get_or y (a + i) 0) (end_stores a bs x inside)
      ∙ stored_at bs x.eeprom a i (omega (arith, ap length (timer_eeprom m), size)) h

pub finishes : (n : ℕ) (m : Machine) (a left : ℕ) (bs : List ℕ) → stands_still m ≡ false → m.command ≡ WriteE2 (programming a bs left) → left ≤ suc n → a + length bs ≤ 0x200 → length m.eeprom ≡ 0x200 →
    (i : ℕ) → i < length bs → get_or (clocks (suc n) m).eeprom (a + i) 0 ≡ get_or bs i 0
unfolding clocks
finishes zero m a left bs runs is within inside size i h = ends_now m a left bs runs is inside size zero within i h
finishes (suc n) m a left bs runs is within inside size i h =
    go (leb left 1) refl
    (λ more.
    let next = goes_on_lem m a left bs runs is more in
    let modes : (clock m).status.modes ≡ m.status.modes = ap (λ (y : Machine). y.status.modes) next ∙ timer_modes m in
    finishes n (clock m) a (left - 1) bs (ap (λ (x : Modes). has_hold x.stand_by || has_hold x.power_down) modes ∙ runs) (ap (λ (y : Machine). y.command) next) (omega arith) inside (ap (λ (y : Machine). length y.eeprom) next ∙ ap length (timer_eeprom m) ∙ size) i h)
  where
    go : (t : Bool) → leb left 1 ≡ t → (1 < left → get_or (clocks (suc n) (clock m)).eeprom (a + i) 0 ≡ get_or bs i 0) → get_or (clocks (suc n) (clock m)).eeprom (a + i) 0 ≡ get_or bs i 0
    go true e later = ends_now m a left bs runs is inside size (suc n) (leb-true left 1 e) i h
    go false e later = later (leb-false left 1 e)
