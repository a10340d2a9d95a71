-- The single-clock rule holds: a clock does not read the alert requests, and each alert flag turns at most once within an advance.
-- Assumes nothing.
use Prim.Native.Nat.{ℕ, zero, suc, ◌+◌, ◌-◌}
use native.Mathlib.Omega.{arith}
use mathlib.Core.Path.{◌≡◌, refl, sym, ap, ◌∙◌}
use mathlib.Core.Bool.{Bool, true, false, not, ◌&&◌, ◌||◌, or-false, not-and_self}
use lib.ListN.{length}
use borrow.Author.Tests.{leb-true, leb-false, le-leb, lt-leb}
use Rattle.machine.specs.State.{Machine}
use Rattle.machine.specs.Fifo.{lo_alert, hi_alert, alerted, water_level}
use Rattle.machine.specs.Events.{clock, clocks, advanced}
use Rattle.machine.specs.SingleClock.{singly, SingleClockRule}
use Rattle.machine.proofs.ManyClocks.Pieces.{in_parts}
use Rattle.machine.proofs.SingleClock.Laws.{requesting, raising, once, Calm, clocks_calm}

-- Fewer held bytes against the same WaterLevel.
lo_rises : (n : ℕ) (m : Machine) → lo_alert m ≡ true → lo_alert (clocks n m) ≡ true
unfolding lo_alert
lo_rises n m on =
    let calm : Calm false false m (clocks n m) (clocks n (raising false false m)) = clocks_calm false false n m in
    rw calm.registers_stand (le-leb (length (clocks n m).held) (water_level m) (omega (arith, leb-true (length m.held) (water_level m) on)))

-- More room against the same WaterLevel.
hi_falls : (n : ℕ) (m : Machine) → hi_alert m ≡ false → hi_alert (clocks n m) ≡ false
unfolding hi_alert
hi_falls n m off =
    let calm : Calm false false m (clocks n m) (clocks n (raising false false m)) = clocks_calm false false n m in
    rw calm.registers_stand (lt-leb (64 - length (clocks n m).held) (water_level m) (omega (arith, leb-false (64 - length m.held) (water_level m) off)))

-- One clock, and the flags from before it on.
one : (m : Machine) → advanced 1 m ≡ alerted m (clock m)
unfolding advanced clocks
one m = refl

-- No flag turns where nothing happens.
none : (m : Machine) → advanced 0 m ≡ m
unfolding advanced clocks alerted
none m = simp (not-and_self, or-false)

-- The alerts judged from m to x and then from x to y, by flags of which LoAlert only rises and HiAlert only falls, are those judged from m to y.
joined : (m x y : Machine) → (hi_alert m ≡ false → hi_alert x ≡ false) → (hi_alert x ≡ false → hi_alert y ≡ false) →
    (lo_alert m ≡ true → lo_alert x ≡ true) → (lo_alert x ≡ true → lo_alert y ≡ true) →
    alerted m y ≡ alerted (alerted m x) (raising (not (hi_alert m) && hi_alert x) (not (lo_alert m) && lo_alert x) y)
unfolding alerted hi_alert lo_alert
joined m x y hi hi' lo lo' =
    ap (λ (t : Bool). requesting t (y.status.requests.lo_alert || (not (lo_alert m) && lo_alert y)) y)
    (once y.status.requests.hi_alert (hi_alert m) (hi_alert x) (hi_alert y) (λ p q. cc (hi p)) (λ p q. hi' q))
    ∙ ap (λ (t : Bool). requesting (y.status.requests.hi_alert || (not (hi_alert m) && hi_alert x) || (not (hi_alert x) && hi_alert y)) t y)
    (once y.status.requests.lo_alert (lo_alert m) (lo_alert x) (lo_alert y) (λ p q. lo' q) (λ p q. cc (lo p)))

-- The second advance's clocks do not see what the first has requested.
sums : (a b : ℕ) (m : Machine) → advanced (a + b) m ≡ advanced b (advanced a m)
unfolding advanced alerted
sums a b m =
    let x = clocks a m in
    ap (alerted m) (in_parts a b m)
    ∙ joined m x (clocks b x) (hi_falls a m) (hi_falls b x) (lo_rises a m) (lo_rises b x)
    ∙ sym (ap (alerted (advanced a m)) (clocks_calm (not (hi_alert m) && hi_alert x) (not (lo_alert m) && lo_alert x) b x).raised)

-- One clock at a time, by the sum of one and the rest.
singles : (n : ℕ) (m : Machine) → advanced n m ≡ singly n m
unfolding singly
singles zero m = none m
singles (suc n) m =
    let e : suc n ≡ 1 + n = omega arith in
    rw e (sums 1 n m) ∙ singles n (advanced 1 m)

-- The rule, field by field.
pub single_clock_rule : SingleClockRule
single_clock_rule =
    record {
      none = none;
      one = one;
      sums = sums;
      singles = singles;
      held_falls = λ n m. (clocks_calm false false n m).held_falls;
      registers_stand = λ n m. (clocks_calm false false n m).registers_stand;
      lo_rises = lo_rises;
      hi_falls = hi_falls;
    }
