-- Clocks up to the end of a programming, and clocks of a machine that programs nothing: each is the timer's own, with the programming's count beside it. No
-- power mode has hold.
-- Assumes nothing.
use Prim.Native.Nat.{ℕ, zero, suc, ◌+◌, ◌-◌, ◌<◌, ◌≤◌}
use native.Mathlib.Nat.{zero-add, suc-add}
use native.Mathlib.Omega.{arith}
use mathlib.Core.Path.{◌≡◌, refl, sym, ap, ◌∙◌}
use mathlib.Core.Bool.{true, false, ◌||◌}
use mathlib.Core.List.{List}
use Rattle.machine.specs.State.{Machine, Command, Modes, WriteE2, programming, with_command, with_modes}
use Rattle.machine.specs.Timer.{timer_clock}
use Rattle.machine.specs.WellFormed.{timer_formed}
use Rattle.machine.specs.Commands.{programs}
use Rattle.machine.specs.Power.{has_hold, modes_clocked, stands_still}
use Rattle.machine.specs.Events.{programmed, clock, clocks}
use Rattle.machine.specs.ManyClocks.{timer_after}
use Rattle.machine.proofs.Clock.{timer_command, timer_eeprom, timer_modes, timer_past_command, clock_plain, goes_on_lem, ends}
use Rattle.machine.proofs.ManyClocks.Timer.{one_more, none}

-- The clocks of a sum are those of its parts, one after the other; so one more is a clock behind them.
pub in_parts : (a b : ℕ) (m : Machine) → clocks (a + b) m ≡ clocks b (clocks a m)
unfolding clocks
in_parts zero b m = rw zero-add
in_parts (suc a) b m = rw suc-add (in_parts a b (clock m))

pub last_clock : (n : ℕ) (m : Machine) → clocks (suc n) m ≡ clock (clocks n m)
unfolding clocks
last_clock n m = let e : suc n ≡ n + 1 = omega arith in ap (λ (k : ℕ). clocks k m) e ∙ in_parts n 1 m

-- So many clocks of the timer alone, the last one behind the others. What each of them keeps they keep: the command, and the EEPROM.
pub timer_clocks : ℕ → Machine → Machine
timer_clocks zero m = m
timer_clocks (suc n) m = timer_clock (timer_clocks n m)

keep : (P : Machine → Type 0) → ((x : Machine) → P x → P (timer_clock x)) → (n : ℕ) (m : Machine) → P m → P (timer_clocks n m)
unfolding timer_clocks
keep P each zero m p = p
keep P each (suc n) m p = each (timer_clocks n m) (keep P each n m p)

same_command : (n : ℕ) (m : Machine) → (timer_clocks n m).command ≡ m.command
same_command n m = keep (λ (x : Machine). x.command ≡ m.command) (λ x same. timer_command x ∙ same) n m refl

pub same_eeprom : (n : ℕ) (m : Machine) → (timer_clocks n m).eeprom ≡ m.eeprom
same_eeprom n m = keep (λ (x : Machine). x.eeprom ≡ m.eeprom) (λ x same. timer_eeprom x ∙ same) n m refl

pub same_modes : (n : ℕ) (m : Machine) → (timer_clocks n m).status.modes ≡ m.status.modes
same_modes n m = keep (λ (x : Machine). x.status.modes ≡ m.status.modes) (λ x same. timer_modes x ∙ same) n m refl

still_runs : (n : ℕ) (m : Machine) → stands_still m ≡ false → stands_still (timer_clocks n m) ≡ false
still_runs n m runs = ap (λ (x : Modes). has_hold x.stand_by || has_hold x.power_down) (same_modes n m) ∙ runs

-- Of a timer that is formed they are those of the formula.
by_formula : (n : ℕ) (m : Machine) → timer_formed m.timer ≡ true → timer_clocks n m ≡ timer_after n m
unfolding timer_clocks
by_formula zero m formed = sym (none m formed)
by_formula (suc n) m formed = ap timer_clock (by_formula n m formed) ∙ one_more m n

-- Nothing is programmed.
alone : (n : ℕ) (m : Machine) → stands_still m ≡ false → programs m.command ≡ false → clocks n m ≡ timer_clocks n m
unfolding clocks timer_clocks
alone zero m runs idle = refl
alone (suc n) m runs idle =
    let x = timer_clocks n m in
    last_clock n m ∙ ap clock (alone n m runs idle) ∙ clock_plain x (still_runs n m runs) (ap programs (same_command n m) ∙ idle)

module _ (m : Machine) (a left : ℕ) (bs : List ℕ) (runs : stands_still m ≡ false) (is : m.command ≡ WriteE2 (programming a bs left)) where
  -- The machine with so many clocks left.
  abbrev counting : ℕ → Machine → Machine
  counting k x = with_command (WriteE2 (programming a bs k)) x

  -- A programming goes on.
  pub goes_on_by : (n : ℕ) → n < left → clocks n m ≡ counting (left - n) (timer_clocks n m)
  unfolding clocks timer_clocks
  goes_on_by zero within = let all : left ≡ left - 0 = omega arith in ap (λ (c : Command). with_command c m) is ∙ ap (λ (k : ℕ). counting k m) all
  goes_on_by (suc n) within =
      let x = timer_clocks n m in
      let less : left - n - 1 ≡ left - suc n = omega arith in
      last_clock n m
      ∙ ap clock (goes_on_by n (omega arith))
      ∙ goes_on_lem (counting (left - n) x) a (left - n) bs (still_runs n m runs) refl (omega arith)
      ∙ ap (counting (left - n - 1)) (timer_past_command (WriteE2 (programming a bs (left - n))) x)
      ∙ ap (λ (k : ℕ). counting k (timer_clock x)) less

  -- It ends with the last of its clocks.
  ends_by : 1 ≤ left → clocks left m ≡ with_modes (modes_clocked true m.status.modes) (programmed a bs (timer_clocks left m))
  unfolding timer_clocks
  ends_by some =
      let n = left - 1 in
      let x = timer_clocks n m in
      let all : left ≡ suc n = omega arith in
      let after : Machine → Machine = λ (y : Machine). with_modes (modes_clocked true m.status.modes) (programmed a bs y) in
      ap (λ (k : ℕ). clocks k m) all
      ∙ last_clock n m
      ∙ ap clock (goes_on_by n (omega arith))
      ∙ ends (counting (left - n) x) a (left - n) bs (still_runs n m runs) refl (omega arith)
      ∙ ap (λ (z : Modes). with_modes (modes_clocked true z) (programmed a bs (timer_clock (counting (left - n) x)))) (same_modes n m)
      ∙ ap after (timer_past_command (WriteE2 (programming a bs (left - n))) x)
      ∙ ap (λ (k : ℕ). after (timer_clocks k m)) (sym all)

-- The same, by the formula.
module _ (m : Machine) (formed : timer_formed m.timer ≡ true) where
  pub formula_command : (n : ℕ) → (timer_after n m).command ≡ m.command
  formula_command n = ap (λ (x : Machine). x.command) (sym (by_formula n m formed)) ∙ same_command n m

  pub formula_modes : (n : ℕ) → (timer_after n m).status.modes ≡ m.status.modes
  formula_modes n = ap (λ (x : Machine). x.status.modes) (sym (by_formula n m formed)) ∙ same_modes n m

  module _ (runs : stands_still m ≡ false) where
    pub timer_alone : programs m.command ≡ false → (n : ℕ) → clocks n m ≡ timer_after n m
    timer_alone idle n = alone n m runs idle ∙ by_formula n m formed

    module _ (a left : ℕ) (bs : List ℕ) (is : m.command ≡ WriteE2 (programming a bs left)) where
      pub before_end : (n : ℕ) → n < left → clocks n m ≡ with_command (WriteE2 (programming a bs (left - n))) (timer_after n m)
      before_end n within = goes_on_by m a left bs runs is n within ∙ ap (with_command (WriteE2 (programming a bs (left - n)))) (by_formula n m formed)

      pub at_end : 1 ≤ left → clocks left m ≡ with_modes (modes_clocked true m.status.modes) (programmed a bs (timer_after left m))
      at_end some = ends_by m a left bs runs is some ∙ ap (λ (y : Machine). with_modes (modes_clocked true m.status.modes) (programmed a bs y)) (by_formula left m formed)
