-- The timer after any number of clocks: one clock more adds one to the count that `timer_after` divides.
-- Assumes nothing.
use Prim.Native.Nat.{ℕ, zero, suc, ◌+◌, ◌-◌, ◌*◌, ◌/◌, ◌%◌, ◌^◌, ◌<◌, ◌≤◌}
use native.Mathlib.Nat.{zero-mod, suc-mod, mod-lt, mod-eq_of_lt, mod_self, div-add-mod', div-eq_of_lt, div_self, mul-add-div_right}
use native.Mathlib.Numerals.{add-one}
use native.Mathlib.Omega.{arith}
use mathlib.Core.Path.{◌≡◌, refl, sym, ap, ◌∙◌}
use mathlib.Core.Bool.{Bool, true, false, cond, not, ◌&&◌, true≢false}
use lib.Dec.{ltb, eqb}
use lib.Pow.{pow_pos}
use borrow.Author.Tests.{ltb-true, ltb-false, lt-ltb, le-ltb}
use Rattle.machine.specs.State.{Machine, Timer, with_timer}
use Rattle.machine.specs.Timer.{t_auto_restart, timer_reload, stopped_at, running_at, restarted, raised_timer, timer_stepped, timer_clock}
use Rattle.machine.specs.WellFormed.{timer_formed}
use Rattle.machine.specs.ManyClocks.{after_steps, timer_after}
use Rattle.machine.proofs.WellFormed.Timer.{running}
use Rattle.machine.proofs.ManyClocks.Round.{round_of}

-- A count by a period: one more is one more of the remainder, or of the quotient.
module _ (c period : ℕ) (some : 0 < period) where
  next : suc c / period ≡ c / period + suc (c % period) / period
  next =
      let split : suc c ≡ c / period * period + suc (c % period) = omega (arith, div-add-mod' c period) in
      ap (λ (n : ℕ). n / period) split ∙ mul-add-div_right some (c / period) (suc (c % period))

  within : suc (c % period) < period → (suc c / period ≡ c / period) × (suc c % period ≡ suc (c % period))
  within less = let none = div-eq_of_lt less in (omega (arith, next, none), suc-mod c period ∙ mod-eq_of_lt less)

  over : period ≤ suc (c % period) → (suc c / period ≡ suc (c / period)) × (suc c % period ≡ 0)
  over all =
      let whole : suc (c % period) ≡ period = omega (arith, mod-lt c some) in
      let one = ap (λ (n : ℕ). n / period) whole ∙ div_self some in
      (omega (arith, next, one), suc-mod c period ∙ ap (λ (n : ℕ). n % period) whole ∙ mod_self period)

-- A timer that begins again has a TimerReload.
pub goes_round : (auto : Bool) (n : ℕ) → (auto && not (eqb n 0)) ≡ true → 0 < n
goes_round auto zero e = absurd (true≢false (sym e ∙ none auto))
  where
    none : (t : Bool) → (t && false) ≡ false
    none true = refl
    none false = refl
goes_round auto (suc n) e = omega arith

module _ (m : Machine) where
  abbrev v : ℕ
  v = m.timer.value

  abbrev p : ℕ
  p = m.timer.prescaler

  abbrev r : ℕ
  r = timer_reload m

  abbrev again : Bool
  again = t_auto_restart m && not (eqb r 0)

  -- A timer that has come to its end, so many steps ago: its value where it goes round, and the machine.
  abbrev round : ℕ → ℕ
  round since = round_of r since

  abbrev past : ℕ → ℕ → Machine
  past since phase = with_timer (cond again (running_at (round since) p phase) (stopped_at 0)) (raised_timer m)

  -- `after_steps`, by its test.
  is_below : (s f : ℕ) → s < v → after_steps s f m ≡ with_timer (running_at (v - s) p f) m
  is_below s f h = ap (λ (t : Bool). cond t (with_timer (running_at (v - s) p f) m) (past (s - v) f)) (lt-ltb s v h)

  is_past : (s f : ℕ) → v ≤ s → after_steps s f m ≡ past (s - v) f
  is_past s f h = ap (λ (t : Bool). cond t (with_timer (running_at (v - s) p f) m) (past (s - v) f)) (le-ltb s v h)

  -- A clock within a step.
  counts : (s f : ℕ) → f + 1 < 2 ^ p → timer_clock (after_steps s f m) ≡ after_steps s (f + 1) m
  unfolding timer_clock
  counts s f more = go (ltb s v) again
    where
      go : (below goes : Bool) →
          timer_clock (cond below (with_timer (running_at (v - s) p f) m) (with_timer (cond goes (running_at (round (s - v)) p f) (stopped_at 0)) (raised_timer m)))
          ≡ cond below (with_timer (running_at (v - s) p (f + 1)) m) (with_timer (cond goes (running_at (round (s - v)) p (f + 1)) (stopped_at 0)) (raised_timer m))
      go true goes = rw (lt-ltb (f + 1) (2 ^ p) more) refl
      go false true = rw (lt-ltb (f + 1) (2 ^ p) more) refl
      go false false = refl

  -- A timer at 1 begins again or stops.
  begins_again : cond (t_auto_restart m) (restarted r p) (stopped_at 0) ≡ cond again (running_at r p 0) (stopped_at 0)
  begins_again = go (t_auto_restart m) (eqb r 0)
    where
      go : (auto none : Bool) → cond auto (cond none (stopped_at 0) (running_at r p 0)) (stopped_at 0) ≡ cond (auto && not none) (running_at r p 0) (stopped_at 0)
      go true true = refl
      go true false = refl
      go false none = refl

  -- At its end no step is left over.
  just_ended : with_timer (cond (t_auto_restart m) (restarted r p) (stopped_at 0)) (raised_timer m) ≡ past 0 0
  just_ended =
      let whole : r ≡ round 0 = omega (arith, zero-mod r) in
      ap (λ (t : Timer). with_timer t (raised_timer m)) (begins_again ∙ ap (λ (n : ℕ). cond again (running_at n p 0) (stopped_at 0)) whole)

  -- A step, before the end and after it.
  step_below : (s f : ℕ) → s < v → timer_stepped (with_timer (running_at (v - s) p f) m) ≡ after_steps (suc s) 0 m
  step_below s f h = go (ltb 1 (v - s)) refl
    where
      go : (t : Bool) → ltb 1 (v - s) ≡ t →
          cond t (with_timer (running_at (v - s - 1) p 0) m) (with_timer (cond (t_auto_restart m) (restarted r p) (stopped_at 0)) (raised_timer m)) ≡ after_steps (suc s) 0 m
      go true e =
          let above = ltb-true 1 (v - s) e in
          let less : v - s - 1 ≡ v - suc s = omega arith in
          ap (λ (n : ℕ). with_timer (running_at n p 0) m) less ∙ sym (is_below (suc s) 0 (omega arith))
      go false e =
          let low = ltb-false 1 (v - s) e in
          let none : 0 ≡ suc s - v = omega arith in
          just_ended ∙ ap (λ (n : ℕ). past n 0) none ∙ sym (is_past (suc s) 0 (omega arith))

  step_past : (since f : ℕ) → 2 ^ p ≤ f + 1 → timer_clock (past since f) ≡ past (suc since) 0
  unfolding timer_clock
  step_past since f all = go again refl
    where
      at : ℕ → Machine
      at n = with_timer (running_at n p 0) (raised_timer m)

      low : (t : Bool) → ltb 1 (round since) ≡ t → 0 < r → again ≡ true →
          cond t (at (round since - 1)) (with_timer (cond (t_auto_restart m) (restarted r p) (stopped_at 0)) (raised_timer m)) ≡ at (round (suc since))
      low true e some on =
          let above = ltb-true 1 (round since) e in
          let next = (within since r some (omega arith)).1 in
          let less : round since - 1 ≡ round (suc since) = omega (arith, next) in ap at less
      low false e some on =
          let last = ltb-false 1 (round since) e in
          let next = (over since r some (omega (arith, mod-lt since some))).1 in
          let whole : r ≡ round (suc since) = omega (arith, next) in
          ap (λ (t : Timer). with_timer t (raised_timer m)) (begins_again ∙ ap (λ (t : Bool). cond t (running_at r p 0) (stopped_at 0)) on) ∙ ap at whole

      go : (t : Bool) → again ≡ t →
          timer_clock (with_timer (cond t (running_at (round since) p f) (stopped_at 0)) (raised_timer m))
          ≡ with_timer (cond t (running_at (round (suc since)) p 0) (stopped_at 0)) (raised_timer m)
      go true e = rw (le-ltb (f + 1) (2 ^ p) all) (low (ltb 1 (round since)) refl (goes_round (t_auto_restart m) r e) e)
      go false e = refl

  steps : (s f : ℕ) → 2 ^ p ≤ f + 1 → timer_clock (after_steps s f m) ≡ after_steps (suc s) 0 m
  unfolding timer_clock
  steps s f all = go (ltb s v) refl
    where
      go : (t : Bool) → ltb s v ≡ t → timer_clock (cond t (with_timer (running_at (v - s) p f) m) (past (s - v) f)) ≡ after_steps (suc s) 0 m
      go true e = rw (le-ltb (f + 1) (2 ^ p) all) (step_below s f (ltb-true s v e))
      go false e =
          let ended = ltb-false s v e in
          let one : suc (s - v) ≡ suc s - v = omega arith in
          step_past (s - v) f all ∙ ap (λ (n : ℕ). past n 0) one ∙ sym (is_past (suc s) 0 (omega arith))

  -- One clock more.
  pub one_more : (n : ℕ) → timer_clock (timer_after n m) ≡ timer_after (suc n) m
  unfolding timer_after timer_clock
  one_more n = go m.timer.running refl
    where
      total : ℕ
      total = m.timer.phase + n

      more : m.timer.phase + suc n ≡ suc total
      more = omega arith

      divided : timer_clock (after_steps (total / 2 ^ p) (total % 2 ^ p) m) ≡ after_steps ((m.timer.phase + suc n) / 2 ^ p) ((m.timer.phase + suc n) % 2 ^ p) m
      divided = by (ltb (suc (total % 2 ^ p)) (2 ^ p)) refl
        where
          s : ℕ
          s = total / 2 ^ p

          f : ℕ
          f = total % 2 ^ p

          at : (s' f' : ℕ) → suc total / 2 ^ p ≡ s' → suc total % 2 ^ p ≡ f' → after_steps s' f' m ≡ after_steps ((m.timer.phase + suc n) / 2 ^ p) ((m.timer.phase + suc n) % 2 ^ p) m
          at s' f' quotient remainder =
              ap (λ (k : ℕ). after_steps k f' m) (sym (ap (λ (k : ℕ). k / 2 ^ p) more ∙ quotient))
              ∙ ap (λ (k : ℕ). after_steps ((m.timer.phase + suc n) / 2 ^ p) k m) (sym (ap (λ (k : ℕ). k % 2 ^ p) more ∙ remainder))

          by : (t : Bool) → ltb (suc f) (2 ^ p) ≡ t → timer_clock (after_steps s f m) ≡ after_steps ((m.timer.phase + suc n) / 2 ^ p) ((m.timer.phase + suc n) % 2 ^ p) m
          by true e =
              let less = ltb-true (suc f) (2 ^ p) e in
              let (quotient, remainder) = within total (2 ^ p) (pow_pos p) less in
              counts s f (omega arith) ∙ at s (f + 1) quotient (remainder ∙ sym (add-one f))
          by false e =
              let all = ltb-false (suc f) (2 ^ p) e in
              let (quotient, remainder) = over total (2 ^ p) (pow_pos p) all in
              steps s f (omega arith) ∙ at (suc s) 0 quotient remainder

      go : (t : Bool) → m.timer.running ≡ t →
          timer_clock (cond t (after_steps (total / 2 ^ p) (total % 2 ^ p) m) m)
          ≡ cond t (after_steps ((m.timer.phase + suc n) / 2 ^ p) ((m.timer.phase + suc n) % 2 ^ p) m) m
      go true on = divided
      go false off = rw off refl

  -- No clock.
  pub none : timer_formed m.timer ≡ true → timer_after 0 m ≡ m
  unfolding timer_after
  none formed = go m.timer.running refl
    where
      total : ℕ
      total = m.timer.phase + 0

      go : (t : Bool) → m.timer.running ≡ t → cond t (after_steps (total / 2 ^ p) (total % 2 ^ p) m) m ≡ m
      go true on =
          let run = running m.timer on formed in
          let same : total ≡ m.timer.phase = omega arith in
          let quotient : total / 2 ^ p ≡ 0 = ap (λ (k : ℕ). k / 2 ^ p) same ∙ div-eq_of_lt run.phased in
          let remainder : total % 2 ^ p ≡ m.timer.phase = ap (λ (k : ℕ). k % 2 ^ p) same ∙ mod-eq_of_lt run.phased in
          let whole : v - 0 ≡ v = omega arith in
          ap (λ (k : ℕ). after_steps k (total % 2 ^ p) m) quotient
          ∙ ap (λ (k : ℕ). after_steps 0 k m) remainder
          ∙ is_below 0 m.timer.phase run.low
          ∙ ap (λ (k : ℕ). with_timer (running_at k p m.timer.phase) m) whole
          ∙ ap (λ (b : Bool). with_timer (record { running = b; value = v; prescaler = p; phase = m.timer.phase }) m) (sym on)
      go false off = refl
