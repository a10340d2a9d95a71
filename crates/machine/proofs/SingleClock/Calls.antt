-- The single-clock rule of calls: an accepted advance is the machine's own, and leaves a machine that accepts the next one.
-- Assumes nothing.
use Prim.Native.Nat.{ℕ, zero, suc, ◌+◌}
use native.Mathlib.Omega.{arith}
use mathlib.Core.Path.{◌≡◌, sym, ap, ◌∙◌, subst}
use mathlib.Core.Bool.{Bool, not}
use mathlib.Core.List.{[]}
use lib.ListN.{replicate}
use Rattle.machine.specs.State.{Machine}
use Rattle.machine.specs.WellFormedness.{Formed}
use Rattle.machine.specs.Refusals.{advance, refuse_if, refusal}
use Rattle.machine.specs.Events.{Outcome, advanced, done, perform, after_calls}
use Rattle.machine.specs.SingleClock.{SingleClockCalls}
use Rattle.machine.proofs.Performing.{as_accepted}
use Rattle.machine.proofs.WellFormed.Kept.{well_formedness}
use Rattle.machine.proofs.SingleClock.Rule.{single_clock_rule}

pub is_done : (n : ℕ) (m : Machine) → Formed m → perform m (advance n) ≡ record { answer = done; next = advanced n m; buffer = [] }
unfolding refusal
is_done n m f = as_accepted m (advance n) (ap (λ (t : Bool). refuse_if (not t) 7 0) f.well)

-- The machine that an advance leaves.
next : (n : ℕ) (m : Machine) → Formed m → (perform m (advance n)).next ≡ advanced n m
next n m f = ap (λ (o : Outcome). o.next) (is_done n m f)

-- It is well formed.
advanced_formed : (n : ℕ) (m : Machine) → Formed m → Formed (advanced n m)
advanced_formed n m f = subst Formed (next n m f) (well_formedness.kept m (advance n) tt f)

sums : (a b : ℕ) (m : Machine) → Formed m → perform m (advance (a + b)) ≡ perform (perform m (advance a)).next (advance b)
sums a b m f =
    is_done (a + b) m f
    ∙ ap (λ (x : Machine). record { answer = done; next = x; buffer = [] }) (single_clock_rule.sums a b m)
    ∙ sym (is_done b (advanced a m) (advanced_formed a m f))
    ∙ ap (λ (x : Machine). perform x (advance b)) (sym (next a m f))

-- One call at a time, by the sum of one and the rest.
singles : (n : ℕ) (m : Machine) → Formed m → (perform m (advance n)).next ≡ after_calls m (replicate n (advance 1))
unfolding after_calls
singles zero m f = next 0 m f ∙ single_clock_rule.none m
singles (suc n) m f =
    let e : suc n ≡ 1 + n = omega arith in
    ap (λ (k : ℕ). (perform m (advance k)).next) e
    ∙ ap (λ (o : Outcome). o.next) (sums 1 n m f)
    ∙ singles n (perform m (advance 1)).next (well_formedness.kept m (advance 1) tt f)

-- The rule, field by field.
pub single_clock_calls : SingleClockCalls
single_clock_calls = record { is_done = is_done; sums = sums; singles = singles }
