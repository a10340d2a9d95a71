-- What the call for the sum of lost bytes answers, from its contract and from demand 3.
-- Assumes nothing.
use Prim.Native.Nat.{ℕ}
use mathlib.Core.Bool.{Bool, cond}
use mathlib.Core.Path.{◌≡◌, ap, ◌∙◌}
use Rattle.state.specs.View.{view}
use Rattle.state.specs.Formed.{chip_formed}
use Rattle.state.specs.LostSum.{coded_sum, lost_sum_of}
use Rattle.state.specs.declared.Chip.{Chip}
use Rattle.journal_runs.specs.LostSum.{Asked, in_place, by_value, ProgramLostSum}
use Rattle.journal_runs.proofs.Kept.{program_demand_3, all_promised}

-- Both forms answer the same.
asked : {c : Chip} {answer : ℕ} → Asked c answer → answer ≡ lost_sum_of c
asked (in_place κs chip r promise) = promise
asked (by_value chip r promise) = promise

-- The answer, by whether the chip is well formed.
by_formed : (c : Chip) (t : Bool) → chip_formed c ≡ t → lost_sum_of c ≡ cond t (coded_sum (view c).lost_sum) 7
unfolding lost_sum_of
by_formed c t is = ap (λ (u : Bool). cond u (coded_sum (view c).lost_sum) 7) is

pub program_lost_sum : ProgramLostSum
program_lost_sum =
    record {
      promised = all_promised;
      answers =
          λ image old fresh c steps answer begins runs call.
          let kept = program_demand_3.holds image old fresh c steps begins runs in
          asked call ∙ by_formed c _ kept.formed ∙ ap coded_sum kept.conserved.lost_sum_lem;
      refuses = λ c answer call bad. asked call ∙ by_formed c _ bad;
    }
