-- The number that stands for what the call for the sum of lost bytes answers (manual 9.9).
-- Assumes nothing.
use Rattle.std.specs.Prelude.{ℕ, Result, Ok, Err}
use Rattle.state.specs.Answers.{refusal_number}
use Rattle.state.specs.LostSum.{coded_sum}
use Rattle.state.specs.declared.answers.Refusal.{Refusal}

abbrev pub sum_number : Result ℕ Refusal → ℕ
sum_number (Ok sum) = coded_sum sum
sum_number (Err refusal) = refusal_number refusal
