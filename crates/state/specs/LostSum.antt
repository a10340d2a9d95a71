-- The call for the sum of lost bytes (manual 9.9). It is no event: it has no answer among those of the events, and enters nothing in the journal. A chip is lent to
-- it to read, or given by value, so that it changes none.
-- Assumes nothing.
use Rattle.std.specs.Prelude.{ℕ, ◌*◌, cond}
use Rattle.state.specs.View.{view}
use Rattle.state.specs.Formed.{chip_formed}
use Rattle.state.specs.declared.Chip.{Chip}

-- What it answers: bits 7-0 are 7 where the chip is malformed, and else 0, with the sum in bits 23-8.
abbrev pub coded_sum : ℕ → ℕ
coded_sum n = 0x100 * n

unfoldable pub lost_sum_of : Chip → ℕ
lost_sum_of c = cond (chip_formed c) (coded_sum (view c).lost_sum) 7
