-- What a step of the table promises: which calls it makes on the chip, in order, and that the chip handed on is the one that they leave.
-- Assumes nothing.
use Rattle.std.specs.Prelude.{ℕ, List, [], ◌∷◌}
use Rattle.machine.specs.Refusals.{Call}
use Rattle.state.specs.Meets.{Meets}
use Rattle.state.specs.declared.Chip.{Chip}

-- The calls lead from a chip to another: each gets the chip that the one before left, and meets the events' relation, with some answer and buffer.
pub data LeadsBy : List Call → Chip → Chip → Type 0 where
  none : {c : Chip} → LeadsBy [] c c
  next : {c d e : Chip} {call : Call} {calls : List Call} {answer : ℕ} {buffer : List ℕ} → Meets c call d answer buffer → LeadsBy calls d e → LeadsBy (call ∷ calls) c e
