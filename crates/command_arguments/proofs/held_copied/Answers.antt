-- `command_arguments::held_copied` meets its contract. Assumes nothing.
use Rattle.std.proofs.Common.{ℕ, ◌+◌, get_or, take, set, refl, ap, ◌∙◌, arith}
use Rattle.state.specs.View.{held_from}
use Rattle.command_arguments.proofs.HeldLaws.{copied_next}
use Rattle.command_arguments.proofs.held_copied.Goals as goal

pub loop-byte-init : goal.loop-byte-init
unfolding held_from
loop-byte-init c = (omega arith, refl)

pub loop-byte-preserved : goal.loop-byte-preserved
loop-byte-preserved c =
    let turn = c.loop-byte in
    let a = c.args in
    let i = turn.byte-index in (
      omega (arith, turn.invariant.0),
      ap (λ (k : ℕ). take (i + 1) (set turn.bytes i (get_or a.slots.now k 0))) turn.invariant.0 ∙ copied_next a.slots.now a.position turn.bytes i turn.invariant.1 (omega arith),
    )
