-- `state_formed::formed` meets its contract, clause by clause. Assumes nothing.
use Prim.Native.Nat.{ℕ}
use mathlib.Core.Path.{sym, ap, ◌∙◌}
use lib.Dec.{ltb}
use Rattle.state.specs.View.{at, held_count}
use Rattle.state_clauses.proofs.ByteLaws.{joined}
use Rattle.state_formed.proofs.ClauseLaws.{clauses}
use Rattle.state_formed.proofs.formed.Goals as goal

pub returns : goal.returns
returns c sizes =
    let chip = c.args.chip.now in
    joined c.flags_formed-flags.ensures
    (joined c.bits_formed-bits.ensures
    (joined c.timer_formed-timer.ensures
    (joined c.checksum_formed-checksum.ensures
    (joined c.writing_formed-writing.ensures
    (joined
    (ap (λ (n : ℕ). ltb n c.room.result) c.held.ensures.counted ∙ ap (ltb (held_count (at chip.state 13) (at chip.state 14))) c.room.ensures)
    (joined c.modes_formed-modes.ensures c.of_own_edition-edition.ensures))))))
    ∙ sym (clauses chip sizes.latch_count)
