-- `command_calc_crc::absorbed` meets its contract: the held bytes that are left give the whole register. Assumes nothing.
use borrow.Author.Rules.{rules}
use mathlib.Core.Path.{ap, ◌∙◌}
use Prim.Native.Nat.{ℕ, ◌+◌}
use lib.ListN.{drop}
use Rattle.crc.specs.Checksum.{absorbed_all}
use Rattle.state.specs.View.{held_from}
use Rattle.command_calc_crc.proofs.AbsorbLaws.{absorb_turn, all_absorbed}
use Rattle.command_calc_crc.proofs.absorbed.Goals as goal

pub loop-i-preserved : goal.loop-i-preserved
loop-i-preserved c =
    let a = c.args in
    ap (λ (n : ℕ). absorbed_all a.mode n (drop (c.loop-i.i + 1) (held_from a.slots.now a.position a.count))) c.absorb-next.ensures
    ∙ absorb_turn a.mode c.loop-i.next a.slots.now a.position a.count c.loop-i.i (search rules)
    ∙ c.loop-i.invariant

pub returns : goal.returns
returns c =
    let a = c.args in
    all_absorbed a.mode c.loop-i.next a.slots.now a.position a.count c.loop-i.i (search rules) (search rules) ∙ c.loop-i.invariant
