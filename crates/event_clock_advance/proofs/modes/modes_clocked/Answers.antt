-- `event_clock_advance::modes::modes_clocked` meets its contract: both leavings by the clocks that begin while a mode has hold. Assumes nothing.
use Prim.Native.Nat.{max}
use native.Mathlib.Omega.{arith}
use mathlib.Core.Path.{◌≡◌, ap, ◌∙◌}
use mathlib.Core.Bool.{Bool, not, ◌&&◌}
use Rattle.bits.specs.Bits.{bit_set}
use Rattle.state.specs.View.{core}
use Rattle.event_clock_advance.specs.Clock.{standing}
use Rattle.event_clock_advance.proofs.StandLaws.{stands_stored}
use Rattle.event_clock_advance.proofs.ModeLaws.{standing_within}
use Rattle.event_clock_advance.proofs.modes.modes_clocked.Goals as goal
use Rattle.event_clock_advance.proofs.modes.modes_clocked.Goals.{After-control_byte}

is_most : (c : After-control_byte) → let k = core c.args.chip.now in c.max-stood.result ≡ max (standing k.stand_by c.args.by) (standing k.power_down c.args.by)
is_most c =
    let first = c.stands_for.ensures in
    let second = c.stands_for-2.ensures in
    c.max-stood.ensures ∙ (λ i. max (first i) (second i))

pub overflow_sub-result : goal.overflow_sub-result
overflow_sub-result c =
    let k = core c.args.chip.now in
    let by = c.args.by in
    omega (arith, is_most (goal.at.overflow_sub-result c).After-control_byte, standing_within k.stand_by by, standing_within k.power_down by)

pub returns-clause-turns : goal.returns-clause-turns
returns-clause-turns c sizes formed well =
    let old = c.args.chip.now in
    let k = core old in
    let is = c.control_byte.ensures in
    stands_stored old formed sizes c.args.by c.max-stood.result (is_most (goal.at.returns-clause-turns c).After-control_byte)
    c.control_byte.result c.number_after.result c.number_after-2.result well
    (record {
      stand_by_lem = is.stand_by_lem ∙ ap (λ (t : Bool). bit_set k.control 5 && not t) c.left_within.ensures;
      power_down_lem = is.power_down_lem ∙ ap (λ (t : Bool). bit_set k.control 4 && not t) c.left_within-2.ensures;
      formed = is.formed;
    })
    c.number_after.ensures c.number_after-2.ensures
