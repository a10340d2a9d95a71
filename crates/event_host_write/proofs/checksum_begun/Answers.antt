-- `event_host_write::checksum_begun` meets its contract: its callees' turns in order, and then the stage. Assumes nothing.
use Rattle.std.proofs.Common.{◌≡◌, ap, ◌∙◌}
use Rattle.state.specs.View.{at, core}
use Rattle.state.specs.declared.Chip.{Chip}
use Rattle.state.proofs.TurnLaws.{then}
use Rattle.event_host_write.proofs.WorkLaws.{checksum_staged}
use Rattle.event_host_write.proofs.checksum_begun.Goals as goal

pub returns-clause-turns : goal.returns-clause-turns
returns-clause-turns c none sizes =
    let first = c.cleared.ensures.turns sizes in
    let second = c.checksum_started.ensures.turns first.sizes in
    let left : (core c.checksum_started.new.chip).left ≡ 0 = ap (λ (d : Chip). at d.clocks 1) (c.checksum_started.ensures.rest) ∙ (ap (λ (d : Chip). at d.clocks 1) c.cleared.ensures.rest ∙ none) in
    then (then first second) (checksum_staged c.checksum_started.new.chip left second.sizes)
