-- `Chip::frame_waits` meets its contract: its two tests. Assumes nothing.
use Rattle.std.proofs.Common.{ℕ, Bool, not, ◌&&◌, eqb, ap, ◌∙◌}
use Rattle.machine.specs.Frames.{sending}
use Rattle.state.specs.View.{core, command_of, view_of}
use Rattle.state.proofs.RingLaws.{count_length}
use Rattle.state.proofs.StageLaws.{stage_sends}
use Rattle.state.proofs.Chip.frame_waits.Goals as goal

pub returns : goal.returns
unfolding view_of
returns c =
    let old = c.args.self.now in
    let k = core old in
    ap (λ (t : Bool). t && not (eqb c.held.result 0)) (stage_sends k old.latch)
    ∙ ap (λ (n : ℕ). sending (command_of k old.latch) && not (eqb n 0)) (count_length c.held.ensures old.slots)
