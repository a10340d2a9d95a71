-- `Chip::programs` meets its contract, by whether clocks are left. Assumes nothing.
use Rattle.std.proofs.Common.{sym, ◌∙◌, eq-eqb, ne_eqb}
use Rattle.state.specs.View.{core, view_of}
use Rattle.state.proofs.StageLaws.{stage_programs}
use Rattle.state.proofs.Chip.programs.Goals as goal

pub returns-then-self-eq0 : goal.returns-then-self-eq0
unfolding view_of
returns-then-self-eq0 c =
    let old = c.args.self.now in
    sym (stage_programs (core old) old.latch ∙ simp (eq-eqb _ _ c.if-self-eq0.true))

pub returns : goal.returns
unfolding view_of
returns c =
    let old = c.args.self.now in
    sym (stage_programs (core old) old.latch ∙ simp (ne_eqb _ _ c.if-self-eq0.false))
