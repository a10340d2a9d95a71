-- `register_load::load_registers` meets its contract: the bytes before i are laid over the registers. Assumes nothing.
use Rattle.std.proofs.Common.{List, ℕ, true, false, sym, ap, ◌∙◌, eq-eqb, ne_eqb}
use lib.Seq.{set-get_or}
use Rattle.state.specs.View.{with_registers}
use Rattle.register_load.specs.Wrapped.{wrapped_from}
use Rattle.register_load.proofs.LoadLaws.{over_none, load_turn}
use Rattle.register_load.proofs.load_registers.Goals as goal
use Rattle.register_load.proofs.load_registers.Goals.{then-i-ne0, else-i-ne0}

pub loop-i-init : goal.loop-i-init
unfolding wrapped_from
loop-i-init c =
    let chip = c.args.chip.now in
    ap (λ (l : List ℕ). with_registers l chip) (sym (over_none 0 chip.registers))

pub loop-i-preserved : goal.loop-i-preserved
loop-i-preserved c =
    let i = c.loop-i.i in
    let now = c.loop-i.chip in
    let next = load_turn c.args.chip.now c.args.address i c.loop-i.invariant in
    elim c.if-i-ne0.branch [
      | then-i-ne0 w ↦ w.chip-is ∙ next false (ne_eqb _ _ w.if-i-ne0.true)
      | else-i-ne0 w ↦ w.chip-is ∙ ap (λ (l : List ℕ). with_registers l now) (sym (set-get_or now.registers i 0)) ∙ next true (eq-eqb _ _ w.if-i-ne0.false)
    ]
