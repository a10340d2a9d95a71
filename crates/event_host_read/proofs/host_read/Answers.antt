-- `event_host_read::host_read` meets its contract, by the refusals in their order, and by the register. Assumes nothing.
use borrow.Author.Tests.{lt-ltb}
use Prim.Native.Nat.{◌<◌}
use native.Mathlib.Omega.{arith}
use mathlib.Core.Path.{◌≡◌, sym, ap, ◌∙◌}
use mathlib.Core.Bool.{Bool, true}
use Rattle.machine.specs.Refusals.{host_read, refuse_if}
use Rattle.machine.specs.Registers.{register_read}
use Rattle.state.specs.View.{view, view_of}
use Rattle.state.specs.Formed.{chip_formed}
use Rattle.state.specs.Meets.{Whole}
use Rattle.state.proofs.MeetLaws.{refused, malformed, read_refusal}
use Rattle.event_host_read.proofs.ReadLaws.{read_as, Passes, read_removes, read_leaves}
use Rattle.event_host_read.proofs.host_read.Goals as goal
use Rattle.event_host_read.proofs.host_read.Goals.{After-mapped-register}

-- What is known once the register is.
passes :
    (found : After-mapped-register) → let old = found.args.chip.now in
    found.args.address < 64 → chip_formed old ≡ true → Whole old → Passes old found.args.address found.mapped-register.result
unfolding view_of
passes found low formed whole = record { formed = formed; whole = whole; low = low; is = found.mapped-register.ensures }

pub returns-then-not-well_formed-clause-turns : goal.returns-then-not-well_formed-clause-turns
returns-then-not-well_formed-clause-turns c whole = malformed c.args.chip.now (host_read _) tt (sym (c.well_formed-2.ensures whole.sizes) ∙ c.if-not-well_formed.true) whole

pub returns-then-address-ge64-clause-turns : goal.returns-then-address-ge64-clause-turns
returns-then-address-ge64-clause-turns c whole =
    let old = c.args.chip.now in
    let address = c.args.address in
    refused old (host_read _) 0 (read_refusal old (sym (c.well_formed-2.ensures whole.sizes) ∙ c.if-not-well_formed.false) address 1 (ap (λ (t : Bool). refuse_if t 1 0) (lt-ltb 63 address (omega (arith, c.if-address-ge64.true))))).0 whole

pub returns-then-register-eq3-clause-turns : goal.returns-then-register-eq3-clause-turns
unfolding view_of register_read
returns-then-register-eq3-clause-turns c whole =
    let passed = passes (goal.at.returns-then-register-eq3-clause-turns c).After-mapped-register (omega (arith, c.if-address-ge64.false)) (sym (c.well_formed-2.ensures whole.sizes) ∙ c.if-not-well_formed.false) whole in
    read_leaves passed _ (λ e. omega (arith, e, c.if-register-eq3.true))
    (read_as _ 0x03 _ (view c.args.chip.now) c.if-register-eq3.true (c.primary_status.ensures passed.formed))

pub returns-then-register-eq2-clause-turns : goal.returns-then-register-eq2-clause-turns
returns-then-register-eq2-clause-turns c whole =
    let passed = passes (goal.at.returns-then-register-eq2-clause-turns c).After-mapped-register (omega (arith, c.if-address-ge64.false)) (sym (c.well_formed-2.ensures whole.sizes) ∙ c.if-not-well_formed.false) whole in
    read_removes passed c.fifo_read.new.chip _ c.if-register-eq2.true c.fifo_read.ensures.reads (c.fifo_read.ensures.turns whole.sizes)

pub returns-clause-turns : goal.returns-clause-turns
returns-clause-turns c whole =
    let passed = passes (goal.at.returns-clause-turns c).After-mapped-register (omega (arith, c.if-address-ge64.false)) (sym (c.well_formed-2.ensures whole.sizes) ∙ c.if-not-well_formed.false) whole in
    read_leaves passed _ c.if-register-eq2.false (c.read.ensures c.if-register-eq2.false c.if-register-eq3.false passed.formed)
