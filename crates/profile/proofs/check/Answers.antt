-- `profile::check` meets its contract: a bit that holds and a register that passes are left behind, and the first refusal ends both loops. Assumes nothing.
use Rattle.std.proofs.Common.{◌≡◌, ◌-◌, refl, sym, ap, ◌∙◌, arith}
use Rattle.edition.specs.Edition.{fixed_bits}
use Rattle.profile.specs.Answer.{Answer, pass, refuse_bit, or_else, answer_of}
use Rattle.profile.specs.Check.{bit_judged, fixed_bits_judged, value_judged, register_judged}
use Rattle.profile.proofs.Laws.{none_left, passes, stops, taken_passes, taken_fails}
use Rattle.profile.proofs.check.Goals as goal

pub loop-bit-preserved : goal.loop-bit-preserved
loop-bit-preserved c =
    let a = c.args in
    passes (bit_judged (fixed_bits a.edition) a.profile.now c.registers.register) (omega arith) refl
    (simp (sym c.fixed_bits-fixed.ensures, sym c.differs.ensures ∙ c.if-differs.false))
    ∙ c.loop-bit.invariant

pub returns-then-differs : goal.returns-then-differs
returns-then-differs c =
    let profile = c.args.profile.now in
    let table = fixed_bits c.args.edition in
    let register = c.registers.register in
    let bit = c.loop-bit.bit in
    let is : refuse_bit 10 register bit ≡ fixed_bits_judged table profile register =
    sym
    (stops (bit_judged table profile register) (8 - bit) bit _ (omega arith)
    (simp (sym c.fixed_bits-fixed.ensures, sym c.differs.ensures ∙ c.if-differs.true))
    refl)
    ∙ c.loop-bit.invariant in
    sym (stops (register_judged table profile) (0x30 - register) register _ (omega arith) (ap (λ (x : Answer). or_else x (value_judged profile register)) (sym is)) refl)
    ∙ c.registers.invariant.1

pub registers-preserved : goal.registers-preserved
registers-preserved c =
    let profile = c.args.profile.now in
    let table = fixed_bits c.args.edition in
    let register = c.registers.register in
    let bits : pass ≡ fixed_bits_judged table profile register = sym (none_left (bit_judged table profile register) (8 - c.loop-bit.bit) c.loop-bit.bit (omega arith)) ∙ c.loop-bit.invariant in
    let value = taken_passes c.value_verdict-verdict.result (sym c.is_err.ensures.value ∙ c.if-is_err.false) in (
      value,
      passes (register_judged table profile) (omega arith) refl (λ i. or_else (sym bits i) ((sym c.value_verdict-verdict.ensures ∙ value) i)) ∙ c.registers.invariant.1,
    )

pub returns-then-is_err : goal.returns-then-is_err
returns-then-is_err c =
    let profile = c.args.profile.now in
    let table = fixed_bits c.args.edition in
    let register = c.registers.register in
    let bits : pass ≡ fixed_bits_judged table profile register = sym (none_left (bit_judged table profile register) (8 - c.loop-bit.bit) c.loop-bit.bit (omega arith)) ∙ c.loop-bit.invariant in
    let r = c.value_verdict-verdict.result in
    sym
    (stops (register_judged table profile) (0x30 - register) register (answer_of r) (omega arith)
    (λ i. or_else (sym bits i) (sym c.value_verdict-verdict.ensures i))
    (taken_fails r (sym c.is_err.ensures.value ∙ c.if-is_err.true)))
    ∙ c.registers.invariant.1

pub returns-after-registers : goal.returns-after-registers
returns-after-registers c =
    let a = c.args in
    c.registers.invariant.0
    ∙ (sym (none_left (register_judged (fixed_bits a.edition) a.profile.now) (0x30 - c.registers.register) c.registers.register (omega arith)) ∙ c.registers.invariant.1)
