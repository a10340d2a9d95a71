-- `register_write::register_written` meets its contract, register by register. Assumes nothing.
use Prim.Native.Nat.{◌+◌, ◌-◌, ◌*◌, ◌%◌}
use native.Mathlib.Omega.{arith}
use mathlib.Core.Path.{refl, ap, ◌∙◌}
use lib.Dec.{lit<}
use lib.Seq.{get_or-set_other}
use Rattle.bits.specs.Bits.{bit}
use Rattle.machine.specs.State.{Interrupts, with_page, with_enables, with_requests, with_bit_framing}
use Rattle.machine.specs.Registers.{register_written}
use Rattle.state.specs.View.{at, interrupts_of, view, view_of}
use Rattle.state.specs.Parts.{clocks_numbers_state_registers}
use Rattle.state.specs.declared.Chip.{Chip}
use Rattle.state.proofs.StoreLaws.{set_byte, own_formed}
use Rattle.state.proofs.TurnLaws.{stays, here, own}
use Rattle.register_write.specs.Written.{other_written}
use Rattle.register_write.proofs.MarkLaws.{high_clear}
use Rattle.register_write.proofs.WriteLaws.{quiet_write, register_stored, write_as, known_write, page_written_lem, high_stored, high_unused, low_unused}
use Rattle.register_write.proofs.register_written.Goals as goal

pub returns-then-register-eq0-clause-others : goal.returns-then-register-eq0-clause-others
unfolding view_of
returns-then-register-eq0-clause-others c chip sizes =
    let a = c.args in
    let old = clocks_numbers_state_registers a.chip.now chip in
    let x = 128 * bit a.v 7 + a.v % 8 in
    quiet_write a.register a.v (set_byte (with_page x) old.state 0 x old (lit< tt) refl sizes refl (λ bytes. refl))
    (page_written_lem a.register a.v (view old) c.if-register-eq0.true) refl refl

pub returns-then-register-eq0-clause-turns : goal.returns-then-register-eq0-clause-turns
returns-then-register-eq0-clause-turns c sizes = returns-then-register-eq0-clause-others c c.args.chip.now sizes

pub returns-then-register-eq41-clause-others : goal.returns-then-register-eq41-clause-others
returns-then-register-eq41-clause-others c chip sizes =
    let a = c.args in
    let old = clocks_numbers_state_registers a.chip.now chip in
    known_write a.register 0x29 a.v refl c.if-register-eq41.true (here (ap (λ (d : Chip). clocks_numbers_state_registers d chip) c.level_written.ensures.rest) (c.level_written.ensures.others old sizes))

pub returns-then-register-eq41-clause-turns : goal.returns-then-register-eq41-clause-turns
returns-then-register-eq41-clause-turns c sizes = own clocks_numbers_state_registers c.level_written.ensures.rest refl (returns-then-register-eq41-clause-others c c.args.chip.now sizes)

pub returns-then-register-ge48-clause-others : goal.returns-then-register-ge48-clause-others
returns-then-register-ge48-clause-others c chip sizes =
    let a = c.args in
    let old = clocks_numbers_state_registers a.chip.now chip in
    quiet_write a.register a.v (stays old sizes) (high_unused a.register a.v (view old) c.if-register-eq0.false c.if-register-ge48.true) refl refl

pub returns-then-register-ge48-clause-turns : goal.returns-then-register-ge48-clause-turns
returns-then-register-ge48-clause-turns c sizes = returns-then-register-ge48-clause-others c c.args.chip.now sizes

pub returns-then-register-ge16-clause-others : goal.returns-then-register-ge16-clause-others
unfolding view_of
returns-then-register-ge16-clause-others c chip sizes =
    let a = c.args in
    let old = clocks_numbers_state_registers a.chip.now chip in
    quiet_write a.register a.v (register_stored (a.register - 0x10) a.v old sizes)
    (high_stored a.register a.v (view old) c.if-register-eq0.false c.if-register-ge16.true c.if-register-ge48.false) refl
    (get_or-set_other old.registers (a.register - 0x10) 0x19 a.v 0 (λ e. c.if-register-eq41.false (omega (arith, e))))

pub returns-then-register-ge16-clause-turns : goal.returns-then-register-ge16-clause-turns
returns-then-register-ge16-clause-turns c sizes = returns-then-register-ge16-clause-others c c.args.chip.now sizes

pub returns-in-6-clause-others : goal.returns-in-6-clause-others
unfolding view_of other_written register_written
returns-in-6-clause-others c chip sizes =
    let a = c.args in
    let old = clocks_numbers_state_registers a.chip.now chip in
    let l = old.state in
    let byte = c.marked_bits.result in
    quiet_write a.register a.v
    (set_byte (with_enables (interrupts_of byte)) l 4 byte old (lit< tt) refl sizes refl (λ bytes. high_clear (at l 4) byte c.marked_bits.ensures.kept (own_formed (at l) 12 4 (lit< tt) bytes)))
    (ap (λ (x : Interrupts). with_enables x (view old)) c.marked_bits.ensures.written ∙ write_as a.register 0x06 a.v (view old) c.in-6.is) refl refl

pub returns-in-6-clause-turns : goal.returns-in-6-clause-turns
returns-in-6-clause-turns c sizes = returns-in-6-clause-others c c.args.chip.now sizes

pub returns-in-7-clause-others : goal.returns-in-7-clause-others
unfolding view_of other_written register_written
returns-in-7-clause-others c chip sizes =
    let a = c.args in
    let old = clocks_numbers_state_registers a.chip.now chip in
    let l = old.state in
    let byte = c.marked_bits-in-7.result in
    quiet_write a.register a.v
    (set_byte (with_requests (interrupts_of byte)) l 6 byte old (lit< tt) refl sizes refl (λ bytes. high_clear (at l 6) byte c.marked_bits-in-7.ensures.kept (own_formed (at l) 12 6 (lit< tt) bytes)))
    (ap (λ (x : Interrupts). with_requests x (view old)) c.marked_bits-in-7.ensures.written ∙ write_as a.register 0x07 a.v (view old) c.in-7.is) refl refl

pub returns-in-7-clause-turns : goal.returns-in-7-clause-turns
returns-in-7-clause-turns c sizes = returns-in-7-clause-others c c.args.chip.now sizes

pub returns-in-9-clause-others : goal.returns-in-9-clause-others
returns-in-9-clause-others c chip sizes =
    let a = c.args in
    known_write a.register 0x09 a.v refl c.in-9.is (c.control_written.ensures.others chip sizes)

pub returns-in-9-clause-turns : goal.returns-in-9-clause-turns
returns-in-9-clause-turns c sizes = own clocks_numbers_state_registers c.control_written.ensures.rest refl (returns-in-9-clause-others c c.args.chip.now sizes)

pub returns-in-15-clause-others : goal.returns-in-15-clause-others
unfolding view_of other_written register_written
returns-in-15-clause-others c chip sizes =
    let a = c.args in
    let old = clocks_numbers_state_registers a.chip.now chip in
    quiet_write a.register a.v (set_byte (with_bit_framing a.v) old.state 16 a.v old (lit< tt) refl sizes refl (λ bytes. refl))
    (write_as a.register 0x0F a.v (view old) c.in-15.is) refl refl

pub returns-in-15-clause-turns : goal.returns-in-15-clause-turns
returns-in-15-clause-turns c sizes = returns-in-15-clause-others c c.args.chip.now sizes

pub returns-in_default-clause-others : goal.returns-in_default-clause-others
returns-in_default-clause-others c chip sizes =
    let a = c.args in
    let old = clocks_numbers_state_registers a.chip.now chip in
    let unused = low_unused a.register a.v (view old) c.if-register-eq0.false (omega arith) (omega arith) (omega arith) (omega arith) (omega arith) in
    quiet_write a.register a.v (stays old sizes) unused refl refl

pub returns-in_default-clause-turns : goal.returns-in_default-clause-turns
returns-in_default-clause-turns c sizes = returns-in_default-clause-others c c.args.chip.now sizes
