-- `event_host_read::registers::low` meets its contract, register by register. Assumes nothing.
use borrow.Author.Tests.{ltb-true, lt-leb, ne_eqb}
use Prim.Native.Nat.{ℕ, ◌/◌, ◌%◌}
use native.Mathlib.Omega.{arith}
use mathlib.Core.Path.{refl, ap, ◌∙◌}
use lib.Dec.{lit<}
use Rattle.machine.specs.Registers.{register_read}
use Rattle.machine.proofs.WellFormed.Parts.{each}
use Rattle.state.specs.View.{core, view, view_of}
use Rattle.state.specs.Formed.{listed}
use Rattle.state.proofs.MeetLaws.{own_fields_formed}
use Rattle.state.proofs.RingLaws.{count_length}
use Rattle.state.proofs.StoreLaws.{byte_agrees, stage_agrees}
use Rattle.event_host_read.proofs.ReadLaws.{read_as}
use Rattle.event_host_read.proofs.ShownLaws.{control_byte_lem, error_byte_lem, interrupt_byte_lem, stage_code}
use Rattle.event_host_read.proofs.registers.low.Goals as goal

pub returns-in-1 : goal.returns-in-1
unfolding view_of register_read
returns-in-1 c below eighth n02 n03 formed =
    let here = c.args.chip.now in
    read_as _ 0x01 _ (view here) c.in-1.is (stage_code (core here) here.latch (each (listed (core here).stage) _ (stage_agrees here (own_fields_formed here formed))).0)

pub returns-in-4 : goal.returns-in-4
unfolding view_of register_read
returns-in-4 c below eighth n02 n03 formed =
    let here = c.args.chip.now in
    read_as _ 0x04 _ (view here) c.in-4.is (count_length c.held.ensures here.slots)

pub returns-in-5 : goal.returns-in-5
unfolding view_of register_read
returns-in-5 c below eighth n02 n03 formed =
    let here = c.args.chip.now in
    read_as _ 0x05 _ (view here) c.in-5.is (c.secondary_status.ensures formed)

pub returns-in-6 : goal.returns-in-6
unfolding view_of register_read
returns-in-6 c below eighth n02 n03 formed =
    let here = c.args.chip.now in
    read_as _ 0x06 _ (view here) c.in-6.is (interrupt_byte_lem _ (ltb-true _ _ (byte_agrees here (own_fields_formed here formed) 4 (lit< tt))))

pub returns-in-7 : goal.returns-in-7
unfolding view_of register_read
returns-in-7 c below eighth n02 n03 formed =
    let here = c.args.chip.now in
    read_as _ 0x07 _ (view here) c.in-7.is (interrupt_byte_lem _ (ltb-true _ _ (byte_agrees here (own_fields_formed here formed) 6 (lit< tt))))

pub returns-in-9 : goal.returns-in-9
unfolding view_of register_read
returns-in-9 c below eighth n02 n03 formed =
    let here = c.args.chip.now in
    read_as _ 0x09 _ (view here) c.in-9.is (control_byte_lem (core here).control (core here).stand_by (core here).power_down (byte_agrees here (own_fields_formed here formed) 1 (lit< tt)))

pub returns-in-10 : goal.returns-in-10
unfolding view_of register_read
returns-in-10 c below eighth n02 n03 formed =
    let here = c.args.chip.now in
    let is = c.error_flag.ensures.is in
    let byte = c.error_flag.ensures.byte in
    read_as _ 0x0A _ (view here) c.in-10.is (is ∙ error_byte_lem _ (omega (arith, is, byte)) (byte_agrees here (own_fields_formed here formed) 7 (lit< tt)))

pub returns-in-12 : goal.returns-in-12
unfolding view_of register_read
returns-in-12 c below eighth n02 n03 formed =
    let here = c.args.chip.now in
    read_as _ 0x0C _ (view here) c.in-12.is refl

pub returns-in-13 : goal.returns-in-13
unfolding view_of register_read
returns-in-13 c below eighth n02 n03 formed =
    let here = c.args.chip.now in
    read_as _ 0x0D _ (view here) c.in-13.is (ap (λ (n : ℕ). n % 256) c.result.ensures)

pub returns-in-14 : goal.returns-in-14
unfolding view_of register_read
returns-in-14 c below eighth n02 n03 formed =
    let here = c.args.chip.now in
    read_as _ 0x0E _ (view here) c.in-14.is (ap (λ (n : ℕ). n / 256) c.result-in-14.ensures)

pub returns-in-15 : goal.returns-in-15
unfolding view_of register_read
returns-in-15 c below eighth n02 n03 formed =
    let here = c.args.chip.now in
    read_as _ 0x0F _ (view here) c.in-15.is refl

pub returns-in_default : goal.returns-in_default
unfolding view_of register_read
returns-in_default c below eighth n02 n03 formed =
    let (((((((((((u, n01), n04), n05), n06), n07), n09), n0a), n0c), n0d), n0e), n0f) = c.in_default.in_default-own.rest in
    let r = c.args.register in
    simp (
      ne_eqb (r % 8) 0 eighth,
      ne_eqb r 0x01 n01,
      ne_eqb r 0x02 n02,
      ne_eqb r 0x03 n03,
      ne_eqb r 0x04 n04,
      ne_eqb r 0x05 n05,
      ne_eqb r 0x06 n06,
      ne_eqb r 0x07 n07,
      ne_eqb r 0x09 n09,
      ne_eqb r 0x0A n0a,
      ne_eqb r 0x0C n0c,
      ne_eqb r 0x0D n0d,
      ne_eqb r 0x0E n0e,
      ne_eqb r 0x0F n0f,
      lt-leb 0x10 r below,
    )
