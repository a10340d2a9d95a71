-- `command_write_e2::address_taken` meets its contract, by whether two bytes are held. Assumes nothing.
use Rattle.std.proofs.Common.{refl, rules}
use Prim.Native.Nat.{◌%◌}
use native.Mathlib.Omega.{arith}
use mathlib.Core.Path.{◌≡◌, ap, ◌∙◌}
use lib.Seq.{get_or-set_same}
use Rattle.machine.specs.State.{addressing, ready}
use Rattle.machine.specs.Memory.{address_of}
use Rattle.machine.specs.Commands.{argument, write_stepped}
use Rattle.state.specs.View.{view, view_of}
use Rattle.state.specs.Parts.{clocks_numbers_state_slots}
use Rattle.state.specs.Turns.{TurnsAny}
use Rattle.state.specs.declared.Chip.{Chip}
use Rattle.state.proofs.RingLaws.{count_length}
use Rattle.state.proofs.TurnLaws.{stays, then, becomes, here, own}
use Rattle.command_arguments.proofs.ArgumentLaws.{too_few, all_held}
use Rattle.command_write_e2.proofs.WriteLaws.{after, ready_agrees, write_stored}
use Rattle.command_write_e2.proofs.address_taken.Goals as goal

pub returns-then-held-lt2 : goal.returns-then-held-lt2
unfolding view_of
returns-then-held-lt2 c =
    let old = c.args.chip.now in
    let count = count_length c.held.ensures old.slots in
    let others : TurnsAny clocks_numbers_state_slots (write_stepped addressing) old old =
    λ chip sizes.
    let lent = clocks_numbers_state_slots old chip in
    becomes (write_stepped addressing) (stays lent sizes) (too_few 2 (view lent) _ _ count c.if-held-lt2.true) in record {
      turns = others old;
      others = others;
      next = λ sizes. too_few 2 (view old) _ _ count c.if-held-lt2.true;
      rest = refl;
    }

pub returns : goal.returns
unfolding view_of
returns c =
    let old = c.args.chip.now in
    let x = c.address-next.result in
    let is = c.address-next.ensures in
    let near : x % 0x200 ≡ x = omega (arith, is) in
    let count = count_length c.held.ensures old.slots in
    let stores : Chip → Chip = λ d. after d d.latch 0 x 0 in
    let others : TurnsAny clocks_numbers_state_slots (write_stepped addressing) old (stores c.taken.new.chip) =
    λ chip sizes.
    let on : Chip → Chip = λ d. clocks_numbers_state_slots d chip in
    let m = view (on old) in
    let leaves = here (ap on c.taken.ensures.rest) (c.taken.ensures.others (on old) sizes) in
    becomes (write_stepped addressing)
    (then leaves
    (write_stored (on c.taken.new.chip) chip.latch 0 x 0 (ready (address_of (argument 0 m) (argument 1 m))) leaves.sizes leaves.sizes.latch_count (ap ready (near ∙ is)) (ready_agrees x (omega (arith, is)))))
    (all_held 2 m _ _ count c.if-held-lt2.false) in record {
      turns = λ sizes. own clocks_numbers_state_slots (ap stores c.taken.ensures.rest) refl (others old sizes);
      others = others;
      next = λ sizes.
          get_or-set_same c.taken.new.chip.numbers 1 x 0 (omega (arith, (c.taken.ensures.turns sizes).sizes.number_count)) ∙ is ∙ all_held 2 (view old) _ _ count c.if-held-lt2.false;
      rest = search rules;
    }
