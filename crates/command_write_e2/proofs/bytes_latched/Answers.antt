-- `command_write_e2::bytes_latched` meets its contract, by whether a byte is held and by the next address. Assumes nothing.
use Rattle.std.proofs.Common.{rules}
use Prim.Native.Nat.{◌+◌, ◌%◌, ◌≤◌}
use native.Mathlib.Omega.{arith}
use mathlib.Core.Path.{refl, ap, ◌∙◌}
use lib.ListN.{length, take, drop}
use Rattle.machine.specs.State.{ready}
use Rattle.machine.specs.Memory.{programming_clocks}
use Rattle.machine.specs.Commands.{write_stepped}
use Rattle.state.specs.View.{at, view, view_of}
use Rattle.state.specs.Parts.{clocks_numbers_state_slots_latch}
use Rattle.state.specs.declared.Chip.{Chip}
use Rattle.state.proofs.RingLaws.{count_length}
use Rattle.state.proofs.TurnLaws.{stays, then, becomes, here, own}
use Rattle.command_arguments.proofs.ArgumentLaws.{too_few}
use Rattle.command_arguments.proofs.HeldLaws.{front_length, front_taken}
use Rattle.command_write_e2.proofs.WriteLaws.{after, refused_step, batch_turns}
use Rattle.command_write_e2.proofs.bytes_latched.Goals as goal

pub returns-then-waiting-eq0-clause-others : goal.returns-then-waiting-eq0-clause-others
unfolding view_of
returns-then-waiting-eq0-clause-others c chip sizes =
    let old = clocks_numbers_state_slots_latch c.args.chip.now chip in
    becomes (write_stepped (ready (at old.numbers 1 % 0x200))) (stays old sizes)
    (too_few 1 (view old) _ _ (count_length c.held-waiting.ensures old.slots) (omega (arith, c.if-waiting-eq0.true)))

pub returns-then-waiting-eq0-clause-turns : goal.returns-then-waiting-eq0-clause-turns
returns-then-waiting-eq0-clause-turns c sizes = returns-then-waiting-eq0-clause-others c c.args.chip.now sizes

pub returns-then-next-lt16-clause-others : goal.returns-then-next-lt16-clause-others
unfolding view_of
returns-then-next-lt16-clause-others c chip sizes =
    let on : Chip → Chip = λ d. clocks_numbers_state_slots_latch d chip in
    let old = on c.args.chip.now in
    let next = at old.numbers 1 % 0x200 in
    let flags = here (ap on c.failed.ensures.rest) (c.failed.ensures.others old sizes) in
    becomes (write_stepped (ready next)) (then flags (here (ap on c.ended.ensures.rest) (c.ended.ensures.others (on c.failed.new.self) flags.sizes)))
    (refused_step next (view old) (omega (arith, count_length c.held-waiting.ensures old.slots, c.if-waiting-eq0.false)) (omega (arith, c.if-next-lt16.true)))

pub returns-then-next-lt16-clause-rest : goal.returns-then-next-lt16-clause-rest
returns-then-next-lt16-clause-rest c = search rules

pub returns-then-next-lt16-clause-turns : goal.returns-then-next-lt16-clause-turns
returns-then-next-lt16-clause-turns c sizes =
    own clocks_numbers_state_slots_latch (returns-then-next-lt16-clause-rest c) refl (returns-then-next-lt16-clause-others c c.args.chip.now sizes)

pub returns-clause-others : goal.returns-clause-others
unfolding view_of
returns-clause-others c chip sizes =
    let on : Chip → Chip = λ d. clocks_numbers_state_slots_latch d chip in
    let old = on c.args.chip.now in
    let waiting = c.held-waiting in
    let a = at old.numbers 1 % 0x200 in
    let n = c.batch-count.result in
    let few : n ≤ 16 = omega (arith, c.batch-count.ensures) in
    let latch = c.latch_bytes.new.latch in
    let latched = c.latch_bytes.ensures sizes.latch_count in
    batch_turns old latch a waiting.result n waiting.ensures c.batch-count.ensures
    (omega (arith, c.if-next-lt16.false)) (omega arith) (omega (arith, c.if-waiting-eq0.false)) sizes
    (ap length latched ∙ front_length old.slots (at old.state 13) n old.latch sizes.latch_count few)
    (ap (take n) latched ∙ front_taken old.slots (at old.state 13) n (drop n old.latch))
    (λ stored. here (ap on c.taken.ensures.rest) (c.taken.ensures.others (after old latch programming_clocks ((a + n) % 0x200) n) stored))

pub returns-clause-turns : goal.returns-clause-turns
returns-clause-turns c sizes = own clocks_numbers_state_slots_latch c.taken.ensures.rest refl (returns-clause-others c c.args.chip.now sizes)
