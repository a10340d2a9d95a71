-- `event_clock_advance::programming::programmed` meets its contract, by whether a byte is held. Assumes nothing.
use Prim.Native.Nat.{ℕ, ◌<◌}
use mathlib.Core.Path.{◌≡◌, sym, ap, ◌∙◌}
use mathlib.Core.Bool.{true}
use lib.ListN.{length, set}
use borrow.Author.Tests.{ltb-true}
use Rattle.machine.specs.State.{Command, ready, while_programming}
use Rattle.machine.specs.Commands.{write_stepped}
use Rattle.machine.specs.Events.{batch_stored, programmed}
use Rattle.state.specs.View.{core, view, view_of, with_clocks, with_state, with_eeprom}
use Rattle.state.specs.Formed.{batch_fits, fields_formed}
use Rattle.state.specs.Turns.{Sizes, Turned}
use Rattle.state.specs.declared.Chip.{Chip}
use Rattle.state.proofs.RingLaws.{count_length}
use Rattle.state.proofs.StoreLaws.{next_near}
use Rattle.state.proofs.TurnLaws.{then, becomes}
use Rattle.event_clock_advance.specs.Clock.{stored_wrapped, programming_ended}
use Rattle.event_clock_advance.proofs.BatchLaws.{from, bytes, batch_few, batch_inside, batch_next, batch_turns, end_waits, end_latches, wrapped_fits, wrapped_whole, programs_here, is_programming}
use Rattle.event_clock_advance.proofs.programming.programmed.Goals as goal
use Rattle.event_clock_advance.proofs.programming.programmed.Goals.{After-store_batch}

module _ (c : After-store_batch) where
  abbrev old : Chip
  old = c.args.chip.now

  -- The bytes stored, with no clocks left, none latched, and an address for the next byte.
  abbrev next : Chip
  next = with_clocks (set old.clocks 1 0) (with_state (set (set old.state 10 0) 12 0x41) (with_eeprom c.store_batch.new.eeprom old))

  module _ (formed : fields_formed old ≡ true) where
    near : (core old).next < 0x200
    near = ltb-true (core old).next 0x200 (next_near old formed)

    stored : batch_fits (core old).next (core old).latched ≡ true → Sizes old → Turned (batch_stored (from old) (bytes old)) old next
    stored fits sizes =
        let k = core old in
        let copied = c.store_batch.ensures ∙ ap (λ (n : ℕ). stored_wrapped old.eeprom old.latch n k.latched) c.batch_start-start.ensures in
        batch_turns old c.store_batch.new.eeprom fits near
        (copied ∙ wrapped_fits old.eeprom old.latch (from old) k.latched sizes.latch_count (batch_few k.next k.latched fits near) (batch_inside k.next k.latched fits near))
        (ap length copied ∙ wrapped_whole old.eeprom old.latch (from old) k.latched ∙ sizes.eeprom_count) sizes

    -- The programming that ends is that of these bytes.
    is_ended : ((core old).left ≡ 0 → ⊥) → programming_ended (view old) ≡ programmed (from old) (bytes old) (view old)
    unfolding view_of
    is_ended some =
        let (writing, fits) = programs_here old formed some in
        ap (λ (d : Command). while_programming (λ a bs left. programmed a bs (view old)) (view old) d) (is_programming (core old) old.latch writing some)

pub returns-then-waiting-eq0-clause-turns : goal.returns-then-waiting-eq0-clause-turns
unfolding view_of
returns-then-waiting-eq0-clause-turns c some sizes formed =
    let behind = (goal.at.returns-then-waiting-eq0-clause-turns c).After-store_batch in
    let here = c.args.chip.now in
    let (writing, fits) = programs_here here formed some in
    let stores = stored behind formed fits sizes in
    let none = sym (count_length c.held-waiting.ensures here.slots) ∙ c.if-waiting-eq0.true in
    becomes programming_ended (then stores (c.requested.ensures.turns stores.sizes)) (end_waits (from here) (bytes here) (view here) none ∙ sym (is_ended behind formed some))

pub returns-clause-turns : goal.returns-clause-turns
unfolding view_of
returns-clause-turns c some sizes formed =
    let behind = (goal.at.returns-clause-turns c).After-store_batch in
    let here = c.args.chip.now in
    let k = core here in
    let m = view here in
    let (writing, fits) = programs_here here formed some in
    let stores = stored behind formed fits sizes in
    let count = count_length c.held-waiting.ensures here.slots in
    becomes programming_ended (then stores (c.bytes_latched.ensures.turns stores.sizes))
    (ap (λ (n : ℕ). write_stepped (ready n) (batch_stored (from here) (bytes here) m)) (batch_next k.next k.latched fits (near behind formed) here.latch sizes.latch_count)
    ∙ end_latches (from here) (bytes here) m (λ none. c.if-waiting-eq0.false (count ∙ none))
    ∙ sym (is_ended behind formed some))
