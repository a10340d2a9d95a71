-- Laws of WriteE2's steps: which held bytes are latched, where programming starts, that the fields go on agreeing, and the two steps that store.
-- Assumes nothing.
use Prim.Native.Nat.{ℕ, ◌+◌, ◌%◌, ◌<◌, ◌≤◌, min}
use native.Mathlib.Omega.{arith}
use mathlib.Core.Path.{◌≡◌, refl, sym, ap, ◌∙◌}
use mathlib.Core.Bool.{true, cond}
use mathlib.Core.List.{List}
use lib.Dec.{eqb}
use lib.ListN.{length, take, drop, set, length-set}
use borrow.Author.Tests.{le-leb, lt-ltb, le-ltb}
use Rattle.machine.specs.State.{Machine, Writing, WriteE2, ready, programming, with_command, with_held}
use Rattle.machine.specs.Memory.{room_in_block, programming_clocks}
use Rattle.machine.specs.Commands.{ended, taken, write_stepped}
use Rattle.machine.proofs.WellFormed.Parts.{both}
use Rattle.state.specs.View.{at, batch_start, held_count, held_from, held_of, view, view_of, with_clocks, with_numbers, with_state, with_latch, marked}
use Rattle.state.specs.Formed.{stage_formed}
use Rattle.state.specs.Turns.{Counts, Sizes, Turned, Turns}
use Rattle.state.specs.declared.Chip.{Chip}
use Rattle.state.proofs.RingLaws.{count_length}
use Rattle.state.proofs.StoreLaws.{at_set, at_set_two, stored, others_agree}
use Rattle.state.proofs.TurnLaws.{then, becomes, sized_clocks, sized_numbers, sized_state, sized_latch}
use Rattle.command_arguments.proofs.HeldLaws.{held_first, held_behind}

-- Programming starts so many bytes before where the next byte goes.
start : (a n : ℕ) → a < 0x200 → n ≤ 16 → batch_start ((a + n) % 0x200) n ≡ a
start a n below few = omega arith

-- The fields agree with each other: it has its address, or so many bytes are latched, from an address on and not beyond the block.
pub ready_agrees : (next : ℕ) → next < 0x200 → stage_formed 0x41 0 0 next ≡ true
ready_agrees next below = lt-ltb next 0x200 below

programming_agrees : (a n : ℕ) → 0x10 ≤ a → a < 0x200 → 1 ≤ n → n ≤ room_in_block a → stage_formed 0x41 n programming_clocks ((a + n) % 0x200) ≡ true
programming_agrees a n high below some fits =
    let from = start a n below (omega arith) in
    both
    (both (le-leb 1 n some)
    (both (le-leb n 16 (omega arith))
    (both (le-leb (batch_start ((a + n) % 0x200) n % 16 + n) 16 (omega (arith, from)))
    (le-leb 0x10 (batch_start ((a + n) % 0x200) n) (omega (arith, from))))))
    (lt-ltb ((a + n) % 0x200) 0x200 (omega arith))

-- What both steps store: the clocks left, where the next byte goes, how many bytes are latched, and the stage with an address.
module _ (old : Chip) (latch : List ℕ) (left next latched : ℕ) where
  abbrev written : List ℕ
  written = set (set old.state 10 latched) 12 0x41

  abbrev pub after : Chip
  after = with_clocks (set old.clocks 1 left) (with_numbers (set old.numbers 1 next) (with_state written (with_latch latch old)))

  pub write_stored : (w : Writing) → Sizes old → length latch ≡ 16 →
      cond (eqb left 0) (ready (next % 0x200)) (programming (batch_start next latched) (take latched latch) left) ≡ w → stage_formed 0x41 latched left next ≡ true →
      Turned (with_command (WriteE2 w)) old after
  unfolding view_of
  write_stored w sizes whole is agrees =
      stored after
      (at_set old.clocks 1 left (omega (arith, sizes.clock_count))) (at_set old.numbers 1 next (omega (arith, sizes.number_count)))
      (at_set_two old.state 10 latched 12 0x41 (omega (arith, sizes.state_count)) (omega (arith, sizes.state_count)))
      (with_command (WriteE2 w)) old
      (sized_clocks
      (sized_numbers
      (sized_state (sized_latch sizes latch whole) written (length-set (set old.state 10 latched) 12 0x41 ∙ length-set old.state 10 latched ∙ sizes.state_count))
      (set old.numbers 1 next) (length-set old.numbers 1 next ∙ sizes.number_count))
      (set old.clocks 1 left) (length-set old.clocks 1 left ∙ sizes.clock_count))
      (ap (λ (x : Writing). with_command (WriteE2 x) (view old)) is)
      (λ formed. both agrees (others_agree old formed))

-- With its address, below 010h: it may not write there.
pub refused_step : (a : ℕ) (m : Machine) → 1 ≤ length m.held → a < 0x10 → ended (marked 0x20 m) ≡ write_stepped (ready a) m
refused_step a m some low = rw (le-leb 1 (length m.held) some, lt-ltb a 0x10 low) refl

-- Else it programs the first of the k held bytes, up to the end of the block: n of them, which are in the latch.
module _ (old : Chip) (latch : List ℕ) (a k n : ℕ) (p : Counts (at old.state 13) (at old.state 14) k) (is : n ≡ min k (room_in_block a)) where
  abbrev read : ℕ
  read = at old.state 13

  abbrev count : ℕ
  count = held_count (at old.state 13) (at old.state 14)

  abbrev held : List ℕ
  held = held_of (at old.state 13) (at old.state 14) old.slots

  abbrev writing : Writing
  writing = programming a (take (room_in_block a) held) programming_clocks

  batch_is : n ≡ min count (room_in_block a)
  batch_is = is ∙ ap (λ (j : ℕ). min j (room_in_block a)) p.counted

  latched_first : take n latch ≡ held_from old.slots read n → take n latch ≡ take (room_in_block a) held
  latched_first copied = copied ∙ ap (held_from old.slots read) batch_is ∙ sym (held_first old.slots read count (room_in_block a))

  others_stay : drop n held ≡ drop (room_in_block a) held
  others_stay = ap (λ (j : ℕ). drop j held) batch_is ∙ sym (held_behind old.slots read count (room_in_block a))

  pub batch_turns : {new : Chip} → 0x10 ≤ a → a < 0x200 → 1 ≤ k → Sizes old → length latch ≡ 16 → take n latch ≡ held_from old.slots read n →
      Turns (taken n) (after old latch programming_clocks ((a + n) % 0x200) n) new → Turned (write_stepped (ready a)) old new
  unfolding view_of
  batch_turns high near some sizes whole copied leaves =
      let stores = write_stored old latch programming_clocks ((a + n) % 0x200) n writing sizes whole
      (ap (λ (x : ℕ). programming x (take n latch) programming_clocks) (start a n near (omega arith)) ∙ ap (λ (bytes : List ℕ). programming a bytes programming_clocks) (latched_first copied))
      (programming_agrees a n high near (omega arith) (omega arith)) in
      becomes (write_stepped (ready a)) (then stores (leaves stores.sizes))
      (ap (λ (bytes : List ℕ). with_held bytes (with_command (WriteE2 writing) (view old))) others_stay
      ∙ rw (le-leb 1 (length held) (omega (arith, count_length p old.slots)), le-ltb a 0x10 high) refl)
