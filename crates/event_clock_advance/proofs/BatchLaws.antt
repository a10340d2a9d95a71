-- Laws of a programming in the arrays: the bytes that it stores, its end, and its count of clocks.
-- Assumes nothing.
use Prim.Native.Nat.{ℕ, zero, suc, ◌+◌, ◌%◌, ◌<◌, ◌≤◌}
use native.Mathlib.Omega.{arith}
use mathlib.Core.Path.{◌≡◌, refl, sym, ap, ◌∙◌}
use mathlib.Core.Bool.{Bool, true, false, true≢false, ◌&&◌, ◌||◌}
use mathlib.Core.List.{List, [], ◌∷◌, ◌++◌}
use lib.Dec.{ltb, leb, eqb}
use lib.ListN.{length, get_or, set, take, length-set}
use lib.Seq.{take-suc, length-take-le}
use borrow.Author.Tests.{eq-eqb, ne_eqb, lt-ltb, leb-true}
use Rattle.machine.specs.State.{Machine, Command, WriteE2, ready, programming, while_programming, with_command}
use Rattle.machine.specs.State as machine
use Rattle.machine.specs.Memory.{stored_from}
use Rattle.machine.specs.Commands.{programs, raised_tx, write_stepped}
use Rattle.machine.specs.Events.{batch_stored, programmed}
use Rattle.machine.proofs.WellFormed.Parts.{both, each}
use Rattle.machine.proofs.Settling.{settled_writes}
use Rattle.state.specs.View.{Core, at, batch_start, command_of, core, core_by, view, view_of, with_clocks, with_state, with_eeprom}
use Rattle.state.specs.Formed.{listed, writes, batch_fits, agree, fields_formed}
use Rattle.state.specs.Turns.{Sizes, Turned, Turns}
use Rattle.state.specs.declared.Chip.{Chip}
use Rattle.state.proofs.StageLaws.{by_stage}
use Rattle.state.proofs.StoreLaws.{put, at_set, at_set_two, stored, stage_agrees, next_near, others_agree}
use Rattle.state.proofs.TurnLaws.{sized_clocks, sized_state, sized_eeprom}
use Rattle.event_clock_advance.specs.Clock.{stored_wrapped, programming_left}

-- The next byte behind those stored.
store_next : (bs eeprom : List ℕ) (a b : ℕ) → stored_from eeprom a (bs ++ b ∷ []) ≡ set (stored_from eeprom a bs) (a + length bs) b
unfolding stored_from
store_next [] eeprom a b = let none : a ≡ a + 0 = omega arith in ap (λ (n : ℕ). set eeprom n b) none
store_next (x ∷ bs) eeprom a b =
    let on : a + 1 + length bs ≡ a + suc (length bs) = omega arith in
    store_next bs (set eeprom a x) (a + 1) b ∙ ap (λ (n : ℕ). set (stored_from (set eeprom a x) (a + 1) bs) n b) on

store_turn : (eeprom latch now : List ℕ) (a i : ℕ) → length latch ≡ 16 → i < 16 → a + i < 512 → now ≡ stored_from eeprom a (take i latch) →
    set now ((a + i) % 512) (get_or latch (i % 16) 0) ≡ stored_from eeprom a (take (suc i) latch)
store_turn eeprom latch now a i size small inside is =
    let to : (a + i) % 512 ≡ a + i = omega arith in
    let from : i % 16 ≡ i = omega arith in
    let so_far : a + i ≡ a + length (take i latch) = ap (λ (n : ℕ). a + n) (sym (length-take-le i latch (omega arith))) in
    ap (λ (n : ℕ). set now n (get_or latch (i % 16) 0)) (to ∙ so_far)
    ∙ ap (λ (n : ℕ). set now (a + length (take i latch)) (get_or latch n 0)) from
    ∙ ap (λ (l : List ℕ). set l (a + length (take i latch)) (get_or latch i 0)) is
    ∙ sym (store_next (take i latch) eeprom a (get_or latch i 0))
    ∙ ap (stored_from eeprom a) (sym (take-suc latch i 0 (omega arith)))

-- Inside both arrays no place is changed by its remainder; and the EEPROM keeps its length.
pub wrapped_fits : (eeprom latch : List ℕ) (a n : ℕ) → length latch ≡ 16 → n ≤ 16 → a + n ≤ 512 → stored_wrapped eeprom latch a n ≡ stored_from eeprom a (take n latch)
unfolding stored_wrapped stored_from
wrapped_fits eeprom latch a zero size few inside = refl
wrapped_fits eeprom latch a (suc n) size few inside =
    store_turn eeprom latch (stored_wrapped eeprom latch a n) a n size (omega arith) (omega arith) (wrapped_fits eeprom latch a n size (omega arith) (omega arith))

pub wrapped_whole : (eeprom latch : List ℕ) (a n : ℕ) → length (stored_wrapped eeprom latch a n) ≡ length eeprom
unfolding stored_wrapped
wrapped_whole eeprom latch a zero = refl
wrapped_whole eeprom latch a (suc n) = length-set (stored_wrapped eeprom latch a n) ((a + n) % 512) (get_or latch (n % 16) 0) ∙ wrapped_whole eeprom latch a n

-- A batch that fits: 1 to 16 bytes, which end no further than the EEPROM, and end where the next byte goes.
module _ (next latched : ℕ) (fits : batch_fits next latched ≡ true) (near : next < 0x200) where
  few_latched : (1 ≤ latched) × (latched ≤ 16)
  few_latched =
      let (some, h₁) = each (leb 1 latched) _ fits in
      let (few, h₂) = each (leb latched 16) _ h₁ in
      (leb-true 1 latched some, leb-true latched 16 few)

  pub batch_few : latched ≤ 16
  batch_few = few_latched.1

  pub batch_inside : batch_start next latched + latched ≤ 512
  batch_inside =
      let (some, h₁) = each (leb 1 latched) _ fits in
      let (few, h₂) = each (leb latched 16) _ h₁ in
      let (inside, from) = each (leb (batch_start next latched % 16 + latched) 16) _ h₂ in
      omega (arith, leb-true (batch_start next latched % 16 + latched) 16 inside)

  pub batch_next : (latch : List ℕ) → length latch ≡ 16 → next % 0x200 ≡ (batch_start next latched + length (take latched latch)) % 0x200
  batch_next latch size = omega (arith, few_latched, length-take-le latched latch (omega (arith, few_latched)))

-- A programming ends, by whether a byte is held.
module _ (a : ℕ) (bs : List ℕ) (m : Machine) where
  pub end_waits : length m.held ≡ 0 → raised_tx (batch_stored a bs m) ≡ programmed a bs m
  end_waits none = rw (eq-eqb (length m.held) 0 none) refl

  pub end_latches : (length m.held ≡ 0 → ⊥) → write_stepped (ready ((a + length bs) % 0x200)) (batch_stored a bs m) ≡ programmed a bs m
  end_latches some = rw (ne_eqb (length m.held) 0 some) (settled_writes (batch_stored a bs m) ((a + length bs) % 0x200) refl)

-- Its bytes are stored: no clocks are left, none is latched, and WriteE2 has its address.
module _ (old : Chip) where
  abbrev pub from : ℕ
  from = batch_start (core old).next (core old).latched

  abbrev pub bytes : List ℕ
  bytes = take (core old).latched old.latch

  pub batch_turns : (eeprom : List ℕ) → batch_fits (core old).next (core old).latched ≡ true → (core old).next < 0x200 → eeprom ≡ stored_from old.eeprom from bytes → length eeprom ≡ 512 →
      Turns (batch_stored from bytes) old (with_clocks (set old.clocks 1 0) (with_state (set (set old.state 10 0) 12 0x41) (with_eeprom eeprom old)))
  unfolding view_of
  batch_turns eeprom fits near is size sizes =
      let clocks = set old.clocks 1 0 in
      let written = set (set old.state 10 0) 12 0x41 in
      stored (with_clocks clocks (with_state written (with_eeprom eeprom old)))
      (at_set old.clocks 1 0 (omega (arith, sizes.clock_count))) refl (at_set_two old.state 10 0 12 0x41 (omega (arith, sizes.state_count)) (omega (arith, sizes.state_count)))
      (batch_stored from bytes) old
      (sized_clocks (sized_state (sized_eeprom sizes eeprom size) written (length-set (set old.state 10 0) 12 0x41 ∙ length-set old.state 10 0 ∙ sizes.state_count)) clocks (length-set old.clocks 1 0 ∙ sizes.clock_count))
      (ap (λ (n : ℕ). with_command (WriteE2 (ready n)) (machine.with_eeprom eeprom (view old))) (batch_next (core old).next (core old).latched fits near old.latch sizes.latch_count)
      ∙ ap (λ (es : List ℕ). with_command (WriteE2 (ready ((from + length bytes) % 0x200))) (machine.with_eeprom es (view old))) is)
      (λ formed. both (next_near old formed) (others_agree old formed))

-- Clocks are left exactly where WriteE2 programs a batch that fits.
pub programs_here : (c : Chip) → fields_formed c ≡ true → ((core c).left ≡ 0 → ⊥) → (writes (core c).stage ≡ true) × (batch_fits (core c).next (core c).latched ≡ true)
programs_here c formed some =
    let k = core c in
    let (is, rest) = each (listed k.stage) _ (stage_agrees c formed) in
    let (agrees, near) = each (agree (ltb 0 k.left) (writes k.stage && batch_fits k.next k.latched)) _ rest in
    each (writes k.stage) _ (ap (λ (t : Bool). agree t (writes k.stage && batch_fits k.next k.latched)) (sym (lt-ltb 0 k.left (omega (arith, some)))) ∙ agrees)

module _ (k : Core) (latch : List ℕ) where
  -- The command that programs.
  pub is_programming : writes k.stage ≡ true → (k.left ≡ 0 → ⊥) → command_of k latch ≡ WriteE2 (programming (batch_start k.next k.latched) (take k.latched latch) k.left)
  is_programming is some = go (eqb k.stage 0x01) (eqb k.stage 0x41) refl refl is
    where
      go : (s t : Bool) → eqb k.stage 0x01 ≡ s → eqb k.stage 0x41 ≡ t → (s || t) ≡ true →
          command_of k latch ≡ WriteE2 (programming (batch_start k.next k.latched) (take k.latched latch) k.left)
      go true t first second Either-is = rw (first, ne_eqb k.left 0 some) refl
      go false true first second Either-is = rw (first, second, ne_eqb k.left 0 some) refl
      go false false first second Either-is = absurd (true≢false (sym Either-is))

  -- With no clocks left nothing is programmed.
  pub is_idle : k.left ≡ 0 → programs (command_of k latch) ≡ false
  is_idle none =
      by_stage (λ s c. programs c ≡ false) k latch (rw (eq-eqb k.left 0 none) refl) (rw (eq-eqb k.left 0 none) refl) refl refl refl refl refl refl refl refl refl (λ o. refl)

-- A programming goes on with so many clocks left.
pub left_turns : (c : Chip) (n : ℕ) → Sizes c → fields_formed c ≡ true → ((core c).left ≡ 0 → ⊥) → 1 ≤ n → Turned (programming_left n) c (with_clocks (set c.clocks 1 n) c)
unfolding view_of
left_turns c n sizes formed some more =
    let k = core c in
    let (writing, fits) = programs_here c formed some in
    let next = with_clocks (set c.clocks 1 n) c in
    let counted = core_by (put 1 n (at c.clocks)) (at c.numbers) (at c.state) in
    stored next (at_set c.clocks 1 n (omega (arith, sizes.clock_count))) refl refl (programming_left n) c
    (sized_clocks sizes (set c.clocks 1 n) (length-set c.clocks 1 n ∙ sizes.clock_count))
    (ap (λ (d : Command). with_command d (view c)) (is_programming counted c.latch writing (omega arith))
    ∙ sym (ap (λ (d : Command). while_programming (λ a bs left. with_command (WriteE2 (programming a bs n)) (view c)) (view c) d) (is_programming k c.latch writing some)))
    (λ h. both (both (each (listed k.stage) _ (stage_agrees c h)).0
    (both (ap (λ (t : Bool). agree t (writes k.stage && batch_fits k.next k.latched)) (lt-ltb 0 n (omega arith)) ∙ both writing fits) (next_near c h))) (others_agree c h))
