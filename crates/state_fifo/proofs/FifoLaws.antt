-- Laws of the FIFO in the state: a byte taken, a byte stored, and the alerts over that.
-- Assumes nothing.
use Rattle.std.proofs.Common.{◌≡◌, ℕ, ◌+◌, ◌-◌, ◌%◌, ◌<◌, ◌≤◌, ltb, List, [], ◌∷◌, ◌++◌, length, get_or, drop, set, min, lit<, sym, refl, ap, ◌∙◌, arith, length-append, length-set, le-ltb, lt-ltb}
use lib.Bits.{bit_and}
use Rattle.machine.specs.State.{Machine, with_held, with_lost_sum}
use Rattle.machine.specs.Fifo.{first_of, rest_of, one_lost, offered, lost_at, alerted}
use Rattle.machine.proofs.Cases.{either}
use Rattle.state.specs.View.{at, view, view_of, held_count, held_of, with_numbers, with_state, with_slots, raised}
use Rattle.state.specs.Turns.{Sizes, Turned, Counts, Holds, Turns}
use Rattle.state.specs.declared.Chip.{Chip}
use Rattle.state.proofs.RingLaws.{held_at, count_length, ring_stored}
use Rattle.state.proofs.StoreLaws.{at_set, stored, keeps_byte, set_number}
use Rattle.state.proofs.TurnLaws.{sized_slots, sized_state}
use Rattle.state_fifo.specs.Alerts.{alert_bits, alerts_of}
use Rattle.state_fifo.proofs.AlertLaws.{alerted_from_lem, alerted_same}

-- What the machine does with a byte that is offered, by how many it holds.
pub offer_stored : (b : ℕ) (m : Machine) → length m.held < 64 → offered b m ≡ with_held (m.held ++ b ∷ []) m
unfolding offered
offer_stored b m room = simp (lt-ltb (length m.held) 64 room)

pub offer_lost : (b : ℕ) (m : Machine) → 64 ≤ length m.held → one_lost m ≡ offered b m
unfolding offered
offer_lost b m full = simp (le-ltb (length m.held) 64 full)

-- How many bytes that loses.
pub none_lost : (m : Machine) → length m.held < 64 → 0 ≡ lost_at m
none_lost m room = simp (lt-ltb (length m.held) 64 room)

pub one_is_lost : (m : Machine) → 64 ≤ length m.held → 1 ≡ lost_at m
one_is_lost m full = simp (le-ltb (length m.held) 64 full)

-- A byte that is lost moves no alert: it changes neither the held bytes nor the level.
pub lost_quiet : (m : Machine) → one_lost m ≡ alerted m (one_lost m)
lost_quiet m = sym (alerted_same (one_lost m)) ∙ sym (alerted_from_lem (one_lost m) (one_lost m)) ∙ alerted_from_lem m (one_lost m)

-- The first byte, and the others.
pub first_at : (l : List ℕ) → get_or l 0 0 ≡ first_of l
first_at [] = refl
first_at (x ∷ l) = refl

pub drop_one : (l : List ℕ) → drop 1 l ≡ rest_of l
drop_one [] = refl
drop_one (x ∷ l) = refl

pub length_rest : (l : List ℕ) → length (rest_of l) ≡ length l - 1
length_rest [] = refl
length_rest (x ∷ l) = omega arith

pub none_rest : (l : List ℕ) → length l ≡ 0 → rest_of l ≡ l
none_rest [] h = refl
none_rest (x ∷ l) h = absurd (omega arith)

pub none_first : (l : List ℕ) → length l ≡ 0 → 0 ≡ first_of l
none_first [] h = refl
none_first (x ∷ l) h = absurd (omega arith)

-- The first byte to leave is in the slot of the read position.
pub first_slot : {read write n : ℕ} → Counts read write n → 0 < n → (slots : List ℕ) → get_or slots (read % 64) 0 ≡ first_of (held_of read write slots)
first_slot {read} {write} p some slots =
    sym (held_at slots read (held_count read write) 0 (omega (arith, p.counted)) ∙ ap (λ (k : ℕ). get_or slots (k % 64) 0) (omega arith)) ∙ first_at (held_of read write slots)

-- A byte that is lost is counted.
pub counted : (old : Chip) → Sizes old → (next : ℕ) → next ≡ min 65_535 (at old.numbers 2 + 1) →
    Turned (λ m. with_lost_sum (min 65_535 (m.lost_sum + 1)) m) old (with_numbers (set old.numbers 2 next) old)
unfolding view_of
counted old sizes next is =
    set_number (λ m. with_lost_sum (min 65_535 (m.lost_sum + 1)) m) 2 next old (lit< tt) refl sizes (ap (λ (n : ℕ). with_lost_sum n (view old)) is)

-- A byte is stored in the slot of the write position, and this moves on.
pub stored_byte : (old : Chip) {n : ℕ} → Holds old.state n → n < 64 → (b : ℕ) →
    Turns (offered b) old (with_state (set old.state 14 ((at old.state 14 + 1) % 256)) (with_slots (set old.slots (at old.state 14 % 64) b) old))
unfolding view_of
stored_byte old p room b sizes =
    let l = old.state in
    let slots = old.slots in
    let x = (at l 14 + 1) % 256 in
    let filled = set slots (at l 14 % 64) b in
    stored (with_state (set l 14 x) (with_slots filled old)) refl refl (at_set l 14 x (omega (arith, sizes.state_count))) (offered b) old
    (sized_state (sized_slots sizes filled (length-set slots (at l 14 % 64) b ∙ sizes.slot_count)) (set l 14 x) (length-set l 14 x ∙ sizes.state_count))
    (ap (λ (h : List ℕ). with_held h (view old)) (ring_stored p slots b x room sizes.slot_count refl) ∙ sym (offer_stored b (view old) (omega (arith, count_length p slots))))
    (keeps_byte old 14 x refl (λ bytes. refl))

pub stored_registers : (b : ℕ) (m : Machine) → (offered b m).registers ≡ m.registers
unfolding offered
stored_registers b m = either (λ (x : Machine). x.registers ≡ m.registers) (ltb (length m.held) 64) _ _ refl refl

pub stored_length : (b : ℕ) (m : Machine) (n : ℕ) → n ≡ length m.held → n < 64 → n + 1 ≡ length (offered b m).held
stored_length b m n is room =
    ap (λ (k : ℕ). k + 1) is ∙ sym (length-append m.held (b ∷ [])) ∙ sym (ap (λ (x : Machine). length x.held) (offer_stored b m (omega (arith, is))))

-- The requests for the alerts over a change of the held bytes, from their count before and after it.
module _ (m m' : Machine) (n n' level a b : ℕ) (level-is : level ≡ get_or m.registers (0x29 - 0x10) 0) (level-stays : m'.registers ≡ m.registers)
    (before : n ≡ length m.held) (after : n' ≡ length m'.held) (is-a : a ≡ alert_bits n' (level % 64)) (is_b : b ≡ alert_bits n (level % 64)) where
  pub alerts_over : raised (bit_and a (255 - b)) m' ≡ alerted m m'
  alerts_over =
      ap (λ (k : ℕ). raised (bit_and k (255 - b)) m')
      (is-a ∙ ap (λ (k : ℕ). alert_bits k (level % 64)) after ∙ ap (λ (k : ℕ). alert_bits (length m'.held) (k % 64)) (level-is ∙ ap (λ (r : List ℕ). get_or r (0x29 - 0x10) 0) (sym level-stays)))
      ∙ ap (λ (k : ℕ). raised (bit_and (alerts_of m') (255 - k)) m') (is_b ∙ ap (λ (k : ℕ). alert_bits k (level % 64)) before ∙ ap (λ (k : ℕ). alert_bits (length m.held) (k % 64)) level-is)
      ∙ alerted_from_lem m m'
