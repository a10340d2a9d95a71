-- Turns of the machine, one after the other, and the lengths of arrays.
-- Assumes nothing.
use Rattle.std.proofs.Common.{◌≡◌, ℕ, List, length, refl, sym, ap, ◌∙◌}
use Rattle.machine.specs.State.{Machine}
use Rattle.state.specs.View.{view, with_clocks, with_numbers, with_state, with_registers, with_slots, with_latch, with_key, with_eeprom}
use Rattle.state.specs.Turns.{Sizes, Turned}
use Rattle.state.specs.declared.Chip.{Chip}

-- Nothing happens.
pub stays : (c : Chip) → Sizes c → Turned (λ m. m) c c
stays c s = record { machine = refl; sizes = s; fields = λ h. h }

-- One turn after another.
pub then : {f g : Machine → Machine} {a b d : Chip} → Turned f a b → Turned g b d → Turned (λ m. g (f m)) a d
then {f} {g} first second = record { machine = second.machine ∙ ap g first.machine; sizes = second.sizes; fields = λ h. second.fields (first.fields h) }

-- A turn is also one by what gives the same of the machine before it.
pub becomes : {f : Machine → Machine} {a b : Chip} (g : Machine → Machine) → Turned f a b → f (view a) ≡ g (view a) → Turned g a b
becomes g turn e = record { machine = turn.machine ∙ e; sizes = turn.sizes; fields = turn.fields }

-- A turn to a chip is one to what that chip is known to be.
pub here : {f : Machine → Machine} {a b d : Chip} → d ≡ b → Turned f a b → Turned f a d
here {f} {a} e turn = record { machine = ap view e ∙ turn.machine; sizes = rw e turn.sizes; fields = rw e turn.fields }

-- What is promised whatever the other arrays are, put as a caller puts them: `w` is what the chip after is known to be.
pub onto : {f : Machine → Machine} {x b w : Chip} (lent : Chip → Chip → Chip) (on : Chip → Chip) → b ≡ w → lent w x ≡ on w → Turned f x (lent b x) → Turned f x (on b)
onto {x} lent on e same = here (ap on e ∙ sym (ap (λ (d : Chip). lent d x) e ∙ same))

-- And of the chip's own.
pub own : {f : Machine → Machine} {a b w : Chip} (lent : Chip → Chip → Chip) → b ≡ w → lent w a ≡ w → Turned f a (lent b a) → Turned f a b
own lent = onto lent (λ d. d)

-- A chip with an array of the same length anew.
module _ {c : Chip} (s : Sizes c) (l : List ℕ) where
  pub sized_clocks : length l ≡ 2 → Sizes (with_clocks l c)
  sized_clocks h = record { clock_count = h; number_count = s.number_count; state_count = s.state_count; register_count = s.register_count; slot_count = s.slot_count; latch_count = s.latch_count; key_count = s.key_count; eeprom_count = s.eeprom_count }

  pub sized_numbers : length l ≡ 6 → Sizes (with_numbers l c)
  sized_numbers h = record { clock_count = s.clock_count; number_count = h; state_count = s.state_count; register_count = s.register_count; slot_count = s.slot_count; latch_count = s.latch_count; key_count = s.key_count; eeprom_count = s.eeprom_count }

  pub sized_state : length l ≡ 24 → Sizes (with_state l c)
  sized_state h = record { clock_count = s.clock_count; number_count = s.number_count; state_count = h; register_count = s.register_count; slot_count = s.slot_count; latch_count = s.latch_count; key_count = s.key_count; eeprom_count = s.eeprom_count }

  pub sized_registers : length l ≡ 32 → Sizes (with_registers l c)
  sized_registers h = record { clock_count = s.clock_count; number_count = s.number_count; state_count = s.state_count; register_count = h; slot_count = s.slot_count; latch_count = s.latch_count; key_count = s.key_count; eeprom_count = s.eeprom_count }

  pub sized_slots : length l ≡ 64 → Sizes (with_slots l c)
  sized_slots h = record { clock_count = s.clock_count; number_count = s.number_count; state_count = s.state_count; register_count = s.register_count; slot_count = h; latch_count = s.latch_count; key_count = s.key_count; eeprom_count = s.eeprom_count }

  pub sized_latch : length l ≡ 16 → Sizes (with_latch l c)
  sized_latch h = record { clock_count = s.clock_count; number_count = s.number_count; state_count = s.state_count; register_count = s.register_count; slot_count = s.slot_count; latch_count = h; key_count = s.key_count; eeprom_count = s.eeprom_count }

  pub sized_key : length l ≡ 6 → Sizes (with_key l c)
  sized_key h = record { clock_count = s.clock_count; number_count = s.number_count; state_count = s.state_count; register_count = s.register_count; slot_count = s.slot_count; latch_count = s.latch_count; key_count = h; eeprom_count = s.eeprom_count }

  pub sized_eeprom : length l ≡ 512 → Sizes (with_eeprom l c)
  sized_eeprom h = record { clock_count = s.clock_count; number_count = s.number_count; state_count = s.state_count; register_count = s.register_count; slot_count = s.slot_count; latch_count = s.latch_count; key_count = s.key_count; eeprom_count = h }
