-- Laws of the keys that are loaded: a key that is stored, one that is judged, the addresses that are accepted, and the steps.
-- Assumes nothing.
use Prim.Native.Nat.{ℕ, ◌<◌, ◌≤◌, min}
use native.Mathlib.Omega.{arith}
use mathlib.Core.Path.{◌≡◌, refl, sym, ap, ◌∙◌}
use mathlib.Core.Bool.{Bool, true, false, not, ◌||◌, or-true, or-false}
use mathlib.Core.List.{List}
use lib.ListN.{length, take, set, length-set}
use borrow.Author.Tests.{lt-ltb, le-ltb}
use Rattle.key.specs.Key.{format_holds, judged_key}
use Rattle.machine.specs.State.{Machine, LoadKeyE2, LoadKey, with_key}
use Rattle.machine.specs.Memory.{address_of, bytes_from}
use Rattle.machine.specs.Commands.{with_key_err, ended, argument, taken, key_judged, key_from, stepped_as}
use Rattle.state.specs.View as state
use Rattle.state.specs.View.{at, held_count, held_from, view_of, is_set}
use Rattle.state.specs.declared.Chip.{Chip}
use Rattle.state.specs.Formed.{is_flag}
use Rattle.state.specs.Turns.{Turns, Holds}
use Rattle.state.proofs.RingLaws.{count_length}
use Rattle.state.proofs.StoreLaws.{at_set, stored, keeps_byte}
use Rattle.state.proofs.TurnLaws.{sized_state, sized_key}
use Rattle.command_load_key.specs.Emptied.{key_emptied}
use Rattle.command_arguments.proofs.ArgumentLaws.{all_held}
use Rattle.command_arguments.proofs.HeldLaws.{held_first}

-- The bytes of a key, and whether one is loaded.
pub key_stored : (old : Chip) (made : List ℕ) (x : ℕ) → is_flag x ≡ true → length made ≡ 6 →
    Turns (with_key (record { loaded = is_set x; bytes = made })) old (state.with_state (set old.state 2 x) (state.with_key made old))
unfolding view_of
key_stored old made x flag size sizes =
    let l = set old.state 2 x in
    stored (state.with_state l (state.with_key made old)) refl refl (at_set old.state 2 x (omega (arith, sizes.state_count))) (with_key (record { loaded = is_set x; bytes = made })) old
    (sized_state (sized_key sizes made size) l (length-set old.state 2 x ∙ sizes.state_count)) refl (keeps_byte old 2 x refl (λ bytes. flag))

-- A key judged by a test, from these bytes.
abbrev judged_by : Machine → Bool → List ℕ → Machine
judged_by m t made = with_key (record { loaded = t; bytes = made }) (with_key_err (m.status.errors.key_err || not t) m)

module _ (m : Machine) (bytes : List ℕ) where
  -- Bytes in the stored form give their key and leave KeyErr as it was.
  pub judged_loaded : (made : List ℕ) → format_holds bytes ≡ true → made ≡ judged_key bytes → with_key (record { loaded = true; bytes = made }) m ≡ key_judged bytes m
  judged_loaded made e is =
      ap (λ (b : Bool). with_key (record { loaded = true; bytes = made }) (with_key_err b m)) (sym (or-false m.status.errors.key_err))
      ∙ ap (λ (t : Bool). judged_by m t made) (sym e) ∙ ap (judged_by m (format_holds bytes)) is

  -- Other bytes give KeyErr and no key.
  pub judged_empty : format_holds bytes ≡ false → key_emptied m ≡ key_judged bytes m
  judged_empty e = simp (e, or-true)

-- LoadKeyE2, by its address.
module _ (address : ℕ) (m : Machine) where
  pub key_above : 0x1F4 < address → key_emptied m ≡ key_from address m
  key_above h = simp (lt-ltb 0x1F4 address h)

  pub key_inside : address ≤ 0x1F4 → key_judged (bytes_from m.eeprom address 12) m ≡ key_from address m
  key_inside h = simp (le-ltb 0x1F4 address h)

  pub key_read : {bytes : List ℕ} → bytes ≡ bytes_from m.eeprom address 12 → address ≤ 0x1F4 → key_judged bytes m ≡ key_from address m
  key_read is h = ap (λ (bs : List ℕ). key_judged bs m) is ∙ key_inside h

-- The steps on a machine that holds k bytes, which are enough.
module _ (m : Machine) {k : ℕ} (held : k ≡ length m.held) where
  pub step_from : 2 ≤ k → (from : ℕ) → from ≡ address_of (argument 0 m) (argument 1 m) → ended (key_from from (taken 2 m)) ≡ stepped_as LoadKeyE2 m
  step_from all from is = ap (λ (a : ℕ). ended (key_from a (taken 2 m))) is ∙ all_held 2 m m (ended (key_from (address_of (argument 0 m) (argument 1 m)) (taken 2 m))) held all

  pub step_held : 12 ≤ k → (bytes : List ℕ) → bytes ≡ take 12 m.held → ended (key_judged bytes (taken 12 m)) ≡ stepped_as LoadKey m
  step_held all bytes is = ap (λ (l : List ℕ). ended (key_judged l (taken 12 m))) is ∙ all_held 12 m m (ended (key_judged (take 12 m.held) (taken 12 m))) held all

-- LoadKey's step on a chip that holds as many, of which the first twelve are copied.
pub step_copied : (old : Chip) {k : ℕ} → Holds old.state k → 12 ≤ k → {bytes : List ℕ} → bytes ≡ held_from old.slots (at old.state 13) 12 →
    ended (key_judged bytes (taken 12 (state.view old))) ≡ stepped_as LoadKey (state.view old)
unfolding view_of
step_copied old p enough {bytes} copied =
    let read = at old.state 13 in
    let count = held_count read (at old.state 14) in
    let twelve : 12 ≡ min count 12 = omega (arith, p.counted) in
    step_held (state.view old) (count_length p old.slots) enough bytes (copied ∙ ap (held_from old.slots read) twelve ∙ sym (held_first old.slots read count 12))
