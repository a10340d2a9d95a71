-- Bytes laid over the registers one after the other, and the bytes of the EEPROM that are taken for it.
-- Assumes nothing.
use Prim.Native.Nat.{ℕ, zero, suc, ◌+◌, ◌%◌, ◌<◌, ◌≤◌}
use native.Mathlib.Nat.{zero-add}
use native.Mathlib.Numerals.{add-one}
use native.Mathlib.Omega.{arith}
use mathlib.Core.Path.{◌≡◌, refl, sym, ap, ◌∙◌}
use mathlib.Core.Bool.{Bool, cond}
use mathlib.Core.List.{List, [], ◌∷◌, ◌++◌}
use lib.Dec.{eqb}
use lib.ListN.{length, get_or, drop, set, length-append, length-drop}
use lib.Seq.{take-suc, get_or-drop}
use Rattle.machine.specs.Memory.{bytes_from, over_registers}
use Rattle.state.specs.View.{with_registers}
use Rattle.state.specs.declared.Chip.{Chip}
use Rattle.register_load.specs.Wrapped.{wrapped_from}

-- No byte is laid over the registers.
pub over_none : (p : ℕ) (rs : List ℕ) → over_registers p rs [] ≡ rs
unfolding over_registers
over_none p [] = refl
over_none p (r ∷ rs) = refl

-- One byte more: what is there stays at a Page position.
over_next : (p : ℕ) (rs bs : List ℕ) (b : ℕ) → let l = over_registers p rs bs in
    over_registers p rs (bs ++ b ∷ []) ≡ set l (length bs) (cond (eqb ((p + length bs) % 8) 0) (get_or l (length bs) 0) b)
unfolding over_registers
over_next p [] bs b = refl
over_next p (r ∷ rs) [] b =
    let here : p ≡ p + 0 = omega arith in
    ap (λ (l : List ℕ). cond (eqb (p % 8) 0) r b ∷ l) (over_none (p + 1) rs) ∙ ap (λ (k : ℕ). cond (eqb (k % 8) 0) r b ∷ rs) here
over_next p (r ∷ rs) (x ∷ bs) b =
    let on : p + 1 + length bs ≡ p + suc (length bs) = omega arith in
    let first = cond (eqb (p % 8) 0) r x in
    let l = over_registers (p + 1) rs bs in
    ap (λ (k : List ℕ). first ∷ k) (over_next (p + 1) rs bs b) ∙ ap (λ (k : ℕ). first ∷ set l (length bs) (cond (eqb (k % 8) 0) (get_or l (length bs) 0) b)) on

-- So many bytes are taken.
wrapped_length : (eeprom : List ℕ) (a n : ℕ) → length (wrapped_from eeprom a n) ≡ n
unfolding wrapped_from
wrapped_length eeprom a zero = refl
wrapped_length eeprom a (suc n) = simp (length-append, wrapped_length eeprom a n, add-one)

-- Where nothing wraps they are the bytes of the machine's definition.
pub unwrapped : (eeprom : List ℕ) (a n : ℕ) → length eeprom ≡ 0x200 → a + n ≤ 0x200 → wrapped_from eeprom a n ≡ bytes_from eeprom a n
unfolding wrapped_from
unwrapped eeprom a zero whole inside = refl
unwrapped eeprom a (suc n) whole inside =
    let here : (a + n) % 0x200 ≡ a + n = omega arith in
    let more : n < length (drop a eeprom) = simp length-drop (omega arith) in
    ap (λ (l : List ℕ). l ++ get_or eeprom ((a + n) % 0x200) 0 ∷ []) (unwrapped eeprom a n whole (omega arith))
    ∙ ap (λ (k : ℕ). bytes_from eeprom a n ++ get_or eeprom k 0 ∷ []) here
    ∙ ap (λ (b : ℕ). bytes_from eeprom a n ++ b ∷ []) (sym (get_or-drop a eeprom n 0))
    ∙ sym (take-suc (drop a eeprom) n 0 more)

-- One byte more over the registers of a chip: it is stored, or at a Page position what is there.
pub load_turn : (old : Chip) (a i : ℕ) {now : Chip} → now ≡ with_registers (over_registers 0 old.registers (wrapped_from old.eeprom a i)) old → (page : Bool) → eqb (i % 8) 0 ≡ page →
    with_registers (set now.registers i (cond page (get_or now.registers i 0) (get_or now.eeprom ((a + i) % 0x200) 0))) now
    ≡ with_registers (over_registers 0 old.registers (wrapped_from old.eeprom a (i + 1))) old
unfolding wrapped_from
load_turn old a i is page e =
    let b = get_or old.eeprom ((a + i) % 0x200) 0 in
    let bytes = wrapped_from old.eeprom a i in
    let next : set (over_registers 0 old.registers bytes) i (cond page (get_or (over_registers 0 old.registers bytes) i 0) b) ≡ over_registers 0 old.registers (wrapped_from old.eeprom a (i + 1)) =
    rw add-one (simp (← e) (simp (wrapped_length, zero-add) at (sym (over_next 0 old.registers bytes b)))) in
    ap (λ (c : Chip). with_registers (set c.registers i (cond page (get_or c.registers i 0) (get_or c.eeprom ((a + i) % 0x200) 0))) c) is
    ∙ ap (λ (l : List ℕ). with_registers l old) next
