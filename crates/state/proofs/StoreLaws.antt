-- Stores to elements of the arrays: what becomes of the machine, and of the fields' agreement. One law for every field and any number of stores.
-- Assumes nothing.
use Rattle.std.proofs.Common.{◌≡◌, ℕ, zero, suc, ◌<◌, Bool, true, false, cond, ◌&&◌, ◌||◌, eqb, ltb, List, length, get_or, set, refl, ap, ◌∙◌, ⊎_elim, true≢false, le_of_suc-le-suc, not-suc-le-zero, eq-or-lt_of_le, arith, length-set, get_or-set_other, get_or-set_same, eqb-true}
use borrow.Author.Tests.{eqb-false}
use Rattle.bits.proofs.Below.{all}
use Rattle.machine.specs.State.{Machine}
use Rattle.machine.proofs.WellFormed.Parts.{both, each}
use Rattle.state.specs.View.{at, core, core_by, view_of, view, with_numbers, with_state}
use Rattle.state.specs.Formed.{listed, writes, batch_fits, agree, stage_formed, modes_agree, byte_formed, bytes_formed, fields_by, fields_formed}
use Rattle.state.specs.Turns.{Sizes, Turned}
use Rattle.state.specs.declared.Chip.{Chip}
use Rattle.state.proofs.TurnLaws.{sized_numbers, sized_state}

-- Elements with one of them anew. At a known index `core_by .. (put 7 x byte)` computes to the core with `errors` anew: that is every setter.
abbrev pub put : ℕ → ℕ → (ℕ → ℕ) → ℕ → ℕ
put k x byte j = cond (eqb j k) x (byte j)

-- Every element of an array after a store.
pub at_set : (l : List ℕ) (k x : ℕ) → k < length l → at (set l k x) ≡ put k x (at l)
at_set l k x h = λ i j. at_each j i
  where
    at_each : (j : ℕ) → get_or (set l k x) j 0 ≡ put k x (at l) j
    at_each j = go (eqb j k) refl
      where
        go : (t : Bool) → eqb j k ≡ t → get_or (set l k x) j 0 ≡ cond t x (get_or l j 0)
        go true e = ap (λ (n : ℕ). get_or (set l k x) n 0) (eqb-true j k e) ∙ get_or-set_same l k x 0 h
        go false e = get_or-set_other l k j x 0 (eqb-false j k e)

-- Two stores to one array.
pub at_set_two : (l : List ℕ) (k x j y : ℕ) → k < length l → j < length l → at (set (set l k x) j y) ≡ put j y (put k x (at l))
at_set_two l k x j y h h' = at_set (set l k x) j y (omega (arith, length-set l k x)) ∙ ap (put j y) (at_set l k x h)

-- Any stores to any of the three arrays at once: the machine, and the fields' agreement, of what their elements are now. `at_set`, once for each store,
-- says what they are.
module _ (c : Chip) {clock number byte : ℕ → ℕ} (clocks : at c.clocks ≡ clock) (numbers : at c.numbers ≡ number) (bytes : at c.state ≡ byte) where
  pub view_at : view c ≡ view_of (core_by clock number byte) c
  view_at = λ i. view_of (core_by (clocks i) (numbers i) (bytes i)) c

  pub fields_at : fields_formed c ≡ fields_by (core_by clock number byte) byte
  unfolding fields_formed
  fields_at = λ i. fields_by (core_by (clocks i) (numbers i) (bytes i)) (bytes i)

  pub stored : (f : Machine → Machine) (old : Chip) → Sizes c →
      view_of (core_by clock number byte) c ≡ f (view old) → (fields_formed old ≡ true → fields_by (core_by clock number byte) byte ≡ true) → Turned f old c
  stored f old sizes is agrees = record { machine = view_at ∙ is; sizes = sizes; fields = λ h. fields_at ∙ agrees h }

-- Bytes that are formed stay so, where the new one is.
pub put_formed : (byte : ℕ → ℕ) (k x n : ℕ) → byte_formed k x ≡ true → all (λ j. byte_formed j (byte j)) n ≡ true → all (λ j. byte_formed j (put k x byte j)) n ≡ true
put_formed byte k x zero fits h = refl
put_formed byte k x (suc n) fits h =
    let (one, rest) = each (byte_formed n (byte n)) _ h in both (go (eqb n k) refl one) (put_formed byte k x n fits rest)
  where
    go : (t : Bool) → eqb n k ≡ t → byte_formed n (byte n) ≡ true → byte_formed n (cond t x (byte n)) ≡ true
    go true e p = ap (λ (m : ℕ). byte_formed m x) (eqb-true n k e) ∙ fits
    go false e p = p

-- What holds of a byte, among all.
pub own_formed : (byte : ℕ → ℕ) (n k : ℕ) → k < n → all (λ j. byte_formed j (byte j)) n ≡ true → byte_formed k (byte k) ≡ true
own_formed byte zero k h all_are = absurd (not-suc-le-zero h)
own_formed byte (suc n) k h all_are =
    let (one, rest) = each (byte_formed n (byte n)) _ all_are in
    ⊎_elim (λ e. ap (λ (m : ℕ). byte_formed m (byte m)) e ∙ one) (λ l. own_formed byte n k l rest) (eq-or-lt_of_le (le_of_suc-le-suc h))

-- The parts of the fields' agreement.
module _ (c : Chip) (formed : fields_formed c ≡ true) where
  pub stage_agrees : stage_formed (core c).stage (core c).latched (core c).left (core c).next ≡ true
  unfolding fields_formed
  stage_agrees = (each (stage_formed (core c).stage (core c).latched (core c).left (core c).next) _ formed).0

  -- what follows the clauses on the stage
  pub others_agree : (modes_agree (core c).control (core c).stand_by (core c).power_down && bytes_formed (at c.state)) ≡ true
  unfolding fields_formed
  others_agree = (each (stage_formed (core c).stage (core c).latched (core c).left (core c).next) _ formed).1

  pub modes_agree_lem : modes_agree (core c).control (core c).stand_by (core c).power_down ≡ true
  modes_agree_lem = (each (modes_agree (core c).control (core c).stand_by (core c).power_down) _ others_agree).0

  pub bytes_agree : bytes_formed (at c.state) ≡ true
  bytes_agree = (each (modes_agree (core c).control (core c).stand_by (core c).power_down) _ others_agree).1

  pub next_near : ltb (core c).next 0x200 ≡ true
  next_near = (each (agree (ltb 0 (core c).left) (writes (core c).stage && batch_fits (core c).next (core c).latched)) _ (each (listed (core c).stage) _ stage_agrees).1).1

  pub byte_agrees : (k : ℕ) → k < 12 → byte_formed k (at c.state k) ≡ true
  byte_agrees k h = own_formed (at c.state) 12 k h bytes_agree

-- A store to any byte but Control, the stage and the latched count keeps the fields' agreement, where the new byte is formed.
abbrev pub apart : ℕ → Bool
apart k = eqb 1 k || (eqb 10 k || eqb 12 k)

pub keeps_byte : (c : Chip) (k x : ℕ) → apart k ≡ false → (bytes_formed (at c.state) ≡ true → byte_formed k x ≡ true) → fields_formed c ≡ true →
    fields_by (core_by (at c.clocks) (at c.numbers) (put k x (at c.state))) (put k x (at c.state)) ≡ true
keeps_byte c k x other fits formed =
    let bytes = bytes_agree c formed in
    go (eqb 1 k) (eqb 10 k) (eqb 12 k) other (stage_agrees c formed) (modes_agree_lem c formed) (put_formed (at c.state) k x 12 (fits bytes) bytes)
  where
    go : (a b d : Bool) → (a || (b || d)) ≡ false → stage_formed (core c).stage (core c).latched (core c).left (core c).next ≡ true →
        modes_agree (core c).control (core c).stand_by (core c).power_down ≡ true → bytes_formed (put k x (at c.state)) ≡ true →
        (stage_formed (cond d x (core c).stage) (cond b x (core c).latched) (core c).left (core c).next
        && (modes_agree (cond a x (core c).control) (core c).stand_by (core c).power_down && bytes_formed (put k x (at c.state)))) ≡ true
    go false false false e p q r = both p (both q r)
    go false false true e p q r = absurd (true≢false e)
    go false true d e p q r = absurd (true≢false e)
    go true b d e p q r = absurd (true≢false e)

-- Such a store: the machine of the bytes with one anew is f's (at a known index that is `refl`, or a law of that byte alone).
pub set_byte : (f : Machine → Machine) (l : List ℕ) (k x : ℕ) (c : Chip) → k < 24 → apart k ≡ false → Sizes (with_state l c) →
    view_of (core_by (at c.clocks) (at c.numbers) (put k x (at l))) c ≡ f (view (with_state l c)) →
    (bytes_formed (at l) ≡ true → byte_formed k x ≡ true) → Turned f (with_state l c) (with_state (set l k x) c)
unfolding view_of
set_byte f l k x c h other s is fits =
    stored (with_state (set l k x) c) refl refl (at_set l k x (omega (arith, s.state_count))) f (with_state l c)
    (sized_state s (set l k x) (length-set l k x ∙ s.state_count)) is (keeps_byte (with_state l c) k x other fits)

-- A store to the CRC register or the sum of lost bytes: the fields' agreement does not speak of them.
pub set_number : (f : Machine → Machine) (k x : ℕ) (c : Chip) → k < 6 → (eqb 1 k || (eqb 4 k || eqb 5 k)) ≡ false → Sizes c →
    view_of (core_by (at c.clocks) (put k x (at c.numbers)) (at c.state)) c ≡ f (view c) → Turned f c (with_numbers (set c.numbers k x) c)
unfolding view_of fields_formed
set_number f k x c h other s is =
    stored (with_numbers (set c.numbers k x) c) refl (at_set c.numbers k x (omega (arith, s.number_count))) refl f c
    (sized_numbers s (set c.numbers k x) (length-set c.numbers k x ∙ s.number_count)) is (go (eqb 1 k) (eqb 4 k) (eqb 5 k) other)
  where
    go : (a b d : Bool) → (a || (b || d)) ≡ false → fields_formed c ≡ true →
        (stage_formed (core c).stage (core c).latched (core c).left (cond a x (core c).next)
        && (modes_agree (core c).control (cond b x (core c).stand_by) (cond d x (core c).power_down) && bytes_formed (at c.state))) ≡ true
    go false false false e p = p
    go false false true e p = absurd (true≢false e)
    go false true d e p = absurd (true≢false e)
    go true b d e p = absurd (true≢false e)
