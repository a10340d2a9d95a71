-- Laws of ReadE2, which offers bytes of the EEPROM one after the other, or refuses.
-- Assumes nothing.
use Prim.Native.Nat.{ℕ, ◌+◌, ◌<◌, ◌≤◌}
use native.Mathlib.Numerals.{add-one}
use native.Mathlib.Omega.{arith}
use mathlib.Core.Path.{◌≡◌, refl, sym, ap, ◌∙◌}
use mathlib.Core.Bool.{Bool, true, false, cond, ◌||◌}
use mathlib.Core.List.{List, [], ◌∷◌, ◌++◌}
use lib.Dec.{eqb, leb, ltb}
use lib.ListN.{length, get_or, take, drop, length-drop}
use lib.Seq.{take-suc, get_or-drop}
use borrow.Author.Tests.{eqb-true, leb-true}
use Rattle.machine.specs.State.{Machine, ReadE2}
use Rattle.machine.specs.Fifo.{offered, offered_all, lost_at, lost_of}
use Rattle.machine.specs.Memory.{address_of, bytes_from}
use Rattle.machine.specs.Commands.{with_access_err, ended, argument, taken, readable, read_from, stepped_as, lost_as}
use Rattle.machine.proofs.Cases.{either}
use Rattle.state_fifo.proofs.OfferLaws.{offered_behind, lost_behind}
use Rattle.command_arguments.proofs.ArgumentLaws.{all_held}
use Rattle.command_read_e2.specs.Reading.{lost_reading}

-- The bytes from an address on, and the next one of the EEPROM.
bytes_next : (eeprom : List ℕ) (a i : ℕ) → a + i < length eeprom → bytes_from eeprom a (i + 1) ≡ bytes_from eeprom a i ++ get_or eeprom (a + i) 0 ∷ []
bytes_next eeprom a i inside =
    ap (λ (n : ℕ). take n (drop a eeprom)) (add-one i)
    ∙ take-suc (drop a eeprom) i 0 (simp length-drop (omega arith))
    ∙ ap (λ (b : ℕ). bytes_from eeprom a i ++ b ∷ []) (get_or-drop a eeprom i 0)

-- An offer leaves the EEPROM as it is.
offer_keeps : (b : ℕ) (m : Machine) → (offered b m).eeprom ≡ m.eeprom
unfolding offered
offer_keeps b m = either (λ (x : Machine). x.eeprom ≡ m.eeprom) (ltb (length m.held) 64) _ _ refl refl

pub offers_keep : (bs : List ℕ) (m : Machine) → (offered_all bs m).eeprom ≡ m.eeprom
unfolding offered_all
offers_keep [] m = refl
offers_keep (b ∷ bs) m = offers_keep bs (offered b m) ∙ offer_keeps b m

pub offer_next : (eeprom : List ℕ) (a i : ℕ) → a + i < length eeprom → (m : Machine) →
    offered (get_or eeprom (a + i) 0) (offered_all (bytes_from eeprom a i) m) ≡ offered_all (bytes_from eeprom a (i + 1)) m
offer_next eeprom a i inside m =
    offered_behind (bytes_from eeprom a i) (get_or eeprom (a + i) 0) m ∙ ap (λ (bs : List ℕ). offered_all bs m) (sym (bytes_next eeprom a i inside))

pub lost_next : (eeprom : List ℕ) (a i : ℕ) → a + i < length eeprom → (m : Machine) →
    lost_of (bytes_from eeprom a i) m + lost_at (offered_all (bytes_from eeprom a i) m) ≡ lost_of (bytes_from eeprom a (i + 1)) m
lost_next eeprom a i inside m =
    lost_behind (bytes_from eeprom a i) (get_or eeprom (a + i) 0) m ∙ ap (λ (bs : List ℕ). lost_of bs m) (sym (bytes_next eeprom a i inside))

-- What may be read lies in the EEPROM.
pub read_inside : (address count i : ℕ) → readable address count ≡ true → i < count → address + i < 512
read_inside address count i is more = go (eqb count 0) refl is
  where
    go : (t : Bool) → eqb count 0 ≡ t → (t || leb (address + count) 0x80) ≡ true → address + i < 512
    go true none h = let empty : count ≡ 0 = eqb-true count 0 none in absurd (omega arith)
    go false some h = let low : address + count ≤ 0x80 = leb-true (address + count) 0x80 h in omega arith

-- ReadE2 on its arguments, by whether every address that it wants may be read.
module _ (address count : ℕ) (m : Machine) where
  pub read_offers : readable address count ≡ true → offered_all (bytes_from m.eeprom address count) m ≡ read_from address count m
  read_offers is = simp is

  pub read_loses : readable address count ≡ true → lost_of (bytes_from m.eeprom address count) m ≡ lost_reading address count m
  read_loses is = ap (λ (t : Bool). lost_of (cond t (bytes_from m.eeprom address count) []) m) (sym is)

  pub read_refuses : readable address count ≡ false → with_access_err m ≡ read_from address count m
  read_refuses is = simp is

  pub refused_loses_none : readable address count ≡ false → 0 ≡ lost_reading address count m
  unfolding lost_of
  refused_loses_none is = ap (λ (t : Bool). lost_of (cond t (bytes_from m.eeprom address count) []) m) (sym is)

-- ReadE2's step on a machine that holds k bytes, which are enough.
pub step_read : (m : Machine) {k : ℕ} → k ≡ length m.held → 3 ≤ k → (from count : ℕ) → from ≡ address_of (argument 0 m) (argument 1 m) → count ≡ argument 2 m →
    ended (read_from from count (taken 3 m)) ≡ stepped_as ReadE2 m
step_read m held all from count is-from is-count =
    ap (λ (a : ℕ). ended (read_from a count (taken 3 m))) is-from
    ∙ ap (λ (n : ℕ). ended (read_from (address_of (argument 0 m) (argument 1 m)) n (taken 3 m))) is-count
    ∙ all_held 3 m m (ended (read_from (address_of (argument 0 m) (argument 1 m)) (argument 2 m) (taken 3 m))) held all

-- How many bytes that step loses.
pub step_loses : (m : Machine) {k : ℕ} → k ≡ length m.held → 3 ≤ k → (from count : ℕ) → from ≡ address_of (argument 0 m) (argument 1 m) → count ≡ argument 2 m →
    lost_reading from count (taken 3 m) ≡ lost_as ReadE2 m
step_loses m held all from count is-from is-count =
    ap (λ (a : ℕ). lost_reading a count (taken 3 m)) is-from
    ∙ ap (λ (n : ℕ). lost_reading (address_of (argument 0 m) (argument 1 m)) n (taken 3 m)) is-count
    ∙ all_held 3 m 0 (lost_reading (address_of (argument 0 m) (argument 1 m)) (argument 2 m) (taken 3 m)) held all
