-- A step of the active command keeps machine and journal in agreement.
-- Assumes nothing.
use mathlib.Core.Path.{◌≡◌, refl, sym, ap, ◌∙◌, subst}
use mathlib.Core.Bool.{Bool, true, false, cond, ◌&&◌}
use mathlib.Core.List.{List, [], ◌∷◌, ◌++◌}
use Prim.Native.Nat.{ℕ, zero, suc, ◌+◌, ◌*◌, ◌%◌, ◌<◌, ◌≤◌, min}
use native.Mathlib.Omega.{arith}
use lib.Dec.{ltb, leb}
use lib.ListN.{length, get_or, take, drop, replicate, drop_of_length-le}
use lib.Seq.{take_all}
use borrow.Author.Tests.{ltb-true, ltb-false, leb-true, leb-false, le-leb, lt-leb}
use Rattle.key.specs.Key.{empty_key}
use Rattle.machine.specs.State.{Machine, Checksum, Command, Writing, Idle, WriteE2, ReadE2, LoadConfig, LoadKeyE2, LoadKey, CalcCRC, Transmit, Receive, TransceiveSending, TransceiveReceiving, addressing, ready, programming, with_command, with_held, with_registers, with_key}
use Rattle.machine.specs.Fifo.{one_lost, offered, offered_all}
use Rattle.machine.specs.Memory.{address_of, bytes_from, room_in_block, programming_clocks, over_registers}
use Rattle.machine.specs.Commands.{enough, argument, taken, ended, latched, readable, read_bytes, read_from, with_access_err, configured_from, key_from, key_judged, with_key_err, checksum_taken, stepped_as, stepped, settled}
use Rattle.journal.specs.Journal.{Journal, Use, address, number, key, checksum, memory, leave_all_as, uses_of, based, based_by, address_held, offers_of, offer_all, enter_step, enter_settled}
use Rattle.journal.specs.Demand.{waiting}
use Rattle.journal.proofs.Moves.{Quietly}
use Rattle.journal.proofs.Agreement.{Agrees, AgreesWith, quietly, offers_agree, uses_held, AllPlain, uses_quietly, absorbed_agrees, latched_agrees, commanded, rebased}

-- All bytes up to a count beyond the end are all bytes.
pub take_least : (r : ℕ) (h : List ℕ) → take (min r (length h)) h ≡ take r h
take_least r h = go (leb r (length h)) refl
  where
    go : (t : Bool) → leb r (length h) ≡ t → take (min r (length h)) h ≡ take r h
    go true is = let e : min r (length h) ≡ r = omega (arith, leb-true r (length h) is) in ap (λ (n : ℕ). take n h) e
    go false is =
        let l : length h ≤ r = omega (arith, leb-false r (length h) is) in
        let e : min r (length h) ≡ length h = omega arith in
        ap (λ (n : ℕ). take n h) e ∙ take_all (length h) h (omega arith) ∙ sym (take_all r h l)

drop_least : (r : ℕ) (h : List ℕ) → drop (min r (length h)) h ≡ drop r h
drop_least r h = go (leb r (length h)) refl
  where
    go : (t : Bool) → leb r (length h) ≡ t → drop (min r (length h)) h ≡ drop r h
    go true is = let e : min r (length h) ≡ r = omega (arith, leb-true r (length h) is) in ap (λ (n : ℕ). drop n h) e
    go false is =
        let l : length h ≤ r = omega (arith, leb-false r (length h) is) in
        let e : min r (length h) ≡ length h = omega arith in
        ap (λ (n : ℕ). drop n h) e ∙ drop_of_length-le h {i = length h} (omega arith) ∙ sym (drop_of_length-le h {i = r} l)

-- Offering does not look at the command.
pub offered_idle : (bs : List ℕ) (m : Machine) → offered_all bs (with_command Idle m) ≡ with_command Idle (offered_all bs m)
unfolding offered_all offered
offered_idle [] m = refl
offered_idle (b ∷ bs) m = ap (offered_all bs) (go (ltb (length m.held) 64)) ∙ offered_idle bs (offered b m)
  where
    go : (t : Bool) → cond t (with_held (m.held ++ b ∷ []) (with_command Idle m)) (one_lost (with_command Idle m)) ≡ with_command Idle (cond t (with_held (m.held ++ b ∷ []) m) (one_lost m))
    go true = refl
    go false = refl

module _ (image : List ℕ) where
  below : (n : ℕ) → n < 0x200 → n ≡ (n + 0) % 0x200
  below n h = omega arith

  -- The machine and the journal make the same test.
  by_test : (x y : Machine) (f : Bool → Journal) (t u : Bool) → u ≡ t → (t ≡ true → AgreesWith image x (f true)) → (t ≡ false → AgreesWith image y (f false)) → AgreesWith image (cond t x y) (f u)
  by_test x y f true u is p q = subst (λ (z : Bool). AgreesWith image x (f z)) (sym is) (p refl)
  by_test x y f false u is p q = subst (λ (z : Bool). AgreesWith image y (f z)) (sym is) (q refl)

  -- Argument bytes leave, and the command ends; what else it does is no matter of the journal's.
  module _ (m : Machine) (j : Journal) (a : AgreesWith image m j) where
    enough_alike : (n : ℕ) → leb n (length j.held) ≡ enough n m
    enough_alike n = ap (λ (h : List ℕ). leb n (length h)) a.same_held

    address_alike : address_held j ≡ address_of (argument 0 m) (argument 1 m)
    address_alike = ap (λ (h : List ℕ). address_of (get_or h 0 0) (get_or h 1 0)) a.same_held

    -- n plain bytes leave to a command without latched bytes, which then is Idle.
    arguments : (us : List Use) → AllPlain image us → waiting m.command ≡ [] → (f : Bool) → Agrees image (drop (length us) m.held) Idle m.checksum m.eeprom f (leave_all_as us j)
    arguments us plain none f =
        quietly image a (uses_quietly image us plain j) (uses_held image us j ∙ ap (drop (length us)) a.same_held) (sym none) tt tt

  -- ReadE2's bytes are offered, or none.
  read_agrees : (at count : ℕ) (m : Machine) (j : Journal) → AgreesWith image (with_command Idle m) j → AgreesWith image (ended (read_from at count m)) (offer_all (read_bytes m.eeprom at count) j)
  unfolding offer_all
  read_agrees at count m j a = go (readable at count)
    where
      bytes : List ℕ
      bytes = bytes_from m.eeprom at count

      go : (t : Bool) → AgreesWith image (ended (cond t (offered_all (cond t bytes []) m) (with_access_err m))) (offer_all (cond t bytes []) j)
      go true = subst (λ (n : Machine). AgreesWith image n (offer_all bytes j)) (offered_idle bytes m) (offers_agree image bytes (with_command Idle m) j a)
      go false = a

  -- LoadConfig and LoadKeyE2 move no further byte.
  config_agrees : (at : ℕ) (m : Machine) (j : Journal) → AgreesWith image (with_command Idle m) j → AgreesWith image (ended (configured_from at m)) j
  config_agrees at m j a = go (leb 0x10 at && leb at 0x60)
    where
      go : (t : Bool) → AgreesWith image (ended (cond t (with_registers (over_registers 0 m.registers (bytes_from m.eeprom at 32)) m) (with_access_err m))) j
      go true = a
      go false = a

  key_agrees : (at : ℕ) (m : Machine) (j : Journal) → ((f : Bool) → Agrees image m.held Idle m.checksum m.eeprom f j) → AgreesWith image (ended (key_from at m)) j
  key_agrees at m j a = go (ltb 0x1F4 at)
    where
      go : (t : Bool) → AgreesWith image (ended (cond t (with_key (record { loaded = false; bytes = empty_key }) (with_key_err true m)) (key_judged (bytes_from m.eeprom at 12) m))) j
      go true = a _
      go false = a _

  plain_keys : (n : ℕ) → AllPlain image (replicate n key)
  plain_keys zero = tt
  plain_keys (suc n) = (tt, plain_keys n)

  empty_length : (h : List ℕ) → leb 1 (length h) ≡ false → length h ≡ 0
  empty_length h t = omega (arith, leb-false 1 (length h) t)

  -- A WriteE2 whose address is known latches waiting bytes, or ends over them.
  latch_agrees : (s : ℕ) (m : Machine) (j : Journal) → m.command ≡ WriteE2 (ready s) → AgreesWith image m j →
      AgreesWith image (cond (enough 1 m) (latched s m) m) (leave_all_as (cond (leb 0x10 s) (replicate (min (room_in_block s) (length j.held)) memory) []) j)
  unfolding leave_all_as
  latch_agrees s m j is a =
      by_test _ _ (λ t. leave_all_as (cond (leb 0x10 s) (replicate (min (room_in_block s) (length j.held)) memory) []) j) (enough 1 m) _ refl
      (λ t. go (ltb s 0x10) refl)
      (λ t.
      let empty : length j.held ≡ 0 = ap length a.same_held ∙ empty_length m.held t in
      let none : min (room_in_block s) (length j.held) ≡ 0 = omega arith in
      subst (λ (k : ℕ). AgreesWith image m (leave_all_as (cond (leb 0x10 s) (replicate k memory) []) j)) (sym none) (nothing (leb 0x10 s)))
    where
      nothing : (u : Bool) → AgreesWith image m (leave_all_as (cond u [] []) j)
      nothing true = a
      nothing false = a

      here : Agrees image m.held (WriteE2 (ready s)) m.checksum m.eeprom m.status.errors.key_err j
      here = subst (λ (c : Command). Agrees image m.held c m.checksum m.eeprom m.status.errors.key_err j) is a

      n : ℕ
      n = min (room_in_block s) (length m.held)

      go : (t : Bool) → ltb s 0x10 ≡ t →
          AgreesWith image (cond t (ended (with_access_err m)) (with_command (WriteE2 (programming s (take (room_in_block s) m.held) programming_clocks)) (taken (room_in_block s) m)))
          (leave_all_as (cond (leb 0x10 s) (replicate (min (room_in_block s) (length j.held)) memory) []) j)
      go true low =
          subst (λ (u : Bool). AgreesWith image (ended (with_access_err m)) (leave_all_as (cond u (replicate (min (room_in_block s) (length j.held)) memory) []) j)) (sym (lt-leb 0x10 s (ltb-true s 0x10 low)))
          (commanded image here refl tt tt)
      go false high =
          let up : 0x10 ≤ s = ltb-false s 0x10 high in
          subst
          (λ (u : Bool). AgreesWith image (with_command (WriteE2 (programming s (take (room_in_block s) m.held) programming_clocks)) (taken (room_in_block s) m)) (leave_all_as (cond u (replicate (min (room_in_block s) (length j.held)) memory) []) j))
          (sym (le-leb 0x10 s up))
          (subst (λ (k : ℕ). AgreesWith image (with_command (WriteE2 (programming s (take (room_in_block s) m.held) programming_clocks)) (taken (room_in_block s) m)) (leave_all_as (replicate k memory) j))
          (ap (λ (h : List ℕ). min (room_in_block s) (length h)) (sym a.same_held))
          (subst (λ (h : List ℕ). Agrees image h (WriteE2 (programming s (take (room_in_block s) m.held) programming_clocks)) m.checksum m.eeprom m.status.errors.key_err (leave_all_as (replicate n memory) j))
          (drop_least (room_in_block s) m.held)
          (subst (λ (h : List ℕ). Agrees image (drop n m.held) (WriteE2 (programming s h programming_clocks)) m.checksum m.eeprom m.status.errors.key_err (leave_all_as (replicate n memory) j))
          (take_least (room_in_block s) m.held)
          (latched_agrees image n m.held s programming_clocks m.checksum m.eeprom m.status.errors.key_err j (omega arith) up (omega (arith, here.same_place.0)) here))))

  step : (c : Command) (m : Machine) (j : Journal) → m.command ≡ c → AgreesWith image m j →
      AgreesWith image (stepped_as c m) (offer_all (offers_of c m.eeprom j) (based_by c j (leave_all_as (uses_of c (length j.held)) j)))
  unfolding offer_all leave_all_as
  step Idle m j is a = a
  step (WriteE2 addressing) m j is a =
      by_test _ _ (λ t. cond t (based (address_held j) (leave_all_as (cond t (address ∷ address ∷ []) []) j)) (leave_all_as (cond t (address ∷ address ∷ []) []) j)) (enough 2 m) _ (enough_alike m j a 2)
      (λ t.
      rebased image (address_held j) (arguments m j a (address ∷ address ∷ []) (tt, (tt, tt)) (ap waiting is) m.status.errors.key_err) refl
      (sym (address_alike m j a) ∙ below (address_held j) (omega arith), omega arith) tt)
      (λ t. a)
  step (WriteE2 (ready s)) m j is a = latch_agrees s m j is a
  step (WriteE2 (programming s bs left)) m j is a = a
  step ReadE2 m j is a =
      by_test _ _ (λ t. offer_all (cond t (read_bytes m.eeprom (address_held j) (get_or j.held 2 0)) []) (leave_all_as (cond t (address ∷ address ∷ number ∷ []) []) j)) (enough 3 m) _ (enough_alike m j a 3)
      (λ t.
      subst (λ (h : List ℕ). AgreesWith image (ended (read_from (address_of (argument 0 m) (argument 1 m)) (argument 2 m) (taken 3 m))) (offer_all (read_bytes m.eeprom (address_of (get_or h 0 0) (get_or h 1 0)) (get_or h 2 0)) (leave_all_as (address ∷ address ∷ number ∷ []) j)))
      (sym a.same_held)
      (read_agrees (address_of (argument 0 m) (argument 1 m)) (argument 2 m) (taken 3 m) _ (arguments m j a (address ∷ address ∷ number ∷ []) (tt, (tt, (tt, tt))) (ap waiting is) m.status.errors.key_err)))
      (λ t. a)
  step LoadConfig m j is a =
      by_test _ _ (λ t. leave_all_as (cond t (address ∷ address ∷ []) []) j) (enough 2 m) _ (enough_alike m j a 2)
      (λ t. config_agrees (address_of (argument 0 m) (argument 1 m)) (taken 2 m) _ (arguments m j a (address ∷ address ∷ []) (tt, (tt, tt)) (ap waiting is) _))
      (λ t. a)
  step LoadKeyE2 m j is a =
      by_test _ _ (λ t. leave_all_as (cond t (address ∷ address ∷ []) []) j) (enough 2 m) _ (enough_alike m j a 2)
      (λ t. key_agrees (address_of (argument 0 m) (argument 1 m)) (taken 2 m) _ (arguments m j a (address ∷ address ∷ []) (tt, (tt, tt)) (ap waiting is)))
      (λ t. a)
  step LoadKey m j is a =
      by_test _ _ (λ t. leave_all_as (cond t (replicate 12 key) []) j) (enough 12 m) _ (enough_alike m j a 12)
      (λ t. arguments m j a (replicate 12 key) (plain_keys 12) (ap waiting is) _)
      (λ t. a)
  step CalcCRC m j is a =
      by_test _ _ (λ t. leave_all_as (replicate (length j.held) checksum) j) (enough 1 m) _ refl
      (λ t. absorbed_agrees image m.held m.command m.checksum m.eeprom m.status.errors.key_err j a)
      (λ t.
      let none : length j.held ≡ 0 = ap length a.same_held ∙ empty_length m.held t in
      subst (λ (n : ℕ). AgreesWith image m (leave_all_as (replicate n checksum) j)) (sym none) a)
  step Transmit m j is a = a
  step Receive m j is a = a
  step TransceiveSending m j is a = a
  step TransceiveReceiving m j is a = a

  pub step_agrees : (m : Machine) (j : Journal) → AgreesWith image m j → AgreesWith image (stepped m) (enter_step m j)
  unfolding stepped enter_step
  step_agrees m j a = step m.command m j refl a

  pub settle_agrees : (m : Machine) (j : Journal) → AgreesWith image m j → AgreesWith image (settled m) (enter_settled m j)
  unfolding settled enter_settled
  settle_agrees m j a = step_agrees (stepped m) (enter_step m j) (step_agrees m j a)
