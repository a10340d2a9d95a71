-- How many bytes each part of a call loses: as many as the entries that it adds turn away. And where the machine's sum and FIFOOvfl are those of the number
-- turned away since the last flush or start, they are so after the call.
-- Assumes nothing.
use mathlib.Core.Path.{◌≡◌, refl, sym, ap, ◌∙◌, subst}
use mathlib.Core.Bool.{Bool, true, false, cond, ◌&&◌}
use mathlib.Core.List.{List, [], ◌∷◌, ◌++◌, append_assoc, append-nil, map}
use Prim.Native.Nat.{ℕ, zero, suc, ◌+◌, ◌-◌, ◌%◌, min}
use native.Mathlib.Omega.{arith}
use lib.Dec.{ltb, leb, eqb}
use lib.ListN.{length, length-append}
use borrow.Author.Tests.{eqb-true, lt-ltb}
use Rattle.bits.specs.Bits.{bit_set}
use Rattle.machine.specs.State.{Machine, Command, Idle, WriteE2, ReadE2, LoadConfig, LoadKeyE2, LoadKey, CalcCRC, Transmit, Receive, TransceiveSending, TransceiveReceiving, addressing, ready, programming, with_command, with_held, with_modes, with_rx_last_bits}
use Rattle.machine.specs.Fifo.{one_lost, offered, offered_all, lost_at, lost_of, flushed, rest_of, alerted}
use Rattle.machine.specs.Memory.{address_of, bytes_from}
use Rattle.machine.specs.Timer.{t_stop_rx, timer_started, timer_stopped, timer_clock}
use Rattle.machine.specs.Commands.{code_of, programs, cleared_errors, command_written, enough, argument, taken, ended, raised_tx, raised_rx, with_access_err, readable, read_bytes, read_from, configured_from, key_from, stepped_as, stepped, settled, lost_as, lost_stepping, lost_settling}
use Rattle.machine.specs.Frames.{sending, sent, tx_begun, tx_ended, passed, crc_fails, parity_fails, with_frame_errors, received, lost_receiving}
use Rattle.machine.specs.Power.{modes_written}
use Rattle.machine.specs.Registers.{mapped, control_written, register_written, lost_at_register}
use Rattle.machine.specs.Refusals.{Call, start, host_read, host_write, advance, take_frame, deliver, refusal}
use Rattle.machine.specs.Events as event
use Rattle.machine.specs.Events.{Answer, Outcome, refused, done, lost, byte, frame, accepted, perform, buffer_of, started, written, lost_writing, after_read, batch_stored, programmed, command_clocked, reached, clock, clocks, advanced, delivered}
use Rattle.machine.proofs.Cases.{either, Kind, still, under, kind, not_programming}
use Rattle.machine.proofs.Clock.{timer_any, timer_command, plain_clocked}
use Rattle.machine.proofs.Lost.{lost_by_held, other_loses_none}
use Rattle.machine.proofs.Performing.{as_accepted}
use Rattle.journal.specs.Entries as e
use Rattle.journal.specs.Entries.{Entry, Destination, bytes_away, away_after, away_from, collect}
use Rattle.journal.specs.Journal.{Journal, entered, offer, offer_all, leave_all, Use, address, number, leave_all_as, uses_of, based_by, offers_of, enter_step, enter_settled, enter_command, enter_register, enter_written, enter_end, enter_clock_of, enter_clock, enter_clocks, enter_accepted, enter}
use Rattle.journal.specs.Account.{offers}
use Rattle.journal.proofs.Folds.{collect_append, away_append}
use Rattle.journal.proofs.Adding.{Each, Adds, none_of, adds_none, adds_both, leave_adds, map_adds, leaving_adds, based_adds, command_adds}
use Rattle.journal.proofs.Agreement.{AgreesWith, with_held_lem, same_offered, uses_held}
use Rattle.journal.proofs.Steps.{step_agrees}
use Rattle.journal.proofs.Calls.{code_any, tx_either, clock_either, register_agrees, stored_agrees, timer_agrees, clock_agrees}

-- What a machine shows of lost bytes.
pub record Shown : Type 0 where
  pub sum : ℕ
  pub overflow : Bool

abbrev shown : Machine → Shown
shown m = record { sum = m.lost_sum; overflow = m.status.errors.fifo_ovfl }

-- The next machine shows the same of them.
abbrev Keeps : Machine → Machine → Type 0
Keeps m next = shown next ≡ shown m

-- It shows that so many were turned away.
abbrev pub Tells : Machine → ℕ → Type 0
Tells m s = shown m ≡ record { sum = min 65_535 s; overflow = ltb 0 s }

-- From one machine and journal to another so many bytes are lost: the entries added turn so many away, and what is shown goes by them.
pub record Loses (m : Machine) (j : Journal) (n : ℕ) (next : Machine) (k : Journal) : Type 0 where
  pub entries : List Entry
  pub appended : k.entries ≡ j.entries ++ entries
  pub told : length (collect bytes_away entries) ≡ n
  pub tells : (s : ℕ) → Tells m s → Tells next (away_from s entries)

-- So a machine that shows the number of all entries before shows that of all entries after.
pub tells_on : {m next : Machine} {j k : Journal} {n : ℕ} → Loses m j n next k → Tells m (away_from 0 j.entries) → Tells next (away_from 0 k.entries)
tells_on {next = next} {j = j} l t =
    subst (Tells next) (sym (ap (away_from 0) l.appended ∙ away_append 0 j.entries l.entries)) (l.tells (away_from 0 j.entries) t)

-- One after the other: the numbers are added.
loses_both : {m x next : Machine} {j k l : Journal} {a b n : ℕ} → Loses m j a x k → Loses x k b next l → a + b ≡ n → Loses m j n next l
loses_both {next = next} {j = j} p q is =
    record {
      entries = p.entries ++ q.entries;
      appended = q.appended ∙ ap (λ (z : List Entry). z ++ q.entries) p.appended ∙ append_assoc j.entries p.entries q.entries;
      told = ap length (collect_append bytes_away p.entries q.entries) ∙ simp length-append (omega (arith, p.told, q.told));
      tells = λ s t. subst (Tells next) (sym (away_append s p.entries q.entries)) (q.tells _ (p.tells s t));
    }

-- What else changes of the machine before and after does not matter.
loses_as : {m x y next : Machine} {j k : Journal} {n : ℕ} → Keeps m x → Keeps y next → Loses x j n y k → Loses m j n next k
loses_as first last l = record { entries = l.entries; appended = l.appended; told = l.told; tells = λ s t. last ∙ l.tells s (first ∙ t) }

-- One entry loses the byte that it turns away.
loses_one : {m next : Machine} {j k : Journal} (x : Entry) → k.entries ≡ j.entries ++ x ∷ [] → ((s : ℕ) → Tells m s → Tells next (away_after s x)) → Loses m j (length (bytes_away x)) next k
unfolding collect away_from
loses_one x is tells = record { entries = x ∷ []; appended = is; told = ap length (append-nil (bytes_away x)); tells = tells }

-- An entry that turns none away, and is of no flush or start.
record Stays (x : Entry) : Type 0 where
  none : bytes_away x ≡ []
  same : (s : ℕ) → away_after s x ≡ s

-- Behind such entries the number since the last flush or start is as before.
stay : (xs : List Entry) → Each Stays xs → (s : ℕ) → away_from s xs ≡ s
unfolding Each away_from
stay [] p s = refl
stay (x ∷ xs) (p, ps) s = ap (λ (n : ℕ). away_from n xs) (p.same s) ∙ stay xs ps s

-- By such entries none is lost, where the machine shows the same.
loses_none : {m next : Machine} {j k : Journal} → Adds Stays j k → Keeps m next → Loses m j 0 next k
loses_none {next = next} a same =
    record {
      entries = a.entries;
      appended = a.appended;
      told = ap length (none_of Stays bytes_away (λ x p. p.none) a.entries a.each);
      tells = λ s t. subst (Tells next) (sym (stay a.entries a.each s)) (same ∙ t);
    }

-- No entry at all.
nothing : (j : Journal) → Adds Stays j j
nothing j = adds_none Stays j j refl

-- Every entry by which a byte leaves is such.
left_stays : (to : Destination) (b : ℕ) → Stays (e.left to b)
left_stays to b = record { none = refl; same = λ s. refl }

-- Bytes leave to a command by such entries.
leaves : (us : List Use) (j : Journal) → Adds Stays j (leave_all_as us j)
leaves us j = leaving_adds Stays left_stays (λ a b. record { none = refl; same = λ s. refl }) us j

-- An offered byte is lost where 64 are held.
offer_loses : (b : ℕ) (m : Machine) (j : Journal) → j.held ≡ m.held → Loses m j (lost_at m) (offered b m) (offer b j)
unfolding offer offered
offer_loses b m j same = with_held_lem (λ x. Loses x j (lost_at x) (offered b x) (offer b j)) m j same (go (ltb (length j.held) 64))
  where
    x : Machine
    x = with_held j.held m

    one_more : (s : ℕ) → Tells m s → Tells (one_lost m) (s + 1)
    one_more s t =
        let sum : min 65_535 (m.lost_sum + 1) ≡ min 65_535 (s + 1) = omega (arith, ap (λ (z : Shown). z.sum) t) in
        rw (sum, lt-ltb 0 (s + 1) (omega arith))

    go : (t : Bool) → Loses x j (cond t 0 1) (cond t (with_held (j.held ++ b ∷ []) x) (one_lost x))
        (cond t (record { entries = j.entries ++ e.taken_in b ∷ []; held = j.held ++ b ∷ []; base = j.base; count = j.count }) (entered (e.turned_away b) j))
    go true = loses_one (e.taken_in b) refl (λ s t. t)
    go false = loses_one (e.turned_away b) refl one_more

-- Bytes offered in order lose what each of them at its turn does.
offers_lose : (bs : List ℕ) (m : Machine) (j : Journal) → j.held ≡ m.held → Loses m j (lost_of bs m) (offered_all bs m) (offer_all bs j)
unfolding lost_of offered_all offer_all
offers_lose [] m j same = loses_none (nothing j) refl
offers_lose (b ∷ bs) m j same = loses_both (offer_loses b m j same) (offers_lose bs (offered b m) (offer b j) (same_offered b m j same)) refl

-- Every held byte leaves at once, and then the event is entered: none is lost.
emptied : {m next : Machine} (to : Destination) (x : Entry) (j : Journal) → bytes_away x ≡ [] → ((s : ℕ) → Tells m s → Tells next (away_after s x)) → Loses m j 0 next (leave_all (e.left to) x j)
unfolding leave_all
emptied {m} to x j none tells =
    let out : Journal = record { entries = j.entries ++ map (e.left to) j.held; held = []; base = j.base; count = j.count } in
    loses_both (loses_none {next = m} (map_adds Stays (e.left to) (left_stays to) j.held j out refl) refl) (loses_one {j = out} x refl tells) (omega (arith, ap length none))

-- ReadE2's bytes are offered, or none are.
read_loses : (at count : ℕ) (m : Machine) (j : Journal) → j.held ≡ m.held →
    Loses m j (lost_of (read_bytes m.eeprom at count) m) (ended (read_from at count m)) (offer_all (read_bytes m.eeprom at count) j)
unfolding lost_of offer_all
read_loses at count m j same = go (readable at count)
  where
    bytes : List ℕ
    bytes = bytes_from m.eeprom at count

    go : (t : Bool) → Loses m j (lost_of (cond t bytes []) m) (ended (cond t (offered_all (cond t bytes []) m) (with_access_err m))) (offer_all (cond t bytes []) j)
    go true = loses_as refl refl (offers_lose bytes m j same)
    go false = loses_none (nothing j) refl

-- LoadConfig and LoadKeyE2 keep what is shown.
config_keeps : (at : ℕ) (m : Machine) → Keeps m (configured_from at m)
config_keeps at m = either (Keeps m) (leb 0x10 at && leb at 0x60) _ _ refl refl

key_keeps : (at : ℕ) (m : Machine) → Keeps m (key_from at m)
key_keeps at m = either (Keeps m) (ltb 0x1F4 at) _ _ refl refl

-- A write to Command keeps what is shown.
command_keeps : (v : ℕ) (m : Machine) → Keeps m (command_written v m)
unfolding command_written
command_keeps v m = either (Keeps m) (programs m.command) m _ refl (code_any (Keeps m) (v % 64) (cleared_errors m) (λ c p. refl) (λ c p. refl) refl refl)

-- A write to Control loses none: it flushes or not, and what it does then keeps what is shown.
control_loses : (v : ℕ) (m : Machine) (j : Journal) → Loses m j 0 (control_written v m) (cond (bit_set v 0) (leave_all (e.left e.flush) e.flushed j) j)
control_loses v m j =
    loses_as refl
    (either (λ x. Keeps flushes (with_modes (modes_written (programs m.command) v m.status.modes) x)) (bit_set v 1) _ _
    (either (λ x. Keeps flushes (timer_started x)) (bit_set v 2) _ _ refl refl)
    (either (Keeps flushes) (bit_set v 2) _ _ refl refl))
    (go (bit_set v 0))
  where
    flushes : Machine
    flushes = cond (bit_set v 0) (flushed m) m

    go : (t : Bool) → Loses m j 0 (cond t (flushed m) m) (cond t (leave_all (e.left e.flush) e.flushed j) j)
    go true = emptied e.flush e.flushed j refl (λ s t. refl)
    go false = loses_none (nothing j) refl

-- A write to a register loses a byte at FIFOData only.
register_loses : (r v : ℕ) (m : Machine) (j : Journal) → j.held ≡ m.held → Loses m j (lost_at_register r m) (register_written r v m) (enter_register r v m j)
unfolding register_written
register_loses r v m j same = go (eqb r 0x02) refl (eqb r 0x09) refl
  where
    at : ℕ → ℕ → Type 0
    at n z = Loses m j n (register_written z v m) (enter_register z v m j)

    go : (t : Bool) → eqb r 0x02 ≡ t → (u : Bool) → eqb r 0x09 ≡ u → at (cond t (lost_at m) 0) r
    go true is u is9 = subst (at (lost_at m)) (sym (eqb-true r 0x02 is)) (offer_loses v m j same)
    go false is true is9 = subst (at 0) (sym (eqb-true r 0x09 is9)) (control_loses v m j)
    go false is false is9 =
        loses_none
        (rw (is, is9)
        (either (Adds Stays j) (eqb (r % 8) 0) j _ (nothing j)
        (either (Adds Stays j) (eqb r 0x01) (enter_command v m j) j (command_adds Stays (λ mode lsb msb. record { none = refl; same = λ s. refl }) v m j) (nothing j))))
        (rw (is, is9)
        (either (Keeps m) (eqb (r % 8) 0) _ _ refl
        (either (Keeps m) (eqb r 0x01) _ _ (command_keeps v m)
        (either (Keeps m) (eqb r 0x06) _ _ refl
        (either (Keeps m) (eqb r 0x07) _ _ refl
        (either (Keeps m) (eqb r 0x0F) _ _ refl
        (either (Keeps m) (leb 0x10 r && ltb r 0x30) _ _ refl refl)))))))

-- How many bytes an answer says are lost; where it does not say it, 0.
abbrev pub lost_in : Answer → ℕ
lost_in (refused n) = 0
lost_in done = 0
lost_in (lost n) = n
lost_in (byte b) = 0
lost_in (frame n bits) = 0

-- The event of a host write or a delivery answers this number, and that of any other call says none.
abbrev Says : Bool → Answer → Type 0
Says true x = x ≡ lost (lost_in x)
Says false x = lost_in x ≡ 0

says : (c : Call) (m : Machine) → Says (offers c) (accepted m c).answer
says (start image) m = refl
says (host_read at) m = refl
says (host_write at v) m = refl
says (advance n) m = refl
says (take_frame buffer) m = refl
says (deliver bytes parities last_bits) m = refl

-- So a host write or a delivery that is not refused answers its number, and the number of any other call is 0.
pub offer_says : (c : Call) (m : Machine) → offers c ≡ true → refusal m c ≡ 0 → (perform m c).answer ≡ lost (lost_in (perform m c).answer)
offer_says c m is ok = subst (λ (o : Outcome). Says true o.answer) (sym (as_accepted m c ok)) (subst (λ (t : Bool). Says t (accepted m c).answer) is (says c m))

pub other_says : (c : Call) (m : Machine) → offers c ≡ false → lost_in (perform m c).answer ≡ 0
unfolding perform
other_says c m is = either (λ o. lost_in o.answer ≡ 0) (eqb (refusal m c) 0) (accepted m c) _ (subst (λ (t : Bool). Says t (accepted m c).answer) is (says c m)) refl

module _ (image : List ℕ) where
  module _ (m : Machine) (j : Journal) (agree : j.held ≡ m.held) where
    -- A step of a command that offers no byte loses none.
    plain : (c : Command) → Keeps m (stepped_as c m) → Loses m j 0 (stepped_as c m) (based_by c j (leave_all_as (uses_of c (length j.held)) j))
    plain c same = loses_none (adds_both Stays (leaves (uses_of c (length j.held)) j) (based_adds Stays c j _)) same

    -- A step of ReadE2: its arguments leave, and it offers.
    read_step : Loses m j (lost_as ReadE2 m) (stepped_as ReadE2 m) (offer_all (offers_of ReadE2 m.eeprom j) (leave_all_as (uses_of ReadE2 (length j.held)) j))
    unfolding offer_all
    read_step =
        with_held_lem (λ n. Loses n j (lost_as ReadE2 n) (stepped_as ReadE2 n) (offer_all (offers_of ReadE2 n.eeprom j) (leave_all_as (uses_of ReadE2 (length j.held)) j))) m j agree
        (go (leb 3 (length j.held)))
      where
        x : Machine
        x = with_held j.held m

        at : ℕ
        at = address_of (argument 0 x) (argument 1 x)

        us : List Use
        us = address ∷ address ∷ number ∷ []

        go : (t : Bool) →
            Loses x j (cond t (lost_of (read_bytes m.eeprom at (argument 2 x)) (taken 3 x)) 0) (cond t (ended (read_from at (argument 2 x) (taken 3 x))) x)
            (offer_all (cond t (read_bytes m.eeprom at (argument 2 x)) []) (leave_all_as (cond t us []) j))
        go true = loses_both (loses_none (leaves us j) refl) (read_loses at (argument 2 x) (taken 3 x) (leave_all_as us j) (uses_held image us j)) (omega arith)
        go false = loses_none (leaves [] j) refl

    -- Of the commands only ReadE2 offers any.
    step_as : (c : Command) → Loses m j (lost_as c m) (stepped_as c m) (offer_all (offers_of c m.eeprom j) (based_by c j (leave_all_as (uses_of c (length j.held)) j)))
    unfolding offer_all
    step_as Idle = plain Idle refl
    step_as (WriteE2 addressing) = plain (WriteE2 addressing) (either (Keeps m) (enough 2 m) _ _ refl refl)
    step_as (WriteE2 (ready s)) = plain (WriteE2 (ready s)) (either (Keeps m) (enough 1 m) _ _ (either (Keeps m) (ltb s 0x10) _ _ refl refl) refl)
    step_as (WriteE2 (programming s bs left)) = plain (WriteE2 (programming s bs left)) refl
    step_as ReadE2 = read_step
    step_as LoadConfig = plain LoadConfig (either (Keeps m) (enough 2 m) _ _ (config_keeps (address_of (argument 0 m) (argument 1 m)) (taken 2 m)) refl)
    step_as LoadKeyE2 = plain LoadKeyE2 (either (Keeps m) (enough 2 m) _ _ (key_keeps (address_of (argument 0 m) (argument 1 m)) (taken 2 m)) refl)
    step_as LoadKey = plain LoadKey (either (Keeps m) (enough 12 m) _ _ refl refl)
    step_as CalcCRC = plain CalcCRC (either (Keeps m) (enough 1 m) _ _ refl refl)
    step_as Transmit = plain Transmit refl
    step_as Receive = plain Receive refl
    step_as TransceiveSending = plain TransceiveSending refl
    step_as TransceiveReceiving = plain TransceiveReceiving refl

  -- One step of the active command, and all that it does at once.
  step_loses : (m : Machine) (j : Journal) → AgreesWith image m j → Loses m j (lost_stepping m) (stepped m) (enter_step m j)
  unfolding lost_stepping stepped enter_step
  step_loses m j a = step_as m j a.same_held m.command

  settle_loses : (m : Machine) (j : Journal) → AgreesWith image m j → Loses m j (lost_settling m) (settled m) (enter_settled m j)
  unfolding lost_settling settled enter_settled
  settle_loses m j a = loses_both (step_loses m j a) (step_loses (stepped m) (enter_step m j) (step_agrees image m j a)) refl

  -- A host write loses what its register does, and what the active command then does.
  written_loses : (at v : ℕ) (m : Machine) (j : Journal) → AgreesWith image m j → Loses m j (lost_writing at v m) (written at v m) (enter_written (mapped m.page at) v m j)
  unfolding lost_writing written alerted enter_written
  written_loses at v m j a =
      let r = mapped m.page at in
      loses_as refl refl (loses_both (register_loses r v m j a.same_held) (settle_loses (register_written r v m) (enter_register r v m j) (register_agrees image r v m j a)) refl)

  -- The end of a programming loses none.
  end_loses : (a left : ℕ) (bs : List ℕ) (m : Machine) (j : Journal) → m.command ≡ WriteE2 (programming a bs left) → AgreesWith image m j → Loses m j 0 (programmed a bs m) (enter_end a bs m j)
  end_loses a left bs m j is agrees =
      subst (λ (h : List ℕ). Loses m j 0 (programmed a bs m) (cond (eqb (length h) 0) j (enter_settled (batch_stored a bs m) j))) (sym agrees.same_held) (go (eqb (length m.held) 0))
    where
      go : (t : Bool) → Loses m j 0 (cond t (raised_tx (batch_stored a bs m)) (settled (batch_stored a bs m))) (cond t j (enter_settled (batch_stored a bs m) j))
      go true = loses_none (nothing j) refl
      go false =
          loses_as refl refl
          (subst (λ (n : ℕ). Loses (batch_stored a bs m) j n (settled (batch_stored a bs m)) (enter_settled (batch_stored a bs m) j)) (other_loses_none (batch_stored a bs m) refl)
          (settle_loses (batch_stored a bs m) j (stored_agrees image a left bs m j is agrees)))

  -- One clock of the active command loses none.
  clocked_loses : (c : Command) (m : Machine) (j : Journal) → m.command ≡ c → AgreesWith image m j → Loses m j 0 (command_clocked c m) (enter_clock_of c m j)
  clocked_loses c m j now agrees = go (kind c)
    where
      go : Kind c → Loses m j 0 (command_clocked c m) (enter_clock_of c m j)
      go (still idle) = loses_none (adds_none Stays j (enter_clock_of c m j) (ap (λ (k : Journal). k.entries) (not_programming _ j c idle))) (ap shown (plain_clocked c m idle))
      go (under a bs left is) = subst (λ (d : Command). Loses m j 0 (command_clocked d m) (enter_clock_of d m j)) (sym is) (by (leb left 1))
        where
          by : (t : Bool) → Loses m j 0 (cond t (programmed a bs m) (with_command (WriteE2 (programming a bs (left - 1))) m)) (cond t (enter_end a bs m j) j)
          by true = end_loses a left bs m j (now ∙ is) agrees
          by false = loses_none (nothing j) refl

  -- A clock loses none, and so any number of them: the timer and the power modes keep what is shown.
  clock_loses : (m : Machine) (j : Journal) → AgreesWith image m j → Loses m j 0 (clock m) (enter_clock m j)
  unfolding reached
  clock_loses m j a =
      clock_either (Loses m j 0) m j (loses_none (nothing j) refl)
      (loses_as (timer_any (Keeps m) m refl (λ t. refl) (λ t. refl)) refl (clocked_loses m.command (timer_clock m) j (timer_command m) (timer_agrees image m j a)))

  clocks_lose : (n : ℕ) (m : Machine) (j : Journal) → AgreesWith image m j → Loses m j 0 (clocks n m) (enter_clocks n m j)
  unfolding clocks enter_clocks
  clocks_lose zero m j a = loses_none (nothing j) refl
  clocks_lose (suc n) m j a = loses_both (clock_loses m j a) (clocks_lose n (clock m) (enter_clock m j) (clock_agrees image m j a)) refl

  -- A delivery loses what its bytes do: what it changes before they are offered is neither what is held nor what is shown.
  received_loses : (bytes parities : List ℕ) (last_bits : ℕ) (m : Machine) (j : Journal) → j.held ≡ m.held →
      Loses m j (lost_receiving bytes last_bits m) (delivered bytes parities last_bits m) (offer_all (passed m bytes last_bits) j)
  unfolding lost_receiving delivered received alerted
  received_loses bytes parities last_bits m j same = go (t_stop_rx m)
    where
      bs : List ℕ
      bs = passed m bytes last_bits

      given : Machine → Machine
      given x = with_rx_last_bits last_bits (with_frame_errors (crc_fails m bytes last_bits) (parity_fails m bytes parities last_bits) x)

      given_loses : (x : Machine) → Keeps m (given x) → (given x).held ≡ m.held → Loses m j (lost_of bs m) (offered_all bs (given x)) (offer_all bs j)
      given_loses x keeps held =
          loses_as keeps refl (subst (λ (n : ℕ). Loses (given x) j n (offered_all bs (given x)) (offer_all bs j)) (lost_by_held bs (given x) m held) (offers_lose bs (given x) j (same ∙ sym held)))

      go : (t : Bool) → Loses m j (lost_of bs m) (alerted m (ended (raised_rx (offered_all bs (given (cond t (timer_stopped m) m)))))) (offer_all bs j)
      go true = loses_as refl refl (given_loses (timer_stopped m) refl refl)
      go false = loses_as refl refl (given_loses m refl refl)

  -- A call that is not refused loses as many as its answer says.
  accepted_loses : (c : Call) (m : Machine) (j : Journal) → AgreesWith image m j → Loses m j (lost_in (accepted m c).answer) (accepted m c).next (enter_accepted c m j)
  unfolding started after_read advanced event.taken sent alerted
  accepted_loses (start image') m j a = emptied e.start (e.started image') j refl (λ s t. refl)
  accepted_loses (host_read at) m j a =
      let t = eqb (mapped m.page at) 0x02 in
      loses_none (either (Adds Stays j) t _ j (leave_adds Stays (e.left e.host) (left_stays e.host) j) (nothing j)) (either (Keeps m) t (alerted m (with_held (rest_of m.held) m)) m refl refl)
  accepted_loses (host_write at v) m j a = written_loses at v m j a
  accepted_loses (advance n) m j a = loses_as refl refl (clocks_lose n m j a)
  accepted_loses (take_frame buffer) m j a =
      let same : Keeps m (tx_ended (tx_begun (with_held [] m))) = tx_either (Keeps m) (with_held [] m) refl refl refl in
      emptied e.frame e.took_frame j refl (λ s t. either (Keeps m) (sending m.command && eqb (code_of m.command) 0x1E) _ _ same same ∙ t)
  accepted_loses (deliver bytes parities last_bits) m j a = received_loses bytes parities last_bits m j a.same_held

  -- Any call; one that is refused changes nothing.
  pub call_loses : (c : Call) (m : Machine) (j : Journal) → AgreesWith image m j → Loses m j (lost_in (perform m c).answer) (perform m c).next (enter c m j)
  unfolding perform enter
  call_loses c m j a = go (eqb (refusal m c) 0)
    where
      given : Bool → Outcome
      given t = cond t (accepted m c) (record { answer = refused (refusal m c); next = m; buffer = buffer_of c })

      go : (t : Bool) → Loses m j (lost_in (given t).answer) (given t).next (cond t (enter_accepted c m j) j)
      go true = accepted_loses c m j a
      go false = loses_none (nothing j) refl
