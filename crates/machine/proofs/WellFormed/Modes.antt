-- The power modes stay formed: no event changes them but a write to Control and a clock, and a mode waits only as long as a programming is there.
-- Assumes nothing.
use Prim.Native.Nat.{ℕ, zero, suc, ◌-◌, ◌%◌, ◌≤◌}
use mathlib.Core.Path.{◌≡◌, refl, sym, ap, ◌∙◌, subst}
use mathlib.Core.Bool.{Bool, true, false, cond, ◌&&◌, true≢false}
use mathlib.Core.List.{List, [], ◌∷◌}
use native.Mathlib.Omega.{arith}
use lib.Dec.{ltb, leb, eqb}
use lib.ListN.{length}
use borrow.Author.Tests.{leb-true, leb-false, le-leb}
use Rattle.bits.specs.Bits.{bit_set}
use Rattle.machine.specs.State.{Machine, Command, Mode, Modes, Idle, WriteE2, ReadE2, LoadConfig, LoadKeyE2, LoadKey, CalcCRC, Transmit, Receive, TransceiveSending, TransceiveReceiving, addressing, ready, programming, off, waiting, in_hold, leaving, with_held}
use Rattle.machine.specs.Memory.{address_of, room_in_block}
use Rattle.machine.specs.Power.{stand_by_clocks, power_down_clocks, mode_written, modes_written, mode_clocked, modes_clocked, stands_still}
use Rattle.machine.specs.Fifo.{offered, offered_all, flushed, alerted}
use Rattle.machine.specs.Timer.{timer_started, timer_stopped, timer_clock, t_start_tx_begin, t_start_tx_end, t_stop_rx}
use Rattle.machine.specs.Commands.{programs, code_of, command_started, command_written, cleared_errors, enough, argument, taken, latched, write_stepped, readable, read_bytes, read_from, configured_from, key_from, stepped_as, stepped, settled}
use Rattle.machine.specs.Frames.{sending, receiving, tx_begun, tx_ended, after_sending, sent, passed, received, rx_stopped}
use Rattle.machine.specs.Registers.{mapped, control_written, register_written}
use Rattle.machine.specs.WellFormed.{mode_formed, modes_formed}
use Rattle.machine.specs.Events.{written, after_read, programmed, clock, clocks, advanced, delivered}
use Rattle.machine.specs.Events as events
use Rattle.machine.proofs.Cases.{either, by_cond, Kind, still, under, kind}
use Rattle.machine.proofs.Clock.{timer_command, timer_modes, clock_stands, clock_plain, goes_on_lem, ends}
use Rattle.machine.proofs.Settling.{settled_stands}
use Rattle.machine.proofs.WellFormed.Parts.{both, each}

-- One mode: formed without a programming it is formed with one; a clock keeps it so, and behind the end of a programming it does not wait.
weaker : (whole : ℕ) (p : Bool) (x : Mode) → mode_formed whole false x ≡ true → mode_formed whole p x ≡ true
weaker whole p off h = refl
weaker whole p waiting h = absurd (true≢false (sym h))
weaker whole p in_hold h = refl
weaker whole p (leaving n) h = h

fewer : (whole n : ℕ) → leb n 1 ≡ false → (leb 1 n && leb n whole) ≡ true → (leb 1 (n - 1) && leb (n - 1) whole) ≡ true
fewer whole n more h =
    let (low, high) = each (leb 1 n) _ h in
    both (le-leb 1 (n - 1) (omega (arith, leb-false n 1 more))) (le-leb (n - 1) whole (omega (arith, leb-true n whole high)))

clocked : (whole : ℕ) (p : Bool) (x : Mode) → mode_formed whole p x ≡ true → mode_formed whole p (mode_clocked false x) ≡ true
clocked whole p off h = refl
clocked whole p waiting h = h
clocked whole p in_hold h = refl
clocked whole p (leaving n) h = by_cond (λ x. mode_formed whole p x ≡ true) (leb n 1) off (leaving (n - 1)) (λ e. refl) (λ e. fewer whole n e h)

ended : (whole : ℕ) (p q : Bool) (x : Mode) → mode_formed whole p x ≡ true → mode_formed whole q (mode_clocked true x) ≡ true
ended whole p q off h = refl
ended whole p q waiting h = refl
ended whole p q in_hold h = refl
ended whole p q (leaving n) h = by_cond (λ x. mode_formed whole q x ≡ true) (leb n 1) off (leaving (n - 1)) (λ e. refl) (λ e. fewer whole n e h)

-- A write to its bit.
put : (whole : ℕ) (p bit : Bool) (x : Mode) → 1 ≤ whole → mode_formed whole p x ≡ true → mode_formed whole p (mode_written whole p bit x) ≡ true
put whole true true off some h = refl
put whole false true off some h = refl
put whole p false off some h = refl
put whole p true waiting some h = h
put whole p false waiting some h = refl
put whole p true in_hold some h = refl
put whole p false in_hold some h = both (le-leb 1 whole some) (le-leb whole whole (omega arith))
put whole p true (leaving n) some h = refl
put whole p false (leaving n) some h = h

-- The same of both.
module _ (x : Modes) where
  abbrev Formed : Bool → Modes → Type 0
  Formed p y = modes_formed p y ≡ true

  both_weaker : (p : Bool) → Formed false x → Formed p x
  both_weaker p h = let (s, d) = each (mode_formed stand_by_clocks false x.stand_by) _ h in both (weaker stand_by_clocks p x.stand_by s) (weaker power_down_clocks p x.power_down d)

  both_clocked : (p : Bool) → Formed p x → Formed p (modes_clocked false x)
  both_clocked p h = let (s, d) = each (mode_formed stand_by_clocks p x.stand_by) _ h in both (clocked stand_by_clocks p x.stand_by s) (clocked power_down_clocks p x.power_down d)

  both_ended : (p q : Bool) → Formed p x → Formed q (modes_clocked true x)
  both_ended p q h = let (s, d) = each (mode_formed stand_by_clocks p x.stand_by) _ h in both (ended stand_by_clocks p q x.stand_by s) (ended power_down_clocks p q x.power_down d)

  both_put : (p : Bool) (v : ℕ) → Formed p x → Formed p (modes_written p v x)
  both_put p v h =
      let (s, d) = each (mode_formed stand_by_clocks p x.stand_by) _ h in
      both (put stand_by_clocks p (bit_set v 5) x.stand_by (omega arith) s) (put power_down_clocks p (bit_set v 4) x.power_down (omega arith) d)

-- A machine's modes are formed.
abbrev pub Modal : Machine → Type 0
Modal m = modes_formed (programs m.command) m.status.modes ≡ true

-- A machine that programs nothing may go on to any other command with the same modes.
free : (m x : Machine) → programs m.command ≡ false → x.status.modes ≡ m.status.modes → Modal m → Modal x
free m x idle same h =
    subst (λ (y : Modes). modes_formed (programs x.command) y ≡ true) (sym same)
    (both_weaker m.status.modes (programs x.command) (ap (λ (p : Bool). modes_formed p m.status.modes) (sym idle) ∙ h))

module _ (m : Machine) where
  abbrev Same : Machine → Type 0
  Same x = x.status.modes ≡ m.status.modes

  offered_same : (b : ℕ) (x : Machine) → Same x → Same (offered b x)
  unfolding offered
  offered_same b x s = either Same (ltb (length x.held) 64) _ _ s s

  all_same : (bs : List ℕ) (x : Machine) → Same x → Same (offered_all bs x)
  unfolding offered_all
  all_same [] x s = s
  all_same (b ∷ bs) x s = all_same bs (offered b x) (offered_same b x s)

  step_same : (c : Command) (x : Machine) → Same x → Same (stepped_as c x)
  step_same Idle x s = s
  step_same (WriteE2 addressing) x s = either Same (enough 2 x) _ x s s
  step_same (WriteE2 (ready a)) x s = either Same (enough 1 x) _ x (either Same (ltb a 0x10) _ _ s s) s
  step_same (WriteE2 (programming a bs left)) x s = s
  step_same ReadE2 x s =
      let address = address_of (argument 0 x) (argument 1 x) in
      either Same (enough 3 x) _ x
      (either Same (readable address (argument 2 x)) _ _ (all_same (read_bytes x.eeprom address (argument 2 x)) (taken 3 x) s) s) s
  step_same LoadConfig x s =
      let address = address_of (argument 0 x) (argument 1 x) in either Same (enough 2 x) _ x (either Same (leb 0x10 address && leb address 0x60) _ _ s s) s
  step_same LoadKeyE2 x s = either Same (enough 2 x) _ x (either Same (ltb 0x1F4 (address_of (argument 0 x) (argument 1 x))) _ _ s s) s
  step_same LoadKey x s = either Same (enough 12 x) _ x s s
  step_same CalcCRC x s = either Same (enough 1 x) _ x s s
  step_same Transmit x s = s
  step_same Receive x s = s
  step_same TransceiveSending x s = s
  step_same TransceiveReceiving x s = s

  settled_same : Same (settled m)
  unfolding settled stepped
  settled_same = step_same (stepped_as m.command m).command (stepped_as m.command m) (step_same m.command m refl)

  started_same : (code : ℕ) (x : Machine) → Same x → Same (command_started code x)
  started_same code x s =
      either Same (eqb code 0x00) _ _ s
      (either Same (eqb code 0x01) _ _ s
      (either Same (eqb code 0x03) _ _ s
      (either Same (eqb code 0x07) _ _ s
      (either Same (eqb code 0x0B) _ _ s
      (either Same (eqb code 0x12) _ _ s
      (either Same (eqb code 0x16) _ _ s
      (either Same (eqb code 0x19) _ _ s
      (either Same (eqb code 0x1A) _ _ s
      (either Same (eqb code 0x1E) _ _ s s)))))))))

-- What the active command does at once.
settled_modal : (m : Machine) → Modal m → Modal (settled m)
settled_modal m h = go (kind m.command)
  where
    go : Kind m.command → Modal (settled m)
    go (still idle) = free m (settled m) idle (settled_same m) h
    go (under a bs left is) = subst Modal (sym (settled_stands m a left bs is)) h

-- Command is written.
command_modal : (v : ℕ) (m : Machine) → Modal m → Modal (command_written v m)
unfolding command_written
command_modal v m h =
    by_cond Modal (programs m.command) m _ (λ runs. h)
    (λ idle. free m (command_started (v % 64) (cleared_errors m)) idle (started_same m (v % 64) (cleared_errors m) refl) h)

-- Control is written: the FIFO and the timer have no part in it.
control_modal : (v : ℕ) (m : Machine) → Modal m → Modal (control_written v m)
control_modal v m h = subst (λ (c : Command). modes_formed (programs c) (modes_written (programs m.command) v m.status.modes) ≡ true) (sym same) (both_put m.status.modes (programs m.command) v h)
  where
    Kept : Machine → Type 0
    Kept x = x.command ≡ m.command

    same : (control_written v m).command ≡ m.command
    same =
        let flushes = cond (bit_set v 0) (flushed m) m in
        let stops = cond (bit_set v 2) (timer_stopped flushes) flushes in
        let f : Kept flushes = either Kept (bit_set v 0) (flushed m) m refl refl in
        let s : Kept stops = either Kept (bit_set v 2) (timer_stopped flushes) flushes f f in
        either Kept (bit_set v 1) (timer_started stops) stops s s

register_modal : (r v : ℕ) (m : Machine) → Modal m → Modal (register_written r v m)
unfolding register_written offered
register_modal r v m h =
    either Modal (eqb (r % 8) 0) _ _ h
    (either Modal (eqb r 0x01) _ _ (command_modal v m h)
    (either Modal (eqb r 0x02) _ _ (either Modal (ltb (length m.held) 64) _ _ h h)
    (either Modal (eqb r 0x06) _ _ h
    (either Modal (eqb r 0x07) _ _ h
    (either Modal (eqb r 0x09) _ _ (control_modal v m h)
    (either Modal (eqb r 0x0F) _ _ h
    (either Modal (leb 0x10 r && ltb r 0x30) _ m h h)))))))

-- The events.
pub written_modal : (address v : ℕ) (m : Machine) → Modal m → Modal (written address v m)
unfolding written alerted
written_modal address v m h = settled_modal (register_written (mapped m.page address) v m) (register_modal (mapped m.page address) v m h)

pub after_read_modal : (address : ℕ) (m : Machine) → Modal m → Modal (after_read address m)
unfolding after_read alerted
after_read_modal address m h = either Modal (eqb (mapped m.page address) 0x02) _ m h h

clock_modal : (m : Machine) → Modal m → Modal (clock m)
clock_modal m h = by_hold (stands_still m) refl
  where
    go : stands_still m ≡ false → Kind m.command → Modal (clock m)
    go runs (still idle) = subst Modal (sym (clock_plain m runs idle)) (free m (timer_clock m) idle (timer_modes m) h)
    go runs (under a bs left is) = by (leb left 1) refl
      where
        by : (t : Bool) → leb left 1 ≡ t → Modal (clock m)
        by true e = subst Modal (sym (ends m a left bs runs is (leb-true left 1 e))) (both_ended m.status.modes (programs m.command) _ h)
        by false e =
            subst Modal (sym (goes_on_lem m a left bs runs is (leb-false left 1 e)))
            (subst (λ (x : Modes). modes_formed true x ≡ true) (sym (timer_modes m)) (ap (λ (c : Command). modes_formed (programs c) m.status.modes) (sym is) ∙ h))

    by_hold : (t : Bool) → stands_still m ≡ t → Modal (clock m)
    by_hold true stands = subst Modal (sym (clock_stands m stands)) (both_clocked m.status.modes (programs m.command) h)
    by_hold false runs = go runs (kind m.command)

pub clocks_modal : (n : ℕ) (m : Machine) → Modal m → Modal (clocks n m)
unfolding clocks
clocks_modal zero m h = h
clocks_modal (suc n) m h = clocks_modal n (clock m) (clock_modal m h)

pub advanced_modal : (n : ℕ) (m : Machine) → Modal m → Modal (advanced n m)
unfolding advanced alerted
advanced_modal n m h = clocks_modal n m h

-- A command that sends or receives programs nothing.
sending_idle : (c : Command) → sending c ≡ true → programs c ≡ false
sending_idle Idle h = refl
sending_idle (WriteE2 w) h = absurd (true≢false (sym h))
sending_idle ReadE2 h = refl
sending_idle LoadConfig h = refl
sending_idle LoadKeyE2 h = refl
sending_idle LoadKey h = refl
sending_idle CalcCRC h = refl
sending_idle Transmit h = refl
sending_idle Receive h = refl
sending_idle TransceiveSending h = refl
sending_idle TransceiveReceiving h = refl

receiving_idle : (c : Command) → receiving c ≡ true → programs c ≡ false
receiving_idle Idle h = refl
receiving_idle (WriteE2 w) h = absurd (true≢false (sym h))
receiving_idle ReadE2 h = refl
receiving_idle LoadConfig h = refl
receiving_idle LoadKeyE2 h = refl
receiving_idle LoadKey h = refl
receiving_idle CalcCRC h = refl
receiving_idle Transmit h = refl
receiving_idle Receive h = refl
receiving_idle TransceiveSending h = refl
receiving_idle TransceiveReceiving h = refl

-- A take and a delivery.
pub taken_modal : (m : Machine) → sending m.command ≡ true → Modal m → Modal (events.taken m)
unfolding events.taken alerted sent
taken_modal m sends h = free m (events.taken m) (sending_idle m.command sends) same h
  where
    same : Same m (events.taken m)
    same =
        let empty = with_held [] m in
        let begun : Same m (tx_begun empty) = either (Same m) (t_start_tx_begin empty) (timer_started empty) empty refl refl in
        let over : Same m (tx_ended (tx_begun empty)) = either (Same m) (t_start_tx_end (tx_begun empty)) (timer_started (tx_begun empty)) (tx_begun empty) begun begun in
        either (Same m) (sending m.command && eqb (code_of m.command) 0x1E) _ _ over over

pub delivered_modal : (bytes parities : List ℕ) (last_bits : ℕ) (m : Machine) → receiving m.command ≡ true → Modal m → Modal (delivered bytes parities last_bits m)
unfolding delivered alerted received
delivered_modal bytes parities last_bits m receives h =
    free m (delivered bytes parities last_bits m) (receiving_idle m.command receives)
    (all_same m (passed m bytes last_bits) _ (either (Same m) (t_stop_rx m) (timer_stopped m) m refl refl))
    h
