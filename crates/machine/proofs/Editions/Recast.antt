-- A machine recast: with another edition and another memory. Whatever an event does to a machine it does to the machine recast, where the bytes that are stored, and those
-- that are read, are the same in both memories. One walk over the events; Kept.antt and Rule.antt say what follows, for memories that they choose.
-- Assumes nothing.
use Prim.Native.Nat.{ℕ, zero, suc, ◌+◌, ◌%◌, ◌^◌, ◌≤◌}
use mathlib.Core.Path.{◌≡◌, refl, sym, ap, subst, ◌∙◌}
use mathlib.Core.Bool.{Bool, true, false, cond, ◌&&◌, ◌||◌}
use mathlib.Core.List.{List, [], ◌∷◌}
use lib.Dec.{ltb, leb, eqb}
use lib.ListN.{length}
use borrow.Author.Tests.{leb-true}
use Rattle.edition.specs.declared.Edition.{Edition}
use Rattle.bits.specs.Bits.{bit_set}
use Rattle.machine.specs.State.{Machine, Command, Writing, Idle, WriteE2, ReadE2, LoadConfig, LoadKeyE2, LoadKey, CalcCRC, Transmit, Receive, TransceiveSending, TransceiveReceiving, addressing, ready, programming, with_command, with_held, with_registers, with_eeprom, with_edition, with_modes, with_rx_last_bits}
use Rattle.machine.specs.Fifo.{register_at, offered, offered_all, lost_of, flushed, lo_alert, hi_alert, alerted}
use Rattle.machine.specs.Timer.{timer_started, timer_stopped, timer_clock, t_start_tx_begin, t_start_tx_end, t_stop_rx}
use Rattle.machine.specs.Memory.{address_of, bytes_from, stored_from, over_registers}
use Rattle.machine.specs.Commands.{programs, code_of, command_started, command_written, cleared_errors, enough, argument, taken, write_stepped, readable, read_bytes, read_from, configured_from, key_from, key_judged, raised_tx, raised_rx, ended, checksum_taken, stepped_as, stepped, settled, lost_as, lost_stepping, lost_settling}
use Rattle.machine.specs.Frames.{sending, tx_begun, tx_ended, after_sending, sent, parity_wrong, any_parity_wrong, parity_fails, crc_fails, passed, complete_bytes, with_frame_errors, rx_stopped, received, lost_receiving}
use Rattle.machine.specs.Power.{stands_still}
use Rattle.machine.specs.Registers.{mapped, control_written, register_written, lost_at_register}
use Rattle.machine.specs.Events.{batch_stored, programmed, programming_clocked, command_clocked, reached, clock, clocks, written, lost_writing, after_read, advanced, delivered}
use Rattle.machine.specs.Events as events
use Rattle.machine.proofs.Cases.{either, while_programming_lem}
use Rattle.machine.proofs.Lost.{lost_by_held}
use Rattle.machine.proofs.Editions.Block0.{above, clock_goes}

-- A machine with this edition, and this in the place of its memory.
abbrev pub recast : Edition → (List ℕ → List ℕ) → Machine → Machine
recast e g m = with_edition e (with_eeprom (g m.eeprom) m)

-- The first of two machines is the second one recast. The name does not compute, for long chains of choices.
pub record Same (e : Edition) (g : List ℕ → List ℕ) (x' x : Machine) : Type 0 where
  pub is : x' ≡ recast e g x

module _ (e : Edition) (g : List ℕ → List ℕ) where
  abbrev R : Machine → Machine
  R = recast e g

  abbrev S : Machine → Machine → Type 0
  S = Same e g

  same : {x' x : Machine} → x' ≡ R x → S x' x
  same p = record { is = p }

  -- Choices by a test, and one function after another.
  pick_if : (t : Bool) {x' x y' y : Machine} → (t ≡ true → S x' x) → S y' y → S (cond t x' y') (cond t x y)
  pick_if true p q = p refl
  pick_if false p q = q

  pick : (t : Bool) {x' x y' y : Machine} → S x' x → S y' y → S (cond t x' y') (cond t x y)
  pick t p q = pick_if t (λ h. p) q

  over : (f : Machine → Machine) → ((y : Machine) → S (f (R y)) (f y)) → {x' x : Machine} → S x' x → S (f x') (f x)
  over f k {x'} {x} s = same (ap f s.is ∙ (k x).is)

  -- The FIFO and its alerts.
  offered_same : (b : ℕ) (m : Machine) → S (offered b (R m)) (offered b m)
  unfolding offered
  offered_same b m = pick (ltb (length m.held) 64) (same refl) (same refl)

  all_offered_same : (bs : List ℕ) (m : Machine) → S (offered_all bs (R m)) (offered_all bs m)
  unfolding offered_all
  all_offered_same [] m = same refl
  all_offered_same (b ∷ bs) m = over (offered_all bs) (all_offered_same bs) (offered_same b m)

  alerted_same : (m : Machine) {x' x : Machine} → S x' x → S (alerted (R m) x') (alerted m x)
  unfolding alerted lo_alert hi_alert
  alerted_same m {x'} {x} s = same (ap (alerted (R m)) s.is)

  -- A code is started.
  command_same : (code : ℕ) (m : Machine) → S (command_started code (R m)) (command_started code m)
  command_same code m =
      pick (eqb code 0x00) (same refl)
      (pick (eqb code 0x01) (same refl)
      (pick (eqb code 0x03) (same refl)
      (pick (eqb code 0x07) (same refl)
      (pick (eqb code 0x0B) (same refl)
      (pick (eqb code 0x12) (same refl)
      (pick (eqb code 0x16) (same refl)
      (pick (eqb code 0x19) (same refl)
      (pick (eqb code 0x1A) (same refl)
      (pick (eqb code 0x1E) (same refl)
      (same refl))))))))))

  command_written_same : (v : ℕ) (m : Machine) → S (command_written v (R m)) (command_written v m)
  unfolding command_written
  command_written_same v m = pick (programs m.command) (same refl) (command_same (v % 64) (cleared_errors m))

  -- The active command's work. What it reads of the memory is the same in both.
  abbrev address : Machine → ℕ
  address m = address_of (argument 0 m) (argument 1 m)

  abbrev pub SameReads : Command → Machine → Type 0
  SameReads Idle m = Unit {0}
  SameReads (WriteE2 w) m = Unit {0}
  SameReads ReadE2 m = enough 3 m ≡ true → read_bytes (g m.eeprom) (address m) (argument 2 m) ≡ read_bytes m.eeprom (address m) (argument 2 m)
  SameReads LoadConfig m =
      enough 2 m ≡ true → (leb 0x10 (address m) && leb (address m) 0x60) ≡ true → bytes_from (g m.eeprom) (address m) 32 ≡ bytes_from m.eeprom (address m) 32
  SameReads LoadKeyE2 m = enough 2 m ≡ true → bytes_from (g m.eeprom) (address m) 12 ≡ bytes_from m.eeprom (address m) 12
  SameReads LoadKey m = Unit {0}
  SameReads CalcCRC m = Unit {0}
  SameReads Transmit m = Unit {0}
  SameReads Receive m = Unit {0}
  SameReads TransceiveSending m = Unit {0}
  SameReads TransceiveReceiving m = Unit {0}

  read_same : (a n : ℕ) (m : Machine) → read_bytes (g m.eeprom) a n ≡ read_bytes m.eeprom a n → S (read_from a n (R m)) (read_from a n m)
  read_same a n m h =
      pick (readable a n) (same (ap (λ (bs : List ℕ). offered_all bs (R m)) h ∙ (all_offered_same (read_bytes m.eeprom a n) m).is)) (same refl)

  configured_same : (a : ℕ) (m : Machine) → ((leb 0x10 a && leb a 0x60) ≡ true → bytes_from (g m.eeprom) a 32 ≡ bytes_from m.eeprom a 32) →
      S (configured_from a (R m)) (configured_from a m)
  configured_same a m h =
      pick_if (leb 0x10 a && leb a 0x60) (λ t. same (ap (λ (bs : List ℕ). with_registers (over_registers 0 m.registers bs) (R m)) (h t))) (same refl)

  key_same : (a : ℕ) (m : Machine) → bytes_from (g m.eeprom) a 12 ≡ bytes_from m.eeprom a 12 → S (key_from a (R m)) (key_from a m)
  key_same a m h = pick (ltb 0x1F4 a) (same refl) (same (ap (λ (bs : List ℕ). key_judged bs (R m)) h))

  write_same : (w : Writing) (m : Machine) → S (write_stepped w (R m)) (write_stepped w m)
  write_same addressing m = pick (enough 2 m) (same refl) (same refl)
  write_same (ready a) m = pick (enough 1 m) (pick (ltb a 0x10) (same refl) (same refl)) (same refl)
  write_same (programming a bs left) m = same refl

  ended_same : (m : Machine) → S (ended (R m)) (ended m)
  ended_same m = same refl

  step_same : (c : Command) (m : Machine) → SameReads c m → S (stepped_as c (R m)) (stepped_as c m)
  step_same Idle m h = same refl
  step_same (WriteE2 w) m h = write_same w m
  step_same ReadE2 m h = pick_if (enough 3 m) (λ t. over ended ended_same (read_same (address m) (argument 2 m) (taken 3 m) (h t))) (same refl)
  step_same LoadConfig m h = pick_if (enough 2 m) (λ t. over ended ended_same (configured_same (address m) (taken 2 m) (h t))) (same refl)
  step_same LoadKeyE2 m h = pick_if (enough 2 m) (λ t. over ended ended_same (key_same (address m) (taken 2 m) (h t))) (same refl)
  step_same LoadKey m h = pick (enough 12 m) (same refl) (same refl)
  step_same CalcCRC m h = pick (enough 1 m) (same refl) (same refl)
  step_same Transmit m h = same refl
  step_same Receive m h = same refl
  step_same TransceiveSending m h = same refl
  step_same TransceiveReceiving m h = same refl

  -- A further step reads nothing more.
  abbrev Reads : Machine → Type 0
  Reads m = SameReads m.command m

  again : (c : Command) (m : Machine) → m.command ≡ c → SameReads c m → Reads (stepped_as c m)
  again c m is h = go c is h
    where
      stays : (d : Command) → m.command ≡ d → SameReads d m → Reads m
      stays d e h = subst (λ (x : Command). SameReads x m) (sym e) h

      go : (d : Command) → m.command ≡ d → SameReads d m → Reads (stepped_as d m)
      go Idle e h = stays Idle e h
      go (WriteE2 addressing) e h = either Reads (enough 2 m) _ m tt (stays _ e h)
      go (WriteE2 (ready a)) e h = either Reads (enough 1 m) _ m (either Reads (ltb a 0x10) _ _ tt tt) (stays _ e h)
      go (WriteE2 (programming a bs left)) e h = stays _ e h
      go ReadE2 e h = either Reads (enough 3 m) _ m tt (stays _ e h)
      go LoadConfig e h = either Reads (enough 2 m) _ m tt (stays _ e h)
      go LoadKeyE2 e h = either Reads (enough 2 m) _ m tt (stays _ e h)
      go LoadKey e h = either Reads (enough 12 m) _ m tt (stays _ e h)
      go CalcCRC e h =
          either Reads (enough 1 m) _ m (subst (λ (x : Command). SameReads x (raised_tx (checksum_taken m))) (sym e) tt) (stays _ e h)
      go Transmit e h = stays _ e h
      go Receive e h = stays _ e h
      go TransceiveSending e h = stays _ e h
      go TransceiveReceiving e h = stays _ e h

  pub settled_same : (m : Machine) → SameReads m.command m → S (settled (R m)) (settled m)
  unfolding settled stepped
  settled_same m h =
      let n = stepped_as m.command m in
      same (ap stepped (step_same m.command m h).is ∙ (step_same n.command n (again m.command m refl h)).is)

  -- It loses as many bytes of what it reads.
  lost_as_same : (c : Command) (m : Machine) → SameReads c m → lost_as c (R m) ≡ lost_as c m
  lost_as_same Idle m h = refl
  lost_as_same (WriteE2 w) m h = refl
  lost_as_same ReadE2 m h = go (enough 3 m) h
    where
      read : List ℕ → List ℕ
      read memory = read_bytes memory (address m) (argument 2 m)

      go : (t : Bool) → (t ≡ true → read (g m.eeprom) ≡ read m.eeprom) → cond t (lost_of (read (g m.eeprom)) (taken 3 (R m))) 0 ≡ cond t (lost_of (read m.eeprom) (taken 3 m)) 0
      go true k = ap (λ (bs : List ℕ). lost_of bs (taken 3 (R m))) (k refl) ∙ lost_by_held (read m.eeprom) (taken 3 (R m)) (taken 3 m) refl
      go false k = refl
  lost_as_same LoadConfig m h = refl
  lost_as_same LoadKeyE2 m h = refl
  lost_as_same LoadKey m h = refl
  lost_as_same CalcCRC m h = refl
  lost_as_same Transmit m h = refl
  lost_as_same Receive m h = refl
  lost_as_same TransceiveSending m h = refl
  lost_as_same TransceiveReceiving m h = refl

  lost_settling_same : (m : Machine) → SameReads m.command m → lost_settling (R m) ≡ lost_settling m
  unfolding lost_settling lost_stepping stepped
  lost_settling_same m h =
      let n = stepped_as m.command m in
      ap (λ (k : ℕ). k + lost_stepping (stepped (R m))) (lost_as_same m.command m h)
      ∙ ap (λ (x : Machine). lost_stepping m + lost_stepping x) (step_same m.command m h).is
      ∙ ap (λ (k : ℕ). lost_stepping m + k) (lost_as_same n.command n (again m.command m refl h))

  -- A write to any register.
  control_same : (v : ℕ) (m : Machine) → S (control_written v (R m)) (control_written v m)
  control_same v m =
      over (with_modes _) (λ y. same refl)
      (over (λ (x : Machine). cond (bit_set v 1) (timer_started x) x) (λ y. pick (bit_set v 1) (same refl) (same refl))
      (over (λ (x : Machine). cond (bit_set v 2) (timer_stopped x) x) (λ y. pick (bit_set v 2) (same refl) (same refl))
      (pick (bit_set v 0) {x = flushed m} (same refl) (same refl))))

  pub register_same : (r v : ℕ) (m : Machine) → S (register_written r v (R m)) (register_written r v m)
  unfolding register_written
  register_same r v m =
      pick (eqb (r % 8) 0) (same refl)
      (pick (eqb r 0x01) (command_written_same v m)
      (pick (eqb r 0x02) (offered_same v m)
      (pick (eqb r 0x06) (same refl)
      (pick (eqb r 0x07) (same refl)
      (pick (eqb r 0x09) (control_same v m)
      (pick (eqb r 0x0F) (same refl)
      (pick (leb 0x10 r && ltb r 0x30) (same refl)
      (same refl))))))))

  -- A host write, where the command that it leaves reads the same, and a host read.
  pub written_same : (a v : ℕ) (m : Machine) → (let n = register_written (mapped m.page a) v m in SameReads n.command n) → S (written a v (R m)) (written a v m)
  unfolding written
  written_same a v m h =
      let r = mapped m.page a in
      alerted_same m (same (ap settled (register_same r v m).is ∙ (settled_same (register_written r v m) h).is))

  pub lost_writing_same : (a v : ℕ) (m : Machine) → (let n = register_written (mapped m.page a) v m in SameReads n.command n) →
      lost_writing a v (R m) ≡ lost_writing a v m
  unfolding lost_writing
  lost_writing_same a v m h =
      let r = mapped m.page a in
      ap (λ (k : ℕ). lost_at_register r m + k) (ap lost_settling (register_same r v m).is ∙ lost_settling_same (register_written r v m) h)

  pub after_read_same : (a : ℕ) (m : Machine) → S (after_read a (R m)) (after_read a m)
  unfolding after_read
  after_read_same a m = pick (eqb (mapped m.page a) 0x02) (alerted_same m (same refl)) (same refl)

  -- A take and a delivery.
  pub taken_same : (m : Machine) → S (events.taken (R m)) (events.taken m)
  unfolding events.taken sent
  taken_same m =
      alerted_same m
      (over (after_sending m.command) (λ y. pick (sending m.command && eqb (code_of m.command) 0x1E) (same refl) (same refl))
      (over raised_tx (λ y. same refl)
      (over tx_ended (λ y. pick (t_start_tx_end y) (same refl) (same refl))
      (over tx_begun (λ y. pick (t_start_tx_begin y) (same refl) (same refl))
      (same {x = with_held [] m} refl)))))

  parities_same : (m : Machine) (bs ps : List ℕ) → any_parity_wrong (R m) bs ps ≡ any_parity_wrong m bs ps
  unfolding any_parity_wrong
  parities_same m [] ps = refl
  parities_same m (b ∷ bs) [] = refl
  parities_same m (b ∷ bs) (p ∷ ps) = ap (λ (t : Bool). parity_wrong m b p || t) (parities_same m bs ps)

  pub delivered_same : (bytes parities : List ℕ) (last_bits : ℕ) (m : Machine) → S (delivered bytes parities last_bits (R m)) (delivered bytes parities last_bits m)
  unfolding delivered received
  delivered_same bytes parities last_bits m =
      alerted_same m
      (over ended ended_same
      (over raised_rx (λ y. same refl)
      (over (offered_all (passed m bytes last_bits)) (all_offered_same (passed m bytes last_bits))
      (over (with_rx_last_bits last_bits) (λ y. same refl)
      (same
      (ap (λ (t : Bool). with_frame_errors (crc_fails m bytes last_bits) (bit_set (register_at m 0x22) 0 && t) (rx_stopped (R m))) (parities_same m (complete_bytes bytes last_bits) parities)
      ∙ (over (with_frame_errors (crc_fails m bytes last_bits) (parity_fails m bytes parities last_bits)) (λ y. same refl) (pick (t_stop_rx m) {x = timer_stopped m} (same refl) (same refl))).is))))))

  pub lost_receiving_same : (bytes : List ℕ) (last_bits : ℕ) (m : Machine) → lost_receiving bytes last_bits (R m) ≡ lost_receiving bytes last_bits m
  unfolding lost_receiving
  lost_receiving_same bytes last_bits m = lost_by_held (passed m bytes last_bits) (R m) m refl

  -- Clocks, where what is stored from 010h on is stored alike in both.
  module _ (stores : (l : List ℕ) (a : ℕ) (bs : List ℕ) → 0x10 ≤ a → g (stored_from l a bs) ≡ stored_from (g l) a bs) where
    timer_same : (m : Machine) → S (timer_clock (R m)) (timer_clock m)
    unfolding timer_clock
    timer_same m =
        pick m.timer.running
        (pick (ltb (m.timer.phase + 1) (2 ^ m.timer.prescaler)) (same refl) (pick (ltb 1 m.timer.value) (same refl) (same refl)))
        (same refl)

    end_same : (a : ℕ) (bs : List ℕ) (m : Machine) → 0x10 ≤ a → S (programmed a bs (R m)) (programmed a bs m)
    end_same a bs m above =
        let stored : S (batch_stored a bs (R m)) (batch_stored a bs m) =
        same (ap (λ (l : List ℕ). with_command (batch_stored a bs m).command (with_edition e (with_eeprom l m))) (sym (stores m.eeprom a bs above))) in
        pick (eqb (length m.held) 0) (over raised_tx (λ y. same refl) stored)
        (same (ap settled stored.is ∙ (settled_same (batch_stored a bs m) tt).is))

    reached_same : (m : Machine) → above m.command ≡ true → S (reached (R m)) (reached m)
    unfolding reached
    reached_same m h =
        over (command_clocked m.command)
        (λ y.
        while_programming_lem (λ (f : Machine → Machine). S (f (R y)) (f y)) programming_clocked (λ n. n) m.command
        (λ a bs left is. pick (leb left 1) (end_same a bs y (leb-true 0x10 a (sym (ap above is) ∙ h))) (same refl)) (same refl))
        (timer_same m)

    clock_same : (m : Machine) → above m.command ≡ true → S (clock (R m)) (clock m)
    unfolding clock
    clock_same m h = pick (stands_still m) (same refl) (over (with_modes _) (λ y. same refl) (reached_same m h))

    clocks_same : (n : ℕ) (m : Machine) → above m.command ≡ true → S (clocks n (R m)) (clocks n m)
    unfolding clocks
    clocks_same zero m h = same refl
    clocks_same (suc n) m h = same (ap (clocks n) (clock_same m h).is ∙ (clocks_same n (clock m) (clock_goes m h).above_still).is)

    pub advanced_same : (n : ℕ) (m : Machine) → above m.command ≡ true → S (advanced n (R m)) (advanced n m)
    unfolding advanced
    advanced_same n m h = alerted_same m (clocks_same n m h)
