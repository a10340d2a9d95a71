-- Register writes, clocks and calls keep machine and journal in agreement.
-- Assumes nothing.
use mathlib.Core.Path.{◌≡◌, refl, sym, ap, ◌∙◌, subst}
use mathlib.Core.Bool.{Bool, true, false, cond, ◌&&◌, true≢false, false≢true}
use mathlib.Core.List.{List, [], ◌∷◌, ◌++◌, map}
use Prim.Native.Nat.{ℕ, zero, suc, ◌-◌, ◌%◌}
use lib.Dec.{ltb, leb, eqb}
use lib.ListN.{length, drop, set}
use borrow.Author.Tests.{eqb-true}
use Rattle.bits.specs.Bits.{bit_set}
use Rattle.crc.specs.Checksum.{preset_of, after_bytes}
use Rattle.machine.specs.State.{Machine, Checksum, Command, Idle, WriteE2, ReadE2, LoadConfig, LoadKeyE2, LoadKey, CalcCRC, Transmit, Receive, TransceiveSending, TransceiveReceiving, addressing, ready, programming, with_command, with_held, with_enables, with_requests, with_modes, with_bit_framing, with_registers, with_rx_last_bits}
use Rattle.machine.specs.Fifo.{register_at, offered, offered_all, flushed, rest_of, alerted}
use Rattle.machine.specs.Timer.{timer_started, timer_stopped, timer_clock}
use Rattle.machine.specs.Commands.{programs, with_key_err, cleared_errors, checksum_started, command_started, command_written, ended, settled, raised_tx, raised_rx}
use Rattle.machine.specs.Power.{modes_written, modes_clocked, stands_still}
use Rattle.machine.specs.Registers.{page_written, control_written, interrupts_written, register_written}
use Rattle.machine.specs.Events.{batch_stored, programmed, command_clocked, reached, ends_programming, clock, clocks, started}
use Rattle.machine.proofs.Cases.{either, while_programming_lem}
use Rattle.journal.specs.Entries as e
use Rattle.journal.specs.Entries.{Entry, Byte, latest_from, no_checksum, Memory, memory_from}
use Rattle.journal.specs.Journal.{Journal, entered, offer, offer_all, leave, leave_all, begun, enter_command, enter_register, enter_settled, enter_written, enter_end, enter_clock_of, enter_clock, enter_clocks}
use Rattle.journal.specs.Demand.{batch, waiting, checksum_of, stored_bytes}
use Rattle.journal.proofs.Folds.{latest_append, memory_append}
use Rattle.journal.proofs.Moves.{Moves, moves_both, moves_mark, grows_all, quietly_all, quietly_leave}
use Rattle.machine.specs.Frames.{sending, receiving, sent, received, after_sending, tx_begun, tx_ended, passed, crc_fails, parity_fails, with_frame_errors}
use Rattle.machine.specs.Timer.{t_start_tx_begin, t_start_tx_end, t_stop_rx}
use Rattle.journal.proofs.Agreement.{leave_held, Agrees, AgreesWith, PlaceIs, KeyClear, quietly, offered_agrees, offers_agree, programmed_agrees, commanded}
use Rattle.journal.proofs.Steps.{offered_idle, settle_agrees}
use Rattle.machine.proofs.Clock.{timer_any, timer_command}

-- A command that does not program has no latched bytes.
pub idle_latch : (c : Command) → programs c ≡ false → waiting c ≡ []
idle_latch c p = while_programming_lem (λ (bs : List Byte). bs ≡ []) (λ a bs left. batch a bs) [] c (λ a bs left is. absurd (true≢false (sym (ap programs is) ∙ p))) refl

-- What holds of a machine under any command that does not program, with KeyErr as it is or clear, as CalcCRC begins, and as a command ends, holds after
-- the start of any code.
pub code_any : (P : Machine → Type 0) (code : ℕ) (m : Machine) → ((c : Command) → programs c ≡ false → P (with_command c m)) → ((c : Command) → programs c ≡ false → P (with_command c (with_key_err false m))) →
    P (with_command CalcCRC (checksum_started m)) → P (ended m) → P (command_started code m)
code_any P code m plain clears begins over =
    either P (eqb code 0x00) _ _ (plain Idle refl)
    (either P (eqb code 0x01) _ _ (plain (WriteE2 addressing) refl)
    (either P (eqb code 0x03) _ _ (plain ReadE2 refl)
    (either P (eqb code 0x07) _ _ (plain LoadConfig refl)
    (either P (eqb code 0x0B) _ _ (clears LoadKeyE2 refl)
    (either P (eqb code 0x12) _ _ begins
    (either P (eqb code 0x16) _ _ (plain Receive refl)
    (either P (eqb code 0x19) _ _ (clears LoadKey refl)
    (either P (eqb code 0x1A) _ _ (plain Transmit refl)
    (either P (eqb code 0x1E) _ _ (plain TransceiveSending refl)
    over)))))))))

-- Whatever a frame does to the timer.
pub tx_either : (P : Machine → Type 0) (x : Machine) → P x → P (timer_started x) → P (timer_started (timer_started x)) → P (tx_ended (tx_begun x))
tx_either P x p q r = begins (t_start_tx_begin x)
  where
    ends : (y : Machine) → P y → P (timer_started y) → P (tx_ended y)
    ends y u v = either P (t_start_tx_end y) (timer_started y) y v u

    begins : (t : Bool) → P (tx_ended (cond t (timer_started x) x))
    begins true = ends (timer_started x) q r
    begins false = ends x p q

-- A clock: where a power mode has hold only the modes change, and nothing is entered.
pub clock_either : (P : Machine → Journal → Type 0) (m : Machine) (j : Journal) → P (with_modes (modes_clocked false m.status.modes) m) j →
    P (with_modes (modes_clocked (ends_programming m.command) m.status.modes) (reached m)) (enter_clock_of m.command (timer_clock m) j) → P (clock m) (enter_clock m j)
unfolding clock
clock_either P m j stands reaches = go (stands_still m)
  where
    go : (t : Bool) →
        P (cond t (with_modes (modes_clocked false m.status.modes) m) (with_modes (modes_clocked (ends_programming m.command) m.status.modes) (reached m)))
        (cond t j (enter_clock_of m.command (timer_clock m) j))
    go true = stands
    go false = reaches

rest_drop : (h : List ℕ) → drop 1 h ≡ rest_of h
rest_drop [] = refl
rest_drop (b ∷ h) = refl

module _ (image : List ℕ) where
  -- Agreement as one type that does not compute, for choices among machines.
  record Kept (m : Machine) (j : Journal) : Type 0 where
    agrees : AgreesWith image m j

  -- A CalcCRC begins.
  begin_agrees : {h : List ℕ} {c : Command} {k : Checksum} {eeprom : List ℕ} {f : Bool} {j : Journal} (mode lsb msb : ℕ) → Agrees image h c k eeprom f j → waiting c ≡ [] →
      Agrees image h CalcCRC (record { register = preset_of mode lsb msb; mode = mode }) eeprom f (entered (e.calc_crc mode lsb msb) j)
  unfolding latest_from memory_from after_bytes
  begin_agrees {j = j} mode lsb msb a none =
      let x = e.calc_crc mode lsb msb in
      let memory : memory_from (record { image = image; bytes = [] }) (j.entries ++ x ∷ []) ≡ memory_from (record { image = image; bytes = [] }) j.entries = memory_append _ j.entries (x ∷ []) in
      record {
        same_held = a.same_held;
        moved = moves_both a.moved (moves_mark x (record { none_in = refl; none_out = refl; in_turn = λ n. tt }) j.held);
        same_checksum = ap checksum_of (latest_append no_checksum j.entries (x ∷ []));
        same_memory =
            record {
              finished = a.same_memory.finished;
              split = ap (λ (r : Memory). r.bytes) memory ∙ a.same_memory.split ∙ ap (λ (z : List e.Byte). a.same_memory.finished ++ z) none;
              stored = a.same_memory.stored ∙ ap (λ (r : Memory). stored_bytes r.image a.same_memory.finished) (sym memory);
            };
        same_place = tt;
        key_clear = tt;
        whole = a.whole;
      }

  -- A write to Command.
  module _ (m : Machine) (j : Journal) (a : AgreesWith image m j) (none : waiting m.command ≡ []) where
    abbrev Started : Machine → Type 0
    Started n = Kept n (begun n.command m j)

    plain : {c : Command} (f : Bool) → waiting c ≡ [] → PlaceIs c j.base j.count → KeyClear c f → Agrees image m.held c m.checksum m.eeprom f j
    plain f empty place clear = commanded image a (empty ∙ sym none) place clear

    start_agrees : (code : ℕ) → Started (command_started code (cleared_errors m))
    start_agrees code =
        either Started (eqb code 0x00) _ _ (record { agrees = plain _ refl tt tt })
        (either Started (eqb code 0x01) _ _ (record { agrees = plain _ refl tt tt })
        (either Started (eqb code 0x03) _ _ (record { agrees = plain _ refl tt tt })
        (either Started (eqb code 0x07) _ _ (record { agrees = plain _ refl tt tt })
        (either Started (eqb code 0x0B) _ _ (record { agrees = plain _ refl tt tt })
        (either Started (eqb code 0x12) _ _ (record { agrees = begin_agrees (register_at m 0x22) (register_at m 0x23) (register_at m 0x24) a none })
        (either Started (eqb code 0x16) _ _ (record { agrees = plain _ refl tt tt })
        (either Started (eqb code 0x19) _ _ (record { agrees = plain false refl tt refl })
        (either Started (eqb code 0x1A) _ _ (record { agrees = plain _ refl tt tt })
        (either Started (eqb code 0x1E) _ _ (record { agrees = plain _ refl tt tt })
        (record { agrees = plain _ refl tt tt }))))))))))

  command_agrees : (v : ℕ) (m : Machine) (j : Journal) → AgreesWith image m j → AgreesWith image (command_written v m) (enter_command v m j)
  unfolding command_written
  command_agrees v m j a = go (programs m.command) refl
    where
      next : Machine
      next = command_started (v % 64) (cleared_errors m)

      go : (t : Bool) → programs m.command ≡ t → AgreesWith image (cond t m next) (cond t j (begun (cond t m next).command m j))
      go true is = a
      go false is = (start_agrees m j a (idle_latch m.command is) (v % 64)).agrees

  -- A flush.
  flush_agrees : (m : Machine) (j : Journal) → AgreesWith image m j → AgreesWith image (flushed m) (leave_all (e.left e.flush) e.flushed j)
  unfolding leave_all latest_from memory_from
  flush_agrees m j a =
      quietly image a
      (quietly_all (e.left e.flush) e.flushed (record { none_in = λ b. refl; one_out = λ b. refl; in_turn = λ n b h. h }) (record { none_in = refl; none_out = refl; in_turn = λ n. tt })
      (λ b. record { no_checksum_lem = λ l. refl; no_memory = λ r. refl }) (record { no_checksum_lem = λ l. refl; no_memory = λ r. refl }) j)
      refl refl a.same_place a.key_clear

  control_agrees : (v : ℕ) (m : Machine) (j : Journal) → AgreesWith image m j → AgreesWith image (control_written v m) (cond (bit_set v 0) (leave_all (e.left e.flush) e.flushed j) j)
  control_agrees v m j a = go (bit_set v 0) (bit_set v 2) (bit_set v 1)
    where
      go : (f s t : Bool) →
          let flushes = cond f (flushed m) m in
          let stops = cond s (timer_stopped flushes) flushes in
          let starts = cond t (timer_started stops) stops in
          AgreesWith image (with_modes (modes_written (programs m.command) v m.status.modes) starts) (cond f (leave_all (e.left e.flush) e.flushed j) j)
      go true true true = flush_agrees m j a
      go true true false = flush_agrees m j a
      go true false true = flush_agrees m j a
      go true false false = flush_agrees m j a
      go false true true = a
      go false true false = a
      go false false true = a
      go false false false = a

  -- A write to any register.
  pub register_agrees : (r v : ℕ) (m : Machine) (j : Journal) → AgreesWith image m j → AgreesWith image (register_written r v m) (enter_register r v m j)
  unfolding register_written
  register_agrees r v m j a = go (eqb (r % 8) 0) (eqb r 0x01) (eqb r 0x02) (eqb r 0x06) refl (eqb r 0x07) refl (eqb r 0x09) refl (eqb r 0x0F) (leb 0x10 r && ltb r 0x30)
    where
      control : Journal
      control = cond (bit_set v 0) (leave_all (e.left e.flush) e.flushed j) j

      other : (n : ℕ) (x : Machine) → r ≡ n → eqb n 0x09 ≡ false → AgreesWith image x j → AgreesWith image x (cond (eqb r 0x09) control j)
      other n x is differs b = subst (λ (t : Bool). AgreesWith image x (cond t control j)) (sym (ap (λ (z : ℕ). eqb z 0x09) is ∙ differs)) b

      go : (t0 t1 t2 t6 : Bool) → eqb r 0x06 ≡ t6 → (t7 : Bool) → eqb r 0x07 ≡ t7 → (t9 : Bool) → eqb r 0x09 ≡ t9 → (t_f t_r : Bool) →
          AgreesWith image
          (cond t0 (page_written v m)
          (cond t1 (command_written v m)
          (cond t2 (offered v m)
          (cond t6 (with_enables (interrupts_written v m.status.enables) m)
          (cond t7 (with_requests (interrupts_written v m.status.requests) m)
          (cond t9 (control_written v m)
          (cond t_f (with_bit_framing v m)
          (cond t_r (with_registers (set m.registers (r - 0x10) v) m)
          m))))))))
          (cond t0 j (cond t1 (enter_command v m j) (cond t2 (offer v j) (cond (eqb r 0x09) control j))))
      go true t1 t2 t6 e6 t7 e7 t9 e9 t_f t_r = a
      go false true t2 t6 e6 t7 e7 t9 e9 t_f t_r = command_agrees v m j a
      go false false true t6 e6 t7 e7 t9 e9 t_f t_r = offered_agrees image v m j a
      go false false false true e6 t7 e7 t9 e9 t_f t_r = other 0x06 m (eqb-true r 0x06 e6) refl a
      go false false false false e6 true e7 t9 e9 t_f t_r = other 0x07 m (eqb-true r 0x07 e7) refl a
      go false false false false e6 false e7 true e9 t_f t_r = subst (λ (t : Bool). AgreesWith image (control_written v m) (cond t control j)) (sym e9) (control_agrees v m j a)
      go false false false false e6 false e7 false e9 true t_r = subst (λ (t : Bool). AgreesWith image (with_bit_framing v m) (cond t control j)) (sym e9) a
      go false false false false e6 false e7 false e9 false true = subst (λ (t : Bool). AgreesWith image m (cond t control j)) (sym e9) a
      go false false false false e6 false e7 false e9 false false = subst (λ (t : Bool). AgreesWith image m (cond t control j)) (sym e9) a

  -- A host write, with what the active command then does.
  pub written_agrees : (r v : ℕ) (m n : Machine) (j : Journal) → AgreesWith image m j → AgreesWith image (alerted n (settled (register_written r v m))) (enter_written r v m j)
  unfolding alerted enter_written
  written_agrees r v m n j a = settle_agrees image (register_written r v m) (enter_register r v m j) (register_agrees r v m j a)

  -- The timer moves no byte.
  pub timer_agrees : (m : Machine) (j : Journal) → AgreesWith image m j → AgreesWith image (timer_clock m) j
  timer_agrees m j a = timer_any (λ n. AgreesWith image n j) m a (λ t. a) (λ t. a)

  -- A programming ends.
  pub stored_agrees : (s left : ℕ) (bs : List ℕ) (m : Machine) (j : Journal) → m.command ≡ WriteE2 (programming s bs left) → AgreesWith image m j → AgreesWith image (batch_stored s bs m) j
  stored_agrees s left bs m j is a =
      programmed_agrees image m.held s left bs m.checksum m.eeprom m.status.errors.key_err j
      (subst (λ (c : Command). Agrees image m.held c m.checksum m.eeprom m.status.errors.key_err j) is a)

  end_agrees : (s left : ℕ) (bs : List ℕ) (m : Machine) (j : Journal) → m.command ≡ WriteE2 (programming s bs left) → AgreesWith image m j → AgreesWith image (programmed s bs m) (enter_end s bs m j)
  end_agrees s left bs m j is a =
      subst (λ (h : List ℕ). AgreesWith image (programmed s bs m) (cond (eqb (length h) 0) j (enter_settled (batch_stored s bs m) j))) (sym a.same_held) (go (eqb (length m.held) 0))
    where
      stored : AgreesWith image (batch_stored s bs m) j
      stored = stored_agrees s left bs m j is a

      go : (t : Bool) → AgreesWith image (cond t (raised_tx (batch_stored s bs m)) (settled (batch_stored s bs m))) (cond t j (enter_settled (batch_stored s bs m) j))
      go true = stored
      go false = settle_agrees image (batch_stored s bs m) j stored

  command_clocked_lem : (c : Command) (m : Machine) (j : Journal) → m.command ≡ c → AgreesWith image m j → AgreesWith image (command_clocked c m) (enter_clock_of c m j)
  command_clocked_lem Idle m j is a = a
  command_clocked_lem (WriteE2 addressing) m j is a = a
  command_clocked_lem (WriteE2 (ready s)) m j is a = a
  command_clocked_lem (WriteE2 (programming s bs left)) m j is a = go (leb left 1)
    where
      here : Agrees image m.held (WriteE2 (programming s bs left)) m.checksum m.eeprom m.status.errors.key_err j
      here = subst (λ (c : Command). Agrees image m.held c m.checksum m.eeprom m.status.errors.key_err j) is a

      go : (t : Bool) → AgreesWith image (cond t (programmed s bs m) (with_command (WriteE2 (programming s bs (left - 1))) m)) (cond t (enter_end s bs m j) j)
      go true = end_agrees s left bs m j is a
      go false = commanded image here refl here.same_place tt
  command_clocked_lem ReadE2 m j is a = a
  command_clocked_lem LoadConfig m j is a = a
  command_clocked_lem LoadKeyE2 m j is a = a
  command_clocked_lem LoadKey m j is a = a
  command_clocked_lem CalcCRC m j is a = a
  command_clocked_lem Transmit m j is a = a
  command_clocked_lem Receive m j is a = a
  command_clocked_lem TransceiveSending m j is a = a
  command_clocked_lem TransceiveReceiving m j is a = a

  -- A clock, and any number of them.
  pub clock_agrees : (m : Machine) (j : Journal) → AgreesWith image m j → AgreesWith image (clock m) (enter_clock m j)
  unfolding reached
  clock_agrees m j a = clock_either (AgreesWith image) m j a (command_clocked_lem m.command (timer_clock m) j (timer_command m) (timer_agrees m j a))

  pub clocks_agree : (n : ℕ) (m : Machine) (j : Journal) → AgreesWith image m j → AgreesWith image (clocks n m) (enter_clocks n m j)
  unfolding clocks enter_clocks
  clocks_agree zero m j a = a
  clocks_agree (suc n) m j a = clocks_agree n (clock m) (enter_clock m j) (clock_agrees m j a)

  -- A host read.
  pub read_agrees : (t : Bool) (m : Machine) (j : Journal) → AgreesWith image m j → AgreesWith image (cond t (alerted m (with_held (rest_of m.held) m)) m) (cond t (leave (e.left e.host) j) j)
  unfolding alerted latest_from memory_from
  read_agrees true m j a =
      quietly image a
      (quietly_leave (e.left e.host) (record { none_in = λ b. refl; one_out = λ b. refl; in_turn = λ n b h. h }) (λ b. record { no_checksum_lem = λ l. refl; no_memory = λ r. refl }) j)
      (leave_held image (e.left e.host) j ∙ ap (drop 1) a.same_held ∙ rest_drop m.held) refl a.same_place a.key_clear
  read_agrees false m j a = a

  -- A take.
  frame_all : (h : List ℕ) (c : Command) (k : Checksum) (eeprom : List ℕ) (f g : Bool) (j : Journal) (c' : Command) → waiting c' ≡ waiting c → PlaceIs c' j.base j.count → KeyClear c' g →
      Agrees image h c k eeprom f j → Agrees image [] c' k eeprom g (leave_all (e.left e.frame) e.took_frame j)
  unfolding leave_all latest_from memory_from
  frame_all h c k eeprom f g j c' wait place clear a =
      quietly image a
      (quietly_all (e.left e.frame) e.took_frame (record { none_in = λ b. refl; one_out = λ b. refl; in_turn = λ n b i. i }) (record { none_in = refl; none_out = refl; in_turn = λ n. tt })
      (λ b. record { no_checksum_lem = λ l. refl; no_memory = λ r. refl }) (record { no_checksum_lem = λ l. refl; no_memory = λ r. refl }) j)
      refl wait place clear

  sent_as : (c : Command) (m : Machine) (j : Journal) → m.command ≡ c → sending c ≡ true → AgreesWith image m j → AgreesWith image (after_sending c (raised_tx (tx_ended (tx_begun (with_held [] m))))) (leave_all (e.left e.frame) e.took_frame j)
  sent_as Transmit m j is s a =
      let b = frame_all m.held m.command m.checksum m.eeprom m.status.errors.key_err m.status.errors.key_err j Idle (sym (ap waiting is)) tt tt a in
      tx_either (λ y. AgreesWith image (ended (raised_tx y)) (leave_all (e.left e.frame) e.took_frame j)) (with_held [] m) b b b
  sent_as TransceiveSending m j is s a =
      let b = frame_all m.held m.command m.checksum m.eeprom m.status.errors.key_err m.status.errors.key_err j TransceiveReceiving (sym (ap waiting is)) tt tt a in
      tx_either (λ y. AgreesWith image (with_command TransceiveReceiving (raised_tx y)) (leave_all (e.left e.frame) e.took_frame j)) (with_held [] m) b b b
  sent_as Idle m j is s a = absurd (false≢true s)
  sent_as (WriteE2 w) m j is s a = absurd (false≢true s)
  sent_as ReadE2 m j is s a = absurd (false≢true s)
  sent_as LoadConfig m j is s a = absurd (false≢true s)
  sent_as LoadKeyE2 m j is s a = absurd (false≢true s)
  sent_as LoadKey m j is s a = absurd (false≢true s)
  sent_as CalcCRC m j is s a = absurd (false≢true s)
  sent_as Receive m j is s a = absurd (false≢true s)
  sent_as TransceiveReceiving m j is s a = absurd (false≢true s)

  pub sent_agrees : (m n : Machine) (j : Journal) → sending m.command ≡ true → AgreesWith image m j → AgreesWith image (alerted n (sent m)) (leave_all (e.left e.frame) e.took_frame j)
  unfolding alerted sent
  sent_agrees m n j s a = sent_as m.command m j refl s a

  -- A delivery.
  pub receiving_latch : (c : Command) → receiving c ≡ true → waiting c ≡ []
  receiving_latch Idle s = refl
  receiving_latch (WriteE2 w) s = absurd (false≢true s)
  receiving_latch ReadE2 s = refl
  receiving_latch LoadConfig s = refl
  receiving_latch LoadKeyE2 s = refl
  receiving_latch LoadKey s = refl
  receiving_latch CalcCRC s = refl
  receiving_latch Transmit s = refl
  receiving_latch Receive s = refl
  receiving_latch TransceiveSending s = refl
  receiving_latch TransceiveReceiving s = refl

  pub received_agrees : (bytes parities : List ℕ) (last_bits : ℕ) (m n : Machine) (j : Journal) → receiving m.command ≡ true → AgreesWith image m j →
      AgreesWith image (alerted n (received bytes parities last_bits m)) (offer_all (passed m bytes last_bits) j)
  unfolding alerted received
  received_agrees bytes parities last_bits m n j r a = go (t_stop_rx m)
    where
      idle : Agrees image m.held Idle m.checksum m.eeprom m.status.errors.key_err j
      idle = commanded image a (sym (receiving_latch m.command r)) tt tt

      frame : Machine → Machine
      frame x = with_rx_last_bits last_bits (with_frame_errors (crc_fails m bytes last_bits) (parity_fails m bytes parities last_bits) x)

      given : (x : Machine) → AgreesWith image (with_command Idle (frame x)) j → AgreesWith image (ended (raised_rx (offered_all (passed m bytes last_bits) (frame x)))) (offer_all (passed m bytes last_bits) j)
      given x b =
          subst (λ (z : Machine). AgreesWith image z (offer_all (passed m bytes last_bits) j)) (offered_idle (passed m bytes last_bits) (frame x))
          (offers_agree image (passed m bytes last_bits) (with_command Idle (frame x)) j b)

      go : (t : Bool) → AgreesWith image (ended (raised_rx (offered_all (passed m bytes last_bits) (frame (cond t (timer_stopped m) m))))) (offer_all (passed m bytes last_bits) j)
      go true = given (timer_stopped m) idle
      go false = given m idle

  -- A later start.
  pub started_agrees : (image' : List ℕ) (j : Journal) {h : List ℕ} {c : Command} {k : Checksum} {eeprom : List ℕ} {f : Bool} → length image' ≡ 512 → Agrees image h c k eeprom f j →
      AgreesWith image (started image') (leave_all (e.left e.start) (e.started image') j)
  unfolding started leave_all latest_from memory_from stored_bytes after_bytes
  started_agrees image' j size a =
      let g = grows_all (e.left e.start) (e.started image') (record { none_in = λ b. refl; one_out = λ b. refl; in_turn = λ n b i. i }) (record { none_in = refl; none_out = refl; in_turn = λ n. tt }) j in
      let latest : latest_from no_checksum (leave_all (e.left e.start) (e.started image') j).entries ≡ no_checksum = latest_append no_checksum (j.entries ++ map (e.left e.start) j.held) (e.started image' ∷ []) in
      let memory : memory_from (record { image = image; bytes = [] }) (leave_all (e.left e.start) (e.started image') j).entries ≡ record { image = image'; bytes = [] } =
      memory_append _ (j.entries ++ map (e.left e.start) j.held) (e.started image' ∷ []) in
      record {
        same_held = refl;
        moved = subst (λ (z : List Entry). Moves [] z []) (sym g.added) (moves_both a.moved g.moved);
        same_checksum = ap checksum_of latest;
        same_memory = record { finished = []; split = ap (λ (r : Memory). r.bytes) memory; stored = ap (λ (r : Memory). r.image) (sym memory) };
        same_place = tt;
        key_clear = tt;
        whole = size;
      }
