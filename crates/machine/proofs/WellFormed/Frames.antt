-- A frame that is sent and one that is received keep the machine well formed.
-- Assumes nothing.
use Prim.Native.Nat.{ℕ, ◌-◌, ◌/◌, ◌%◌, ◌≤◌}
use mathlib.Core.Path.{refl}
use mathlib.Core.List.{List, []}
use native.Mathlib.Omega.{arith}
use lib.Dec.{eqb}
use lib.ListN.{length}
use borrow.Author.Tests.{lt-ltb}
use Rattle.bits.specs.Bits.{Bytes}
use Rattle.bits.proofs.Bytes.{bytes_take}
use Rattle.machine.specs.State.{Machine, Command, Idle, WriteE2, ReadE2, LoadConfig, LoadKeyE2, LoadKey, CalcCRC, Transmit, Receive, TransceiveSending, TransceiveReceiving, with_held, with_rx_last_bits}
use Rattle.machine.specs.Fifo.{offered_all}
use Rattle.machine.specs.Timer.{t_start_tx_begin, t_start_tx_end, t_stop_rx, timer_started, timer_stopped}
use Rattle.machine.specs.Commands.{raised_tx, raised_rx}
use Rattle.machine.specs.Frames.{crc_width, tx_begun, tx_ended, after_sending, sent, parity_fails, has_crc, passed, crc_fails, with_frame_errors, rx_stopped, received}
use Rattle.machine.proofs.Cases.{either}
use Rattle.machine.proofs.WellFormed.Parts.{Almost, Good, both, each, new_bits, new_command}
use Rattle.machine.proofs.WellFormed.Timer.{started_almost, stopped_almost}
use Rattle.machine.proofs.WellFormed.Fifo.{no_bytes, emptied, all_offered, ended_good}

-- After the frame the machine receives or is idle, and either lets bytes wait.
after_good : (c : Command) (m : Machine) → Almost m → Good (after_sending c m)
after_good TransceiveSending m a = (new_command a TransceiveReceiving refl no_bytes, a.held.fits)
after_good Idle m a = ended_good m a
after_good (WriteE2 w) m a = ended_good m a
after_good ReadE2 m a = ended_good m a
after_good LoadConfig m a = ended_good m a
after_good LoadKeyE2 m a = ended_good m a
after_good LoadKey m a = ended_good m a
after_good CalcCRC m a = ended_good m a
after_good Transmit m a = ended_good m a
after_good Receive m a = ended_good m a
after_good TransceiveReceiving m a = ended_good m a

-- A take empties the FIFO, and may start the timer twice.
pub sent_good : (m : Machine) → Almost m → Good (sent m)
unfolding sent
sent_good m a =
    let empty = with_held [] m in
    let begun = tx_begun empty in
    let e : Almost empty = emptied m a in
    let b : Almost begun = either Almost (t_start_tx_begin empty) (timer_started empty) empty (started_almost empty e) e in
    let f : Almost (tx_ended begun) = either Almost (t_start_tx_end begun) (timer_started begun) begun (started_almost begun b) b in
    after_good m.command (raised_tx (tx_ended begun)) f

-- The bytes that pass, without their checksum or whole, are bytes.
passed_bytes : (m : Machine) (bytes : List ℕ) (last_bits : ℕ) → Bytes bytes → Bytes (passed m bytes last_bits)
passed_bytes m bytes last_bits w = either Bytes (has_crc m bytes last_bits) _ bytes (bytes_take (length bytes - crc_width m) bytes w) w

-- A delivery may stop the timer, offers its bytes and ends.
pub received_good : (bytes parities : List ℕ) (last_bits : ℕ) (m : Machine) → Bytes bytes → last_bits ≤ 7 → Almost m → Good (received bytes parities last_bits m)
unfolding received
received_good bytes parities last_bits m w few a =
    let heard = with_rx_last_bits last_bits (with_frame_errors (crc_fails m bytes last_bits) (parity_fails m bytes parities last_bits) (rx_stopped m)) in
    let stopped = rx_stopped m in
    let s : Almost stopped = either Almost (t_stop_rx m) (timer_stopped m) m (stopped_almost m a) a in
    let (page, old) = each (eqb (stopped.page / 8 % 16) 0) _ s.bits in
    let h : Almost heard = new_bits s stopped.page last_bits (both page (lt-ltb last_bits 8 (omega arith))) in
    let frame = passed m bytes last_bits in
    ended_good (raised_rx (offered_all frame heard)) (all_offered frame heard (passed_bytes m bytes last_bits w) h)
