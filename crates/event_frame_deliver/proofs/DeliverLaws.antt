-- Laws of a delivery: what a frame does, by what the code judges of it, and that its bytes are bytes.
-- Assumes nothing.
use Prim.Native.Nat.{ℕ}
use mathlib.Core.Path.{◌≡◌, refl, ap, ◌∙◌}
use mathlib.Core.Bool.{Bool, true, false, or-true, or-false}
use mathlib.Core.List.{List}
use Rattle.machine.specs.State.{Machine, with_rx_last_bits}
use Rattle.machine.specs.Fifo.{offered_all, lost_of}
use Rattle.machine.specs.Commands.{ended}
use Rattle.machine.specs.Frames.{passed, crc_fails, parity_fails, with_frame_errors, rx_stopped, received, lost_receiving}
use Rattle.machine.specs.Events.{delivered}
use Rattle.machine.specs.Timer.{t_stop_rx, timer_stopped}
use Rattle.machine.proofs.Cases.{either}
use Rattle.machine.proofs.Lost.{lost_by_held}
use Rattle.state.specs.View.{raised, marked}
use Rattle.state_fifo.specs.Alerts.{alerts_of, alerted_from}
use Rattle.state_fifo.proofs.AlertLaws.{alerted_from_lem}
use Rattle.event_frame_deliver.specs.Judged.{error_bits, frame_errors}

-- The errors of a frame are set beside what they were.
frame_marked : (crc parity : Bool) (m : Machine) → marked (error_bits crc parity) m ≡ with_frame_errors crc parity m
frame_marked true true m = simp or-true
frame_marked true false m = simp (or-true, or-false)
frame_marked false true m = simp (or-true, or-false)
frame_marked false false m = simp or-false

-- A frame received, by what was judged of it before the timer was stopped.
pub frame_received : (bytes parities : List ℕ) (last_bits : ℕ) (m : Machine) (errors : ℕ) (front : List ℕ) →
    errors ≡ frame_errors bytes parities last_bits m → front ≡ passed m bytes last_bits →
    ended (raised 0x08 (offered_all front (with_rx_last_bits last_bits (marked errors (rx_stopped m))))) ≡ received bytes parities last_bits m
unfolding received
frame_received bytes parities last_bits m errors front judged passes =
    let crc = crc_fails m bytes last_bits in
    let parity = parity_fails m bytes parities last_bits in
    ap (λ (l : List ℕ). ended (raised 0x08 (offered_all l (with_rx_last_bits last_bits (marked errors (rx_stopped m)))))) passes
    ∙ ap (λ (n : Machine). ended (raised 0x08 (offered_all (passed m bytes last_bits) (with_rx_last_bits last_bits n))))
    (ap (λ (n : ℕ). marked n (rx_stopped m)) judged ∙ frame_marked crc parity (rx_stopped m))

-- How many of its bytes are lost: what comes before the offer moves no held byte.
pub frame_loses : (bytes : List ℕ) (last_bits : ℕ) (m : Machine) (errors : ℕ) (front : List ℕ) → front ≡ passed m bytes last_bits →
    lost_of front (with_rx_last_bits last_bits (marked errors (rx_stopped m))) ≡ lost_receiving bytes last_bits m
unfolding lost_receiving
frame_loses bytes last_bits m errors front passes =
    ap (λ (l : List ℕ). lost_of l (with_rx_last_bits last_bits (marked errors (rx_stopped m)))) passes
    ∙ lost_by_held (passed m bytes last_bits) (with_rx_last_bits last_bits (marked errors (rx_stopped m))) m (either (λ (x : Machine). x.held ≡ m.held) (t_stop_rx m) (timer_stopped m) m refl refl)

-- A delivery, by the alerts before it.
pub frame_delivered : (bytes parities : List ℕ) (last_bits : ℕ) (m : Machine) (before : ℕ) → before ≡ alerts_of m →
    alerted_from before (received bytes parities last_bits m) ≡ delivered bytes parities last_bits m
unfolding delivered
frame_delivered bytes parities last_bits m before is =
    ap (λ (n : ℕ). alerted_from n (received bytes parities last_bits m)) is ∙ alerted_from_lem m (received bytes parities last_bits m)
