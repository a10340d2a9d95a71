-- Manual 7.7 to 7.9, and 8: Transmit, Receive and Transceive; the frame that a take sends and the one that a delivery receives.
-- Assumes nothing.
use Rattle.std.specs.Prelude.{ℕ, ◌+◌, ◌-◌, ◌/◌, ◌%◌, Bool, true, false, cond, not, ◌&&◌, ◌||◌, List, [], ◌∷◌, ◌++◌, ltb, eqb, length, take, drop}
use Rattle.std.specs.Int.Count.{ones}
use Rattle.bits.specs.Bits.{bit, bit_set}
use Rattle.crc.specs.Checksum.{crc8_bit, checksum}
use Rattle.machine.specs.State.{Machine, Command, with_command, with_held, with_errors, with_rx_last_bits, five_flags}
use Rattle.machine.specs.State.{Idle, WriteE2, ReadE2, LoadConfig, LoadKeyE2, LoadKey, CalcCRC, Transmit, Receive, TransceiveSending, TransceiveReceiving}
use Rattle.machine.specs.Fifo.{register_at, offered_all, lost_of}
use Rattle.machine.specs.Timer.{t_start_tx_begin, t_start_tx_end, t_stop_rx, timer_started, timer_stopped}
use Rattle.machine.specs.Commands.{code_of, raised_tx, raised_rx, ended}

-- What it is of a command that is sending (Transmit, and Transceive until its frame is taken), of one that is receiving (Receive, and Transceive from
-- then on), and of any other.
abbrev pub by_frames : {X : Type 0} → X → X → X → Command → X
by_frames sends receives other Idle = other
by_frames sends receives other (WriteE2 w) = other
by_frames sends receives other ReadE2 = other
by_frames sends receives other LoadConfig = other
by_frames sends receives other LoadKeyE2 = other
by_frames sends receives other LoadKey = other
by_frames sends receives other CalcCRC = other
by_frames sends receives other Transmit = sends
by_frames sends receives other Receive = receives
by_frames sends receives other TransceiveSending = sends
by_frames sends receives other TransceiveReceiving = receives

abbrev pub sending : Command → Bool
sending c = by_frames true false false c

abbrev pub receiving : Command → Bool
receiving c = by_frames false true false c

-- A frame waits to be taken: a command is sending, and a byte is held.
abbrev pub frame_waits : Machine → Bool
frame_waits m = sending m.command && not (eqb (length m.held) 0)

-- A frame's checksum goes by 22h-24h of that moment (manual 8.3). With CRC8 it is one byte, else two, of which the low one is sent first.
abbrev pub crc_width : Machine → ℕ
crc_width m = cond (crc8_bit (register_at m 0x22)) 1 2

abbrev pub crc_value : Machine → List ℕ → ℕ
crc_value m bytes = checksum (register_at m 0x22) (register_at m 0x23) (register_at m 0x24) bytes

abbrev pub crc_bytes : Machine → List ℕ → List ℕ
crc_bytes m bytes = cond (crc8_bit (register_at m 0x22)) (crc_value m bytes ∷ []) (crc_value m bytes % 256 ∷ crc_value m bytes / 256 ∷ [])

-- TxLastBits: BitFraming (0Fh) bits 2-0.
abbrev pub tx_last_bits : Machine → ℕ
tx_last_bits m = m.bit_framing % 8

-- The frame sent (manual 8.1): what is held, with its checksum where TxCRCEn (22h bit 2) is set and no last bits are.
abbrev pub frame_sent : Machine → List ℕ
frame_sent m = m.held ++ cond (bit_set (register_at m 0x22) 2 && eqb (tx_last_bits m) 0) (crc_bytes m m.held) []

-- A frame's beginning, and after it its end; each starts the timer where its bit of 2Bh is set (manual 5.1).
abbrev pub tx_begun : Machine → Machine
tx_begun m = cond (t_start_tx_begin m) (timer_started m) m

abbrev pub tx_ended : Machine → Machine
tx_ended m = cond (t_start_tx_end m) (timer_started m) m

-- After the frame Transmit ends, and Transceive receives (manual 7.7, 7.9).
abbrev pub after_sending : Command → Machine → Machine
after_sending c m = cond (sending c && eqb (code_of c) 0x1E) (with_command TransceiveReceiving m) (ended m)

-- A take empties the FIFO.
unfoldable pub sent : Machine → Machine
sent m = after_sending m.command (raised_tx (tx_ended (tx_begun (with_held [] m))))

-- Manual 8.4: a byte and its parity bit have an odd number of ones together where ParityOdd (22h bit 1) is set, and else an even number.
abbrev pub parity_wrong : Machine → ℕ → ℕ → Bool
parity_wrong m b p = not (eqb ((ones b + p) % 2) (bit (register_at m 0x22) 1))

unfoldable pub any_parity_wrong : Machine → List ℕ → List ℕ → Bool
any_parity_wrong m [] ps = false
any_parity_wrong m (b ∷ bs) [] = false
any_parity_wrong m (b ∷ bs) (p ∷ ps) = parity_wrong m b p || any_parity_wrong m bs ps

-- With last bits, the last byte is not complete.
abbrev pub complete_bytes : List ℕ → ℕ → List ℕ
complete_bytes bytes last_bits = cond (eqb last_bits 0) bytes (take (length bytes - 1) bytes)

abbrev pub parity_fails : Machine → List ℕ → List ℕ → ℕ → Bool
parity_fails m bytes parities last_bits = bit_set (register_at m 0x22) 0 && any_parity_wrong m (complete_bytes bytes last_bits) parities

-- Manual 8.3: with RxCRCEn (22h bit 3) a frame ends in its checksum, which is compared and never offered. A frame that is too short to have one, or has
-- last bits, is offered as it is, with CRCErr.
abbrev pub has_crc : Machine → List ℕ → ℕ → Bool
has_crc m bytes last_bits = bit_set (register_at m 0x22) 3 && (not (ltb (length bytes) (crc_width m)) && eqb last_bits 0)

abbrev pub passed : Machine → List ℕ → ℕ → List ℕ
passed m bytes last_bits = cond (has_crc m bytes last_bits) (take (length bytes - crc_width m) bytes) bytes

unfoldable pub same_bytes : List ℕ → List ℕ → Bool
same_bytes [] [] = true
same_bytes [] (y ∷ ys) = false
same_bytes (x ∷ xs) [] = false
same_bytes (x ∷ xs) (y ∷ ys) = eqb x y && same_bytes xs ys

abbrev pub crc_fails : Machine → List ℕ → ℕ → Bool
crc_fails m bytes last_bits =
    bit_set (register_at m 0x22) 3
    && cond (has_crc m bytes last_bits) (not (same_bytes (drop (length bytes - crc_width m) bytes) (crc_bytes m (passed m bytes last_bits)))) true

abbrev pub with_frame_errors : Bool → Bool → Machine → Machine
with_frame_errors crc parity m =
    let e = m.status.errors in with_errors (five_flags e.key_err e.access_err e.fifo_ovfl (e.crc_err || crc) (e.parity_err || parity)) m

abbrev pub rx_stopped : Machine → Machine
rx_stopped m = cond (t_stop_rx m) (timer_stopped m) m

-- A delivery (manual 8.2): the frame's bytes go to the FIFO, Rx is requested, and the command ends.
unfoldable pub received : List ℕ → List ℕ → ℕ → Machine → Machine
received bytes parities last_bits m =
    ended
    (raised_rx
    (offered_all (passed m bytes last_bits)
    (with_rx_last_bits last_bits (with_frame_errors (crc_fails m bytes last_bits) (parity_fails m bytes parities last_bits) (rx_stopped m)))))

-- How many of its bytes the FIFO loses; a checksum that is dropped is not offered (manual 3.4).
unfoldable pub lost_receiving : List ℕ → ℕ → Machine → ℕ
lost_receiving bytes last_bits m = lost_of (passed m bytes last_bits) m
