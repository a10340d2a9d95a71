-- Manual 3: the FIFO and its alerts. The FIFO is the list of the bytes that it holds, the oldest ahead.
-- Assumes nothing.
use Rattle.std.specs.Prelude.{ℕ, ◌+◌, ◌-◌, ◌%◌, min, Bool, true, false, cond, not, ◌&&◌, ◌||◌, List, [], ◌∷◌, ◌++◌, ltb, leb, length, get_or}
use Rattle.machine.specs.State.{Machine, Interrupts, Errors, with_held, with_lost_sum, with_errors, with_requests, five_flags}

-- A register of 10h-2Fh as it is stored.
abbrev pub register_at : Machine → ℕ → ℕ
register_at m address = get_or m.registers (address - 0x10) 0

abbrev pub with_fifo_ovfl : Bool → Machine → Machine
with_fifo_ovfl flag m =
    let e = m.status.errors in with_errors (five_flags e.key_err e.access_err flag e.crc_err e.parity_err) m

-- Manual 3.4: one more byte is lost, and FIFOOvfl is set. The sum stays at 65,535.
abbrev pub one_lost : Machine → Machine
one_lost m = with_lost_sum (min 65_535 (m.lost_sum + 1)) (with_fifo_ovfl true m)

-- Manual 3.1, 3.2: a byte joins the end; with 64 there it is refused, and lost.
unfoldable pub offered : ℕ → Machine → Machine
offered b m = cond (ltb (length m.held) 64) (with_held (m.held ++ b ∷ []) m) (one_lost m)

-- Bytes are offered in order.
unfoldable pub offered_all : List ℕ → Machine → Machine
offered_all [] m = m
offered_all (b ∷ bs) m = offered_all bs (offered b m)

-- How many bytes an offer loses (manual 3.4): of one byte, that byte or none; of bytes in order, what each of them at its turn loses.
abbrev pub lost_at : Machine → ℕ
lost_at m = cond (ltb (length m.held) 64) 0 1

unfoldable pub lost_of : List ℕ → Machine → ℕ
lost_of [] m = 0
lost_of (b ∷ bs) m = lost_at m + lost_of bs (offered b m)

-- A read of an empty FIFO answers 00h and removes nothing (manual 3.1).
abbrev pub first_of : List ℕ → ℕ
first_of [] = 0
first_of (b ∷ bs) = b

abbrev pub rest_of : List ℕ → List ℕ
rest_of [] = []
rest_of (b ∷ bs) = bs

-- Flush empties the FIFO; only it and a start clear FIFOOvfl and the sum of lost bytes.
abbrev pub flushed : Machine → Machine
flushed m = with_lost_sum 0 (with_fifo_ovfl false (with_held [] m))

-- FIFOLevel (29h) bits 5-0.
abbrev pub water_level : Machine → ℕ
water_level m = register_at m 0x29 % 64

-- Manual 3.3: LoAlert means that no more than WaterLevel bytes are held, HiAlert that no more than WaterLevel places are free.
unfoldable pub lo_alert : Machine → Bool
lo_alert m = leb (length m.held) (water_level m)

unfoldable pub hi_alert : Machine → Bool
hi_alert m = leb (64 - length m.held) (water_level m)

-- An alert that an event turns on is requested (manual 4.1): the machine after an event, from before and after it.
unfoldable pub alerted : Machine → Machine → Machine
alerted before after =
    with_requests
    (record {
      timer = after.status.requests.timer;
      tx = after.status.requests.tx;
      rx = after.status.requests.rx;
      idle = after.status.requests.idle;
      hi_alert = after.status.requests.hi_alert || (not (hi_alert before) && hi_alert after);
      lo_alert = after.status.requests.lo_alert || (not (lo_alert before) && lo_alert after);
    })
    after
