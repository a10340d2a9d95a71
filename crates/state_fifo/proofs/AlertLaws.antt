-- Laws of the alerts: those that are new make the requests that an event's end sets.
-- Assumes nothing.
use Rattle.std.proofs.Common.{◌≡◌, ℕ, ◌+◌, ◌-◌, ◌*◌, Bool, true, false, not, ◌&&◌, ◌||◌, leb, length, refl, sym, ap, ◌∙◌}
use mathlib.Core.Bool.{or-true, or-false}
use lib.Bits.{bit_and}
use Rattle.machine.specs.State.{Machine, with_requests}
use Rattle.machine.specs.Fifo.{water_level, lo_alert, hi_alert, alerted}
use Rattle.machine.specs.Registers.{flag}
use Rattle.state.specs.View.{at, held_count, raised, view, view_of}
use Rattle.state.specs.Parts.{state_registers}
use Rattle.state.specs.declared.Chip.{Chip}
use Rattle.state.proofs.RingLaws.{held_length}
use Rattle.state_fifo.specs.Alerts.{alert_bits, alerts_of, alerted_from}

-- The alerts that are new, as bits.
fresh_bits : (hi lo hi' lo' : Bool) → bit_and (2 * flag hi' + flag lo') (255 - (2 * flag hi + flag lo)) ≡ 2 * flag (not hi && hi') + flag (not lo && lo')
fresh_bits true true true true = refl
fresh_bits true true true false = refl
fresh_bits true true false true = refl
fresh_bits true true false false = refl
fresh_bits true false true true = refl
fresh_bits true false true false = refl
fresh_bits true false false true = refl
fresh_bits true false false false = refl
fresh_bits false true true true = refl
fresh_bits false true true false = refl
fresh_bits false true false true = refl
fresh_bits false true false false = refl
fresh_bits false false true true = refl
fresh_bits false false true false = refl
fresh_bits false false false true = refl
fresh_bits false false false false = refl

-- Requests of such bits.
abbrev asked : Bool → Bool → Machine → Machine
asked hi lo m =
    with_requests
    (record {
      timer = m.status.requests.timer;
      tx = m.status.requests.tx;
      rx = m.status.requests.rx;
      idle = m.status.requests.idle;
      hi_alert = m.status.requests.hi_alert || hi;
      lo_alert = m.status.requests.lo_alert || lo;
    })
    m

raised_bits : (hi lo : Bool) (m : Machine) → raised (2 * flag hi + flag lo) m ≡ asked hi lo m
raised_bits true true m = simp or-true
raised_bits true false m = simp (or-true, or-false)
raised_bits false true m = simp (or-true, or-false)
raised_bits false false m = simp or-false

-- From the alerts before an event.
pub alerted_from_lem : (b m : Machine) → alerted_from (alerts_of b) m ≡ alerted b m
unfolding alerted lo_alert hi_alert
alerted_from_lem b m =
    let n = length b.held in
    let n' = length m.held in
    let w = water_level b in
    let w' = water_level m in
    ap (λ (k : ℕ). raised k m) (fresh_bits (leb (64 - n) w) (leb n w) (leb (64 - n') w') (leb n' w'))
    ∙ raised_bits (not (leb (64 - n) w) && leb (64 - n') w') (not (leb n w) && leb n' w') m

-- Nothing that happens requests nothing.
never : (b : Bool) → (not b && b) ≡ false
never true = refl
never false = refl

pub alerted_same : (m : Machine) → alerted m m ≡ m
unfolding alerted
alerted_same m = simp (never (hi_alert m), never (lo_alert m), or-false)

-- The alerts go by how many bytes are held, and so are the same whatever the slots are.
pub alerts_any : (of c : Chip) → alerts_of (view of) ≡ alerts_of (view (state_registers of c))
unfolding view_of
alerts_any of c =
    let read = at of.state 13 in
    let count = held_count read (at of.state 14) in
    ap (λ (n : ℕ). alert_bits n (water_level (view of))) (held_length of.slots read count ∙ sym (held_length c.slots read count))
