-- A write to any register keeps the machine well formed, but for the waiting bytes that the active command then takes.
-- Assumes nothing.
use Prim.Native.Nat.{ℕ, ◌+◌, ◌-◌, ◌*◌, ◌/◌, ◌%◌, ◌<◌}
use mathlib.Core.Path.{◌≡◌, ◌∙◌}
use mathlib.Core.Bool.{true, cond, ◌&&◌}
use native.Mathlib.Omega.{arith}
use lib.Dec.{ltb, leb, eqb}
use lib.ListN.{set, length-set}
use borrow.Author.Tests.{eq-eqb}
use Rattle.bits.specs.Bits.{bit, bit_set}
use Rattle.bits.proofs.Bytes.{bytes_set}
use Rattle.machine.specs.State.{Machine}
use Rattle.machine.specs.Fifo.{flushed}
use Rattle.machine.specs.Timer.{timer_started, timer_stopped}
use Rattle.machine.specs.Registers.{page_written, control_written, register_written}
use Rattle.machine.proofs.Cases.{either}
use Rattle.machine.proofs.WellFormed.Parts.{Almost, Kept, keep, both, each, new_bits, new_registers}
use Rattle.machine.proofs.WellFormed.Timer.{started_almost, stopped_almost}
use Rattle.machine.proofs.WellFormed.Fifo.{emptied, offered_almost}
use Rattle.machine.proofs.WellFormed.Commands.{written_almost}

-- Page keeps the bits that read 0.
page_almost : (v : ℕ) (m : Machine) → Almost m → Almost (page_written v m)
page_almost v m a =
    let page = 128 * bit v 7 + v % 8 in
    let (old, last) = each (eqb (m.page / 8 % 16) 0) _ a.bits in
    new_bits a page m.status.rx_last_bits (both (eq-eqb (page / 8 % 16) 0 (omega arith)) last)

-- A write to Control.
control_almost : (v : ℕ) (m : Machine) → Almost m → Almost (control_written v m)
control_almost v m a =
    let flushes = cond (bit_set v 0) (flushed m) m in
    let stops = cond (bit_set v 2) (timer_stopped flushes) flushes in
    let f : Almost flushes = either Almost (bit_set v 0) (flushed m) m (emptied m a) a in
    let s : Almost stops = either Almost (bit_set v 2) (timer_stopped flushes) flushes (stopped_almost flushes f) f in
    either Almost (bit_set v 1) (timer_started stops) stops (started_almost stops s) s

-- Any register.
pub register_almost : (r v : ℕ) (m : Machine) → v < 256 → Almost m → Almost (register_written r v m)
unfolding register_written
register_almost r v m small a = chosen.parts
  where
    chosen : Kept (register_written r v m)
    chosen =
        either Kept (eqb (r % 8) 0) _ _ (keep _ (page_almost v m a))
        (either Kept (eqb r 0x01) _ _ (keep _ (written_almost v m a))
        (either Kept (eqb r 0x02) _ _ (keep _ (offered_almost v m small a))
        (either Kept (eqb r 0x06) _ _ (keep _ a)
        (either Kept (eqb r 0x07) _ _ (keep _ a)
        (either Kept (eqb r 0x09) _ _ (keep _ (control_almost v m a))
        (either Kept (eqb r 0x0F) _ _ (keep _ a)
        (either Kept (leb 0x10 r && ltb r 0x30) _ m
        (keep _ (new_registers a (set m.registers (r - 0x10) v) (bytes_set m.registers (r - 0x10) v a.registers.bytes small) (length-set m.registers (r - 0x10) v ∙ a.registers.count)))
        (keep m a))))))))
