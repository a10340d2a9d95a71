-- Each of the six events leads from a good machine to a good one.
-- Assumes nothing.
use Prim.Native.Nat.{ℕ, zero, suc, ◌+◌, ◌-◌, ◌%◌, ◌<◌, ◌≤◌}
use mathlib.Core.Path.{◌≡◌, refl, ◌∙◌}
use mathlib.Core.Bool.{true}
use mathlib.Core.List.{List}
use native.Mathlib.Omega.{arith}
use lib.Dec.{leb, eqb}
use lib.ListN.{length}
use borrow.Author.Tests.{leb-true, leb-false, eqb-true, le-leb, lt-ltb}
use Rattle.bits.specs.Bits.{Bytes}
use Rattle.bits.proofs.Bytes.{bytes_zeros}
use Rattle.machine.specs.State.{Machine, Command, Idle, WriteE2, ReadE2, LoadConfig, LoadKeyE2, LoadKey, CalcCRC, Transmit, Receive, TransceiveSending, TransceiveReceiving, addressing, ready, programming, with_command, with_eeprom}
use Rattle.machine.specs.Fifo.{alerted}
use Rattle.machine.specs.Timer.{timer_clock}
use Rattle.machine.specs.Memory.{programming_clocks, bytes_from, stored_from}
use Rattle.machine.specs.Registers.{mapped, register_written}
use Rattle.machine.specs.WellFormed.{command_formed}
use Rattle.machine.specs.Commands.{raised_tx, settled}
use Rattle.machine.specs.Power.{stands_still}
use Rattle.machine.specs.Events.{started, written, after_read, programmed, programming_clocked, command_clocked, reached, clock, clocks, advanced, taken, delivered}
use Rattle.machine.proofs.Cases.{by_cond, either, while_programming_lem}
use Rattle.machine.proofs.WellFormed.Parts.{Almost, Good, both, each, new_command, new_eeprom}
use Rattle.machine.proofs.WellFormed.Memory.{from_bytes, stored_bytes_lem, stored_length, over_bytes, over_length}
use Rattle.machine.proofs.WellFormed.Timer.{GoodAs, ticked}
use Rattle.machine.proofs.WellFormed.Fifo.{no_bytes, read_good}
use Rattle.machine.proofs.WellFormed.Commands.{settled_good}
use Rattle.machine.proofs.WellFormed.Registers.{register_almost}
use Rattle.machine.proofs.WellFormed.Frames.{sent_good, received_good}

-- A start.
pub started_good : (image : List ℕ) → Bytes image → length image ≡ 512 → Good (started image)
unfolding started
started_good image w sized = (
  record {
    bits = refl;
    command = record { formed = refl; latched = no_bytes };
    held = record { fits = omega arith; bytes = no_bytes };
    timer = refl;
    checksum = refl;
    registers = record { bytes = over_bytes 0 _ (bytes_from image 0x10 32) (bytes_zeros 32) (from_bytes image 0x10 32 w); count = over_length 0 _ (bytes_from image 0x10 32) };
    eeprom = record { bytes = w; count = sized };
  },
  omega arith,
)

-- The alerts change requests alone.
alerted_good : (before after : Machine) → Good after → Good (alerted before after)
unfolding alerted
alerted_good before after g = g

-- A host write: its register, then what the active command does.
pub written_good : (address v : ℕ) (m : Machine) → v < 256 → Good m → Good (written address v m)
unfolding written
written_good address v m small (a, r) =
    let r = mapped m.page address in
    let changed = register_written r v m in alerted_good m (settled changed) (settled_good changed (register_almost r v m small a))

-- A host read.
pub after_read_good : (address : ℕ) (m : Machine) → Good m → Good (after_read address m)
unfolding after_read
after_read_good address m g = either Good (eqb (mapped m.page address) 0x02) _ m (alerted_good m _ (read_good m g)) g

-- A programming ends: its bytes are in EEPROM, and waiting ones are latched.
programmed_good : (a : ℕ) (bs : List ℕ) (m : Machine) → Bytes bs → Almost m → Good (programmed a bs m)
programmed_good a bs m w p =
    let next = (a + length bs) % 0x200 in
    let bytes = stored_bytes_lem m.eeprom a bs p.eeprom.bytes w in
    let filled = new_eeprom p (stored_from m.eeprom a bs) bytes (stored_length m.eeprom a bs ∙ p.eeprom.count) in
    let stored = with_command (WriteE2 (ready next)) (with_eeprom (stored_from m.eeprom a bs) m) in
    let s : Almost stored = new_command filled (WriteE2 (ready next)) (lt-ltb next 0x200 (omega arith)) no_bytes in
    by_cond Good (eqb (length m.held) 0) (raised_tx stored) (settled stored)
    (λ e. let none = eqb-true (length m.held) 0 e in (s, omega (arith, none)))
    (λ e. settled_good stored s)

-- A programming goes on for one clock less.
left_formed : (a : ℕ) (bs : List ℕ) (left : ℕ) → 1 < left → command_formed (WriteE2 (programming a bs left)) ≡ true → command_formed (WriteE2 (programming a bs (left - 1))) ≡ true
left_formed a bs left above formed =
    let (low, more) = each (leb 1 left) _ formed in
    let (high, rest) = each (leb left programming_clocks) _ more in
    let below = leb-true left programming_clocks high in both (le-leb 1 (left - 1) (omega arith)) (both (le-leb (left - 1) programming_clocks (omega arith)) rest)

-- One clock of the active command.
clocked_good : (c : Command) (m : Machine) → GoodAs c m → Good (command_clocked c m)
clocked_good c m ((p, r), is) =
    while_programming_lem (λ (f : Machine → Machine). Good (f m)) programming_clocked (λ n. n) c
    (λ a bs left now.
    let formed : command_formed (WriteE2 (programming a bs left)) ≡ true = rw (is ∙ now) at p.command.formed in
    let w : Bytes bs = rw (is ∙ now) at p.command.latched in
    by_cond Good (leb left 1) _ _ (λ e. programmed_good a bs m w p)
    (λ e. (new_command p (WriteE2 (programming a bs (left - 1))) (left_formed a bs left (leb-false left 1 e) formed) w, p.held.fits)))
    (p, r)

-- One clock, and any number.
clock_good : (m : Machine) → Good m → Good (clock m)
unfolding clock reached
clock_good m g = either Good (stands_still m) _ _ g (clocked_good m.command (timer_clock m) (ticked m g))

pub clocks_good : (n : ℕ) (m : Machine) → Good m → Good (clocks n m)
unfolding clocks
clocks_good zero m g = g
clocks_good (suc n) m g = clocks_good n (clock m) (clock_good m g)

-- An advance by clocks, a take and a delivery.
pub advanced_good : (n : ℕ) (m : Machine) → Good m → Good (advanced n m)
unfolding advanced
advanced_good n m g = alerted_good m (clocks n m) (clocks_good n m g)

pub taken_good : (m : Machine) → Good m → Good (taken m)
unfolding taken
taken_good m (a, r) = alerted_good m _ (sent_good m a)

pub delivered_good : (bytes parities : List ℕ) (last_bits : ℕ) (m : Machine) → Bytes bytes → last_bits ≤ 7 → Good m → Good (delivered bytes parities last_bits m)
unfolding delivered
delivered_good bytes parities last_bits m w few (a, r) = alerted_good m _ (received_good bytes parities last_bits m w few a)
