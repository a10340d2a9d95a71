-- No call but a start changes the edition or a byte of block 0: an event but an advance does to a machine what it does to that machine recast as itself, and
-- clocks do not reach block 0.
-- Assumes nothing.
use Prim.Native.Nat.{ℕ}
use mathlib.Core.Path.{◌≡◌, sym, ap}
use mathlib.Core.Bool.{true, false, true≢false}
use mathlib.Core.List.{List}
use lib.ListN.{take}
use Rattle.machine.specs.State.{Machine, Command, Idle, WriteE2, ReadE2, LoadConfig, LoadKeyE2, LoadKey, CalcCRC, Transmit, Receive, TransceiveSending, TransceiveReceiving}
use Rattle.machine.specs.Fifo.{alerted}
use Rattle.machine.specs.Memory.{address_of, bytes_from}
use Rattle.machine.specs.Commands.{argument, read_bytes}
use Rattle.machine.specs.Registers.{mapped, register_written}
use Rattle.machine.specs.Refusals.{Call, start, host_read, host_write, advance, take_frame, deliver}
use Rattle.machine.specs.Events.{accepted, advanced, written}
use Rattle.machine.specs.Editions.{is_start}
use Rattle.machine.proofs.Editions.Block0.{above, Keeps, clocks_kept}
use Rattle.machine.proofs.Editions.Recast.{Same, SameReads, register_same, written_same, after_read_same, taken_same, delivered_same}

module _ (m : Machine) where
  -- The machine's own memory, whatever stands there.
  abbrev own : List ℕ → List ℕ
  own l = m.eeprom

  -- What is itself recast with the machine's edition and memory has both.
  kept_by : {x : Machine} → Same m.edition own x x → Keeps m x
  kept_by s = record { edition = ap (λ (y : Machine). y.edition) s.is; block_0 = ap (λ (y : Machine). take 0x10 y.eeprom) s.is }

  -- What is read of a memory that is the machine's own.
  reads_own : (c : Command) (n : Machine) → n.eeprom ≡ m.eeprom → SameReads m.edition own c n
  reads_own Idle n h = tt
  reads_own (WriteE2 w) n h = tt
  reads_own ReadE2 n h = λ t. ap (λ (l : List ℕ). read_bytes l (address_of (argument 0 n) (argument 1 n)) (argument 2 n)) (sym h)
  reads_own LoadConfig n h = λ t u. ap (λ (l : List ℕ). bytes_from l (address_of (argument 0 n) (argument 1 n)) 32) (sym h)
  reads_own LoadKeyE2 n h = λ t. ap (λ (l : List ℕ). bytes_from l (address_of (argument 0 n) (argument 1 n)) 12) (sym h)
  reads_own LoadKey n h = tt
  reads_own CalcCRC n h = tt
  reads_own Transmit n h = tt
  reads_own Receive n h = tt
  reads_own TransceiveSending n h = tt
  reads_own TransceiveReceiving n h = tt

  written_kept : (address v : ℕ) → Keeps m (written address v m)
  written_kept address v =
      let n = register_written (mapped m.page address) v m in
      let here = register_same m.edition own (mapped m.page address) v m in
      kept_by (written_same m.edition own address v m (reads_own n.command n (ap (λ (y : Machine). y.eeprom) here.is)))

  advanced_kept : (n : ℕ) → above m.command ≡ true → Keeps m (advanced n m)
  unfolding advanced alerted
  advanced_kept n h = let k = clocks_kept n m h in record { edition = k.edition; block_0 = k.block_0 }

  -- Any call but a start.
  pub accepted_kept : (c : Call) → is_start c ≡ false → above m.command ≡ true → Keeps m (accepted m c).next
  accepted_kept (start image) other h = absurd (true≢false other)
  accepted_kept (host_read address) other h = kept_by (after_read_same m.edition own address m)
  accepted_kept (host_write address v) other h = written_kept address v
  accepted_kept (advance n) other h = advanced_kept n h
  accepted_kept (take_frame buffer) other h = kept_by (taken_same m.edition own m)
  accepted_kept (deliver bytes parities last_bits) other h = kept_by (delivered_same m.edition own bytes parities last_bits m)
