-- What the active command does with waiting bytes keeps the machine well formed, and leaves none that it could take.
-- Assumes nothing.
use Prim.Native.Nat.{ℕ, suc, ◌+◌, ◌%◌, ◌≤◌, ◌<◌}
use mathlib.Core.Path.{◌≡◌, refl, sym, ◌∙◌, subst}
use mathlib.Core.Bool.{true, cond, ◌&&◌}
use mathlib.Core.List.{List, []}
use native.Mathlib.Omega.{arith}
use lib.Dec.{ltb, leb, eqb}
use lib.ListN.{length, take}
use borrow.Author.Tests.{leb-true, leb-false, ltb-true, ltb-false, lt-leb, le-leb, lt-ltb}
use Rattle.bits.specs.Bits.{Bytes}
use Rattle.bits.proofs.Bytes.{bytes_take, byte_at}
use Rattle.crc.specs.Checksum.{crc8_bit}
use Rattle.machine.specs.State.{Machine, Command, Idle, WriteE2, ReadE2, LoadConfig, LoadKeyE2, LoadKey, CalcCRC, Transmit, Receive, TransceiveSending, TransceiveReceiving, addressing, ready, programming, with_command}
use Rattle.machine.specs.Fifo.{register_at}
use Rattle.machine.specs.Memory.{address_of, bytes_from, room_in_block, programming_clocks, over_registers}
use Rattle.machine.specs.Commands.{command_started, command_written, cleared_errors, argument, taken, latched, write_stepped, readable, read_from, read_bytes, configured_from, key_from, key_judged, checksum_taken, checksum_started, programs, ended, stepped_as, stepped, settled}
use Rattle.machine.specs.WellFormed.{command_formed, waits, latched_bytes}
use Rattle.machine.proofs.Cases.{by_cond, either}
use Rattle.machine.proofs.WellFormed.Parts.{Almost, Good, both, new_command, new_checksum, new_registers}
use Rattle.machine.proofs.WellFormed.Memory.{from_bytes, over_bytes, over_length, take_fits, take_some}
use Rattle.machine.proofs.WellFormed.Checksum.{started_below, absorbed_below}
use Rattle.machine.proofs.WellFormed.Fifo.{no_bytes, emptied, taken_almost, all_offered, ended_good}

-- A command that could take no waiting byte does nothing.
still : (n k : ℕ) (x m : Machine) → k < n → cond (leb n k) x m ≡ m
still n k x m h = rw (lt-leb n k h)

rests_still : (c : Command) (m : Machine) → length m.held ≤ waits c → stepped_as c m ≡ m
rests_still Idle m h = refl
rests_still (WriteE2 addressing) m h = still 2 (length m.held) _ m (omega arith)
rests_still (WriteE2 (ready a)) m h = still 1 (length m.held) _ m (omega arith)
rests_still (WriteE2 (programming a bs left)) m h = refl
rests_still ReadE2 m h = still 3 (length m.held) _ m (omega arith)
rests_still LoadConfig m h = still 2 (length m.held) _ m (omega arith)
rests_still LoadKeyE2 m h = still 2 (length m.held) _ m (omega arith)
rests_still LoadKey m h = still 12 (length m.held) _ m (omega arith)
rests_still CalcCRC m h = still 1 (length m.held) _ m (omega arith)
rests_still Transmit m h = refl
rests_still Receive m h = refl
rests_still TransceiveSending m h = refl
rests_still TransceiveReceiving m h = refl

-- So a good machine steps to a good one: itself.
rested_good : (m : Machine) → Good m → Good (stepped m)
unfolding stepped
rested_good m (a, r) = subst Good (sym (rests_still m.command m r)) (a, r)

-- A command that takes n bytes at once: it has them, or goes on waiting.
takes : (n : ℕ) (m x : Machine) → Almost m → n ≤ suc (waits m.command) → (n ≤ length m.held → Good x) → Good (cond (leb n (length m.held)) x m)
takes n m x a w g =
    by_cond Good (leb n (length m.held)) x m (λ e. g (leb-true n (length m.held) e))
    (λ e. let fewer = leb-false n (length m.held) e in (a, omega (arith, fewer, w)))

-- Bytes that fit into the rest of their block, at an address that may be written, are programmed.
programs_formed : (a : ℕ) (bs : List ℕ) → 0x10 ≤ a → a < 0x200 → 1 ≤ length bs → length bs ≤ room_in_block a → command_formed (WriteE2 (programming a bs programming_clocks)) ≡ true
programs_formed a bs above small some room =
    both refl (both refl (both (le-leb 1 (length bs) some) (both (le-leb (a % 16 + length bs) 16 (omega arith)) (both (le-leb 0x10 a above) (lt-ltb a 0x200 small)))))

-- WriteE2 latches what fits into the block.
latched_good : (a : ℕ) (m : Machine) → a < 0x200 → 1 ≤ length m.held → Almost m → Good (latched a m)
latched_good a m small some p = by_cond Good (ltb a 0x10) _ _ (λ e. ended_good m p) (λ e. (latches (ltb-false a 0x10 e), left.held.fits))
  where
    left : Almost (taken (room_in_block a) m)
    left = taken_almost (room_in_block a) m p

    latches : 0x10 ≤ a → Almost (with_command (WriteE2 (programming a (take (room_in_block a) m.held) programming_clocks)) (taken (room_in_block a) m))
    latches above =
        new_command left (WriteE2 (programming a (take (room_in_block a) m.held) programming_clocks))
        (programs_formed a (take (room_in_block a) m.held) above small (take_some (room_in_block a) m.held (omega arith) some) (take_fits (room_in_block a) m.held))
        (bytes_take (room_in_block a) m.held p.held.bytes)

-- A WriteE2 that has its address needs one step.
ready_steps : (a : ℕ) (m : Machine) → m.command ≡ WriteE2 (ready a) → Almost m → Good (write_stepped (ready a) m)
ready_steps a m is p =
    let formed : command_formed (WriteE2 (ready a)) ≡ true = rw is at p.command.formed in
    takes 1 m (latched a m) p (rw is (omega arith)) (λ some. latched_good a m (ltb-true a 0x200 formed) some p)

-- ReadE2, LoadConfig, LoadKeyE2, LoadKey and CalcCRC, with their arguments taken.
read_almost : (address count : ℕ) (m : Machine) → Almost m → Almost (read_from address count m)
read_almost address count m a =
    let bytes = either Bytes (readable address count) _ [] (from_bytes m.eeprom address count a.eeprom.bytes) no_bytes in
    either Almost (readable address count) _ _ (all_offered (read_bytes m.eeprom address count) m bytes a) a

configured_almost : (address : ℕ) (m : Machine) → Almost m → Almost (configured_from address m)
configured_almost address m a =
    let bs = bytes_from m.eeprom address 32 in
    let bytes = over_bytes 0 m.registers bs a.registers.bytes (from_bytes m.eeprom address 32 a.eeprom.bytes) in
    either Almost (leb 0x10 address && leb address 0x60) _ _
    (new_registers a (over_registers 0 m.registers bs) bytes (over_length 0 m.registers bs ∙ a.registers.count))
    a

key_almost : (address : ℕ) (m : Machine) → Almost m → Almost (key_from address m)
key_almost address m a = either Almost (ltb 0x1F4 address) _ _ a a

summed_almost : (m : Machine) → Almost m → Almost (checksum_taken m)
summed_almost m a =
    new_checksum (emptied m a) (checksum_taken m).checksum
    (absorbed_below (crc8_bit m.checksum.mode) m.checksum.register m.held a.held.bytes a.checksum)

-- A command that takes its arguments, does its work and ends.
takes_and_ends : (n : ℕ) (m : Machine) (work : Machine → Machine) → Almost m → n ≤ suc (waits m.command) → ((x : Machine) → Almost x → Almost (work x)) →
    Good (stepped (cond (leb n (length m.held)) (ended (work (taken n m))) m))
takes_and_ends n m work a w keeps = rested_good _ (takes n m _ a w (λ h. ended_good (work (taken n m)) (keeps (taken n m) (taken_almost n m a))))

-- After two steps the machine is good, from whatever its command is.
settled_as : (c : Command) (m : Machine) → m.command ≡ c → Almost m → Good (stepped (stepped_as c m))
unfolding stepped
settled_as Idle m is a = rested_good m (a, rw is a.held.fits)
settled_as (WriteE2 addressing) m is a =
    let next = address_of (argument 0 m) (argument 1 m) in
    let addressed = new_command (taken_almost 2 m a) (WriteE2 (ready next)) (lt-ltb next 0x200 (omega arith)) no_bytes in
    by_cond (λ x. Good (stepped x)) (leb 2 (length m.held)) _ m (λ e. ready_steps next _ refl addressed)
    (λ e. let fewer = leb-false 2 (length m.held) e in rested_good m (a, rw is (omega (arith, fewer))))
settled_as (WriteE2 (ready a)) m is p = rested_good _ (ready_steps a m is p)
settled_as (WriteE2 (programming a bs left)) m is p = rested_good m (p, rw is p.held.fits)
settled_as ReadE2 m is a =
    let address = address_of (argument 0 m) (argument 1 m) in
    takes_and_ends 3 m (read_from address (argument 2 m)) a (rw is (omega arith)) (read_almost address (argument 2 m))
settled_as LoadConfig m is a =
    let address = address_of (argument 0 m) (argument 1 m) in takes_and_ends 2 m (configured_from address) a (rw is (omega arith)) (configured_almost address)
settled_as LoadKeyE2 m is a = let address = address_of (argument 0 m) (argument 1 m) in takes_and_ends 2 m (key_from address) a (rw is (omega arith)) (key_almost address)
settled_as LoadKey m is a = takes_and_ends 12 m (key_judged (take 12 m.held)) a (rw is (omega arith)) (λ x p. p)
settled_as CalcCRC m is a = rested_good _ (takes 1 m _ a (rw is (omega arith)) (λ h. (summed_almost m a, omega arith)))
settled_as Transmit m is a = rested_good m (a, rw is a.held.fits)
settled_as Receive m is a = rested_good m (a, rw is a.held.fits)
settled_as TransceiveSending m is a = rested_good m (a, rw is a.held.fits)
settled_as TransceiveReceiving m is a = rested_good m (a, rw is a.held.fits)

-- After it has settled, the machine is good.
pub settled_good : (m : Machine) → Almost m → Good (settled m)
unfolding settled stepped
settled_good m a = settled_as m.command m refl a

-- Command is written.
started_almost : (code : ℕ) (m : Machine) → Almost m → Almost (command_started code m)
started_almost code m a =
    either Almost (eqb code 0x00) _ _ (begin Idle refl no_bytes)
    (either Almost (eqb code 0x01) _ _ (begin (WriteE2 addressing) refl no_bytes)
    (either Almost (eqb code 0x03) _ _ (begin ReadE2 refl no_bytes)
    (either Almost (eqb code 0x07) _ _ (begin LoadConfig refl no_bytes)
    (either Almost (eqb code 0x0B) _ _ (begin LoadKeyE2 refl no_bytes)
    (either Almost (eqb code 0x12) _ _ (new_command preset CalcCRC refl no_bytes)
    (either Almost (eqb code 0x16) _ _ (begin Receive refl no_bytes)
    (either Almost (eqb code 0x19) _ _ (begin LoadKey refl no_bytes)
    (either Almost (eqb code 0x1A) _ _ (begin Transmit refl no_bytes)
    (either Almost (eqb code 0x1E) _ _ (begin TransceiveSending refl no_bytes)
    (begin Idle refl no_bytes))))))))))
  where
    begin : (c : Command) → command_formed c ≡ true → Bytes (latched_bytes c) → Almost (with_command c m)
    begin = new_command a

    preset : Almost (checksum_started m)
    preset =
        new_checksum a (checksum_started m).checksum
        (started_below (crc8_bit (register_at m 0x22)) (register_at m 0x23) (register_at m 0x24) (byte_at m.registers 0x13 a.registers.bytes))

-- A running programming lets no write to Command through.
pub written_almost : (v : ℕ) (m : Machine) → Almost m → Almost (command_written v m)
unfolding command_written
written_almost v m a = either Almost (programs m.command) m _ a (started_almost (v % 64) (cleared_errors m) a)
