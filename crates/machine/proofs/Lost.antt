-- How many bytes are lost: the examples by computation, those beyond the room there is, and the sum.
-- Assumes nothing.
use Prim.Native.Nat.{ℕ, ◌+◌, ◌-◌, ◌≤◌, min}
use native.Mathlib.Nat.{add-zero}
use native.Mathlib.Omega.{arith}
use mathlib.Core.Bool.{Bool, true, false, cond, true≢false}
use mathlib.Core.List.{List, [], ◌∷◌, ◌++◌}
use mathlib.Core.Path.{◌≡◌, refl, sym, ap, subst, ◌∙◌}
use lib.Count.{ones}
use lib.Dec.{ltb, eqb}
use lib.ListN.{length, length-append}
use borrow.Author.Tests.{ltb-true, ltb-false, lt-leb}
use Rattle.crc.specs.Checksum.{after_bit, after_bits, after_byte, after_bytes}
use Rattle.machine.specs.State.{Machine, Command, Idle, WriteE2, ReadE2, LoadConfig, LoadKeyE2, LoadKey, CalcCRC, Transmit, Receive, TransceiveSending, TransceiveReceiving, addressing, ready, programming, with_held}
use Rattle.machine.specs.Fifo.{one_lost, offered, offered_all, lost_of, lo_alert, hi_alert, alerted}
use Rattle.machine.specs.Memory.{address_of, over_registers}
use Rattle.machine.specs.Commands.{code_of, command_written, enough, argument, taken, read_bytes, stepped_as, stepped, settled, lost_as, lost_stepping, lost_settling}
use Rattle.machine.specs.Frames.{sent, received, any_parity_wrong, same_bytes, lost_receiving}
use Rattle.machine.specs.Registers.{register_read, register_written}
use Rattle.machine.specs.WellFormed.{waits, well_formed}
use Rattle.machine.specs.Refusals.{all_bits, refusal}
use Rattle.machine.specs.Events.{started, written, lost_writing, read_byte, after_read, taken as events_taken, buffer_taken, delivered, perform, after_calls}
use Rattle.machine.proofs.Cases.{by_cond, either}
use Rattle.machine.specs.Lost.{LostBytes}

-- Lost are the bytes for which there is no room, whatever else the machine is.
pub beyond_room : (bs : List ℕ) (m : Machine) → lost_of bs m ≡ length bs - (64 - length m.held)
unfolding lost_of offered
beyond_room [] m = omega arith
beyond_room (b ∷ bs) m = go (ltb (length m.held) 64) refl (beyond_room bs)
  where
    next : Bool → Machine
    next t = cond t (with_held (m.held ++ b ∷ []) m) (one_lost m)

    go : (t : Bool) → ltb (length m.held) 64 ≡ t → ((x : Machine) → lost_of bs x ≡ length bs - (64 - length x.held)) →
        cond t 0 1 + lost_of bs (next t) ≡ length (b ∷ bs) - (64 - length m.held)
    go true is rest = omega (arith, rest (next true), length-append m.held (b ∷ []), ltb-true (length m.held) 64 is)
    go false is rest = omega (arith, rest (next false), ltb-false (length m.held) 64 is)

-- So the number goes by the held bytes alone.
pub lost_by_held : (bs : List ℕ) (m n : Machine) → m.held ≡ n.held → lost_of bs m ≡ lost_of bs n
lost_by_held bs m n same = beyond_room bs m ∙ ap (λ (h : List ℕ). length bs - (64 - length h)) same ∙ sym (beyond_room bs n)

-- What is lost is added to the sum.
added : (bs : List ℕ) (m : Machine) → m.lost_sum ≤ 65_535 → (offered_all bs m).lost_sum ≡ min 65_535 (m.lost_sum + lost_of bs m)
unfolding lost_of offered offered_all
added [] m small = omega arith
added (b ∷ bs) m small = go (ltb (length m.held) 64) (added bs)
  where
    next : Bool → Machine
    next t = cond t (with_held (m.held ++ b ∷ []) m) (one_lost m)

    go : (t : Bool) → ((x : Machine) → x.lost_sum ≤ 65_535 → (offered_all bs x).lost_sum ≡ min 65_535 (x.lost_sum + lost_of bs x)) →
        (offered_all bs (next t)).lost_sum ≡ min 65_535 (m.lost_sum + (cond t 0 1 + lost_of bs (next t)))
    go true rest = omega (arith, rest (next true) small)
    go false rest = omega (arith, rest (next false) (omega arith))

-- A command other than ReadE2 loses none: no step makes it one.
abbrev reads : Command → Bool
reads c = eqb (code_of c) 0x03

other_again : (c : Command) (m : Machine) → m.command ≡ c → reads c ≡ false → reads (stepped_as c m).command ≡ false
other_again Idle m is other = ap reads is
other_again (WriteE2 addressing) m is other = either (λ (x : Machine). reads x.command ≡ false) (enough 2 m) _ m refl (ap reads is)
other_again (WriteE2 (ready a)) m is other =
    either (λ (x : Machine). reads x.command ≡ false) (enough 1 m) _ m (either (λ (x : Machine). reads x.command ≡ false) (ltb a 0x10) _ _ refl refl) (ap reads is)
other_again (WriteE2 (programming a bs left)) m is other = ap reads is
other_again ReadE2 m is other = absurd (true≢false other)
other_again LoadConfig m is other = either (λ (x : Machine). reads x.command ≡ false) (enough 2 m) _ m refl (ap reads is)
other_again LoadKeyE2 m is other = either (λ (x : Machine). reads x.command ≡ false) (enough 2 m) _ m refl (ap reads is)
other_again LoadKey m is other = either (λ (x : Machine). reads x.command ≡ false) (enough 12 m) _ m refl (ap reads is)
other_again CalcCRC m is other = either (λ (x : Machine). reads x.command ≡ false) (enough 1 m) _ m (ap reads is) (ap reads is)
other_again Transmit m is other = ap reads is
other_again Receive m is other = ap reads is
other_again TransceiveSending m is other = ap reads is
other_again TransceiveReceiving m is other = ap reads is

none_stepping : (m : Machine) → reads m.command ≡ false → lost_stepping m ≡ 0
unfolding lost_stepping
none_stepping m other = simp other

pub other_loses_none : (m : Machine) → eqb (code_of m.command) 0x03 ≡ false → lost_settling m ≡ 0
unfolding lost_settling stepped
other_loses_none m other = simp (none_stepping m other, none_stepping (stepped m) (other_again m.command m refl other))

-- ReadE2 loses what its one step loses.
pub read_loses : (m : Machine) → m.command ≡ ReadE2 → lost_as ReadE2 m ≡ lost_settling m
unfolding lost_settling lost_stepping stepped
read_loses m is =
    sym (ap (λ (c : Command). lost_as c m + lost_as (stepped_as c m).command (stepped_as c m)) is ∙ ap (λ (n : ℕ). lost_as ReadE2 m + n) none_again ∙ add-zero (lost_as ReadE2 m))
  where
    none_again : lost_as (stepped_as ReadE2 m).command (stepped_as ReadE2 m) ≡ 0
    none_again =
        by_cond (λ (x : Machine). lost_as x.command x ≡ 0) (enough 3 m) _ m (λ e. refl)
        (λ e. ap (λ (c : Command). lost_as c m) is ∙ ap (λ (t : Bool). cond t (lost_of (read_bytes m.eeprom (address_of (argument 0 m) (argument 1 m)) (argument 2 m)) (taken 3 m)) 0) e)

reads_is : (c : Command) → reads c ≡ true → c ≡ ReadE2
reads_is Idle h = absurd (true≢false (sym h))
reads_is (WriteE2 w) h = absurd (true≢false (sym h))
reads_is ReadE2 h = refl
reads_is LoadConfig h = absurd (true≢false (sym h))
reads_is LoadKeyE2 h = absurd (true≢false (sym h))
reads_is LoadKey h = absurd (true≢false (sym h))
reads_is CalcCRC h = absurd (true≢false (sym h))
reads_is Transmit h = absurd (true≢false (sym h))
reads_is Receive h = absurd (true≢false (sym h))
reads_is TransceiveSending h = absurd (true≢false (sym h))
reads_is TransceiveReceiving h = absurd (true≢false (sym h))

-- A command that has no more bytes than may wait loses none.
pub waiting_loses_none : (m : Machine) → length m.held ≤ waits m.command → 0 ≡ lost_settling m
waiting_loses_none m few = go (reads m.command) refl
  where
    go : (t : Bool) → reads m.command ≡ t → 0 ≡ lost_settling m
    go true is =
        let reading = reads_is m.command is in
        let short : length m.held ≤ 2 = subst (λ (c : Command). length m.held ≤ waits c) reading few in
        sym (ap (λ (t : Bool). cond t (lost_of (read_bytes m.eeprom (address_of (argument 0 m) (argument 1 m)) (argument 2 m)) (taken 3 m)) 0) (lt-leb 3 (length m.held) (omega arith)))
        ∙ read_loses m reading
    go false other = sym (other_loses_none m other)

pub lost_bytes : LostBytes
unfolding ones after_bit after_bits after_byte after_bytes offered offered_all lost_of lo_alert hi_alert alerted over_registers command_written stepped settled lost_stepping lost_settling sent received any_parity_wrong same_bytes lost_receiving register_read register_written well_formed all_bits refusal started written lost_writing read_byte after_read events_taken buffer_taken delivered perform after_calls
lost_bytes =
    record {
      byte_64 = refl;
      byte_65 = refl;
      read_by_code = refl;
      read_by_argument = refl;
      read_forbidden = refl;
      frame_with_checksum = refl;
      sums = refl;
      flushed = refl;
      started_again = refl;
      taken = refl;
      read = refl;
      command_written_lem = refl;
      start_refused = refl;
      most_answered = refl;
      most_summed = refl;
      beyond_room = beyond_room;
      added = added;
    }
