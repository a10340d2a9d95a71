-- Every programming takes its clocks: where a host write or a clock latches a batch, all are left, and nothing but a clock takes one.
-- Assumes nothing.
use Prim.Native.Nat.{ℕ, ◌-◌, ◌%◌, ◌<◌, ◌≤◌}
use mathlib.Core.Path.{◌≡◌, refl, sym, ap, ◌∙◌, subst}
use mathlib.Core.Bool.{true, false, cond, ◌&&◌, true≢false}
use mathlib.Core.List.{List}
use lib.Dec.{ltb, leb, eqb}
use lib.ListN.{length, take}
use Rattle.bits.specs.Bits.{bit_set}
use Rattle.machine.specs.State.{Machine, Command, Writing, Idle, WriteE2, ReadE2, LoadConfig, LoadKeyE2, LoadKey, CalcCRC, Transmit, Receive, TransceiveSending, TransceiveReceiving, addressing, ready, programming, with_command}
use Rattle.machine.specs.Memory.{room_in_block, programming_clocks}
use Rattle.machine.specs.Fifo.{offered, flushed, alerted}
use Rattle.machine.specs.Timer.{timer_started, timer_stopped, timer_clock}
use Rattle.machine.specs.Commands.{programs, with_access_err, ended, enough, taken, latched, write_stepped, stepped_as, stepped, settled, command_started, command_written, cleared_errors}
use Rattle.machine.specs.Power.{stands_still}
use Rattle.machine.specs.Registers.{mapped, control_written, register_written}
use Rattle.machine.specs.Refusals.{host_write, refusal}
use Rattle.machine.specs.Events.{Outcome, written, perform, programmed, clock}
use Rattle.machine.specs.ProgrammingTime.{ProgrammingTime}
use Rattle.machine.proofs.Cases.{either}
use Rattle.machine.proofs.Clock.{clock_stands, goes_on_lem, ends, end_any}
use Rattle.machine.proofs.Settling.{settled_stands}

-- No programming runs, or one that has all its clocks left.
data Whole : Command → Type 0 where
  none : (c : Command) → programs c ≡ false → Whole c
  all : (a left : ℕ) (bs : List ℕ) → left ≡ programming_clocks → Whole (WriteE2 (programming a bs left))

whole_clocks : (a left : ℕ) (bs : List ℕ) → Whole (WriteE2 (programming a bs left)) → left ≡ programming_clocks
whole_clocks a left bs (none _ h) = absurd (true≢false h)
whole_clocks a left bs (all _ _ _ is) = is

abbrev WholeNow : Machine → Type 0
WholeNow m = Whole m.command

-- A batch is latched with all its clocks left.
latched_whole : (a : ℕ) (m : Machine) → WholeNow (latched a m)
latched_whole a m =
    let batch : Command = WriteE2 (programming a (take (room_in_block a) m.held) programming_clocks) in
    either WholeNow (ltb a 0x10) (ended (with_access_err m)) (with_command batch (taken (room_in_block a) m)) (none Idle refl) (all a programming_clocks _ refl)

-- The active command's step.
write_whole : (w : Writing) (m : Machine) → WholeNow m → WholeNow (write_stepped w m)
write_whole addressing m is = either WholeNow (enough 2 m) _ m (none _ refl) is
write_whole (ready a) m is = either WholeNow (enough 1 m) _ m (latched_whole a m) is
write_whole (programming a bs left) m is = is

step_whole : (c : Command) (m : Machine) → WholeNow m → WholeNow (stepped_as c m)
step_whole Idle m is = is
step_whole (WriteE2 w) m is = write_whole w m is
step_whole ReadE2 m is = either WholeNow (enough 3 m) _ m (none _ refl) is
step_whole LoadConfig m is = either WholeNow (enough 2 m) _ m (none _ refl) is
step_whole LoadKeyE2 m is = either WholeNow (enough 2 m) _ m (none _ refl) is
step_whole LoadKey m is = either WholeNow (enough 12 m) _ m (none _ refl) is
step_whole CalcCRC m is = either WholeNow (enough 1 m) _ m is is
step_whole Transmit m is = is
step_whole Receive m is = is
step_whole TransceiveSending m is = is
step_whole TransceiveReceiving m is = is

settled_whole : (m : Machine) → WholeNow m → WholeNow (settled m)
unfolding settled stepped
settled_whole m is = step_whole (stepped m).command (stepped m) (step_whole m.command m is)

-- Only a write to Command changes the command: what holds of the one there was, and of the one that a write to Command leaves, holds after
-- any write.
module _ (P : Command → Type 0) where
  abbrev Now : Machine → Type 0
  Now m = P m.command

  control_keeps : (v : ℕ) (m : Machine) → Now m → Now (control_written v m)
  control_keeps v m is =
      let flushes = cond (bit_set v 0) (flushed m) m in
      let stops = cond (bit_set v 2) (timer_stopped flushes) flushes in
      let f : Now flushes = either Now (bit_set v 0) (flushed m) m is is in
      let s : Now stops = either Now (bit_set v 2) (timer_stopped flushes) flushes f f in
      either Now (bit_set v 1) (timer_started stops) stops s s

  register_keeps : (r v : ℕ) (m : Machine) → Now m → Now (command_written v m) → Now (register_written r v m)
  unfolding register_written offered
  register_keeps r v m is by-command =
      either Now (eqb (r % 8) 0) _ _ is
      (either Now (eqb r 0x01) _ _ by-command
      (either Now (eqb r 0x02) _ _ (either Now (ltb (length m.held) 64) _ _ is is)
      (either Now (eqb r 0x06) _ _ is
      (either Now (eqb r 0x07) _ _ is
      (either Now (eqb r 0x09) _ _ (control_keeps v m is)
      (either Now (eqb r 0x0F) _ _ is
      (either Now (leb 0x10 r && ltb r 0x30) _ m is is)))))))

  -- A host write, refused or not.
  write_keeps : (address v : ℕ) (m : Machine) → Now m → Now (settled (register_written (mapped m.page address) v m)) → Now (perform m (host_write address v)).next
  unfolding perform written alerted
  write_keeps address v m is by-write = either (λ (o : Outcome). Now o.next) (eqb (refusal m (host_write address v)) 0) _ _ by-write is

-- No code begins a programming.
started_whole : (code : ℕ) (m : Machine) → WholeNow (command_started code m)
started_whole code m =
    either WholeNow (eqb code 0x00) _ _ (none _ refl)
    (either WholeNow (eqb code 0x01) _ _ (none _ refl)
    (either WholeNow (eqb code 0x03) _ _ (none _ refl)
    (either WholeNow (eqb code 0x07) _ _ (none _ refl)
    (either WholeNow (eqb code 0x0B) _ _ (none _ refl)
    (either WholeNow (eqb code 0x12) _ _ (none _ refl)
    (either WholeNow (eqb code 0x16) _ _ (none _ refl)
    (either WholeNow (eqb code 0x19) _ _ (none _ refl)
    (either WholeNow (eqb code 0x1A) _ _ (none _ refl)
    (either WholeNow (eqb code 0x1E) _ _ (none _ refl) (none _ refl))))))))))

write_begins : (m : Machine) (address v a left : ℕ) (bs : List ℕ) → programs m.command ≡ false →
    (perform m (host_write address v)).next.command ≡ WriteE2 (programming a bs left) → left ≡ programming_clocks
unfolding command_written
write_begins m address v a left bs idle is =
    let before : WholeNow m = none m.command idle in
    let by-command : WholeNow (command_written v m) = either WholeNow (programs m.command) _ _ before (started_whole (v % 64) (cleared_errors m)) in
    let after = settled_whole _ (register_keeps Whole (mapped m.page address) v m before by-command) in
    whole_clocks a left bs (subst Whole is (write_keeps Whole address v m before after))

one_fewer : (m : Machine) (a left : ℕ) (bs : List ℕ) → stands_still m ≡ false → m.command ≡ WriteE2 (programming a bs left) → 1 < left → (clock m).command ≡ WriteE2 (programming a bs (left - 1))
one_fewer m a left bs reaches runs more = ap (λ (y : Machine). y.command) (goes_on_lem m a left bs reaches runs more)

none_fewer : (m : Machine) → stands_still m ≡ true → (clock m).command ≡ m.command
none_fewer m stands = ap (λ (y : Machine). y.command) (clock_stands m stands)

clock_begins : (m : Machine) (a left b left' : ℕ) (bs cs : List ℕ) → stands_still m ≡ false → m.command ≡ WriteE2 (programming a bs left) → left ≤ 1 →
    (clock m).command ≡ WriteE2 (programming b cs left') → left' ≡ programming_clocks
clock_begins m a left b left' bs cs reaches runs last is =
    let whole : WholeNow (programmed a bs (timer_clock m)) = end_any a bs (timer_clock m) WholeNow (none _ refl) (none Idle refl) (λ some high. all _ _ _ refl) in
    whole_clocks b left' cs (subst Whole (ap (λ (y : Machine). y.command) (sym (ends m a left bs reaches runs last)) ∙ is) whole)

write_leaves : (m : Machine) (address v a left : ℕ) (bs : List ℕ) → m.command ≡ WriteE2 (programming a bs left) →
    (perform m (host_write address v)).next.command ≡ WriteE2 (programming a bs left)
unfolding command_written
write_leaves m address v a left bs runs =
    let Runs : Command → Type 0 = λ (c : Command). c ≡ WriteE2 (programming a bs left) in
    let ignored : command_written v m ≡ m = ap (λ (c : Command). cond (programs c) m (command_started (v % 64) (cleared_errors m))) runs in
    let after = register_keeps Runs (mapped m.page address) v m runs (ap (λ (x : Machine). x.command) ignored ∙ runs) in
    write_keeps Runs address v m runs (ap (λ (x : Machine). x.command) (settled_stands _ a left bs after) ∙ after)

-- The statement.
pub programming_time : ProgrammingTime
programming_time = record { write_begins = write_begins; clock_begins = clock_begins; one_fewer = one_fewer; none_fewer = none_fewer; write_leaves = write_leaves }
