-- Laws of one clock: it does not read the alert requests, and it lets no byte into the FIFO and leaves the registers as they are.
-- Assumes nothing.
use Prim.Native.Nat.{ℕ, zero, suc, ◌+◌, ◌^◌, ◌≤◌}
use native.Mathlib.Nat.{le_trans}
use native.Mathlib.Omega.{arith}
use mathlib.Core.Path.{◌≡◌, refl, sym, ap, ◌∙◌}
use mathlib.Core.Bool.{Bool, true, false, cond, not, ◌&&◌, ◌||◌, or_assoc}
use lib.Dec.{ltb, leb, eqb}
use lib.ListN.{length, drop, length-drop}
use Rattle.machine.specs.State.{Machine, Command, Writing, Idle, WriteE2, ReadE2, LoadConfig, LoadKeyE2, LoadKey, CalcCRC, Transmit, Receive, TransceiveSending, TransceiveReceiving, addressing, ready, programming, with_requests, with_modes}
use Rattle.machine.specs.Timer.{timer_clock}
use Rattle.machine.specs.Commands.{enough, write_stepped, stepped_as, stepped, settled}
use Rattle.machine.specs.Memory.{room_in_block}
use Rattle.machine.proofs.Cases.{either, while_programming_lem}
use Rattle.machine.specs.Events.{programming_clocked, command_clocked, reached, ends_programming, clock, clocks}
use Rattle.machine.specs.Power.{modes_clocked, stands_still}

-- The machine with these requests of HiAlert and LoAlert.
abbrev pub requesting : Bool → Bool → Machine → Machine
requesting hi lo m =
    with_requests
    (record {
      timer = m.status.requests.timer;
      tx = m.status.requests.tx;
      rx = m.status.requests.rx;
      idle = m.status.requests.idle;
      hi_alert = hi;
      lo_alert = lo;
    })
    m

-- The two requests are set, each where its flag says so; nothing else changes.
abbrev pub raising : Bool → Bool → Machine → Machine
raising hi lo m = requesting (m.status.requests.hi_alert || hi) (m.status.requests.lo_alert || lo) m

-- A flag that turns at most once sets its request over two events, from x to y and from y to z, just where it does over both as one.
pub once : (r x y z : Bool) → (x ≡ false → y ≡ true → z ≡ true) → (x ≡ true → y ≡ false → z ≡ false) → (r || (not x && z)) ≡ (r || (not x && y) || (not y && z))
once r x y z up down = ap (λ (t : Bool). r || t) (turn x y up down) ∙ sym (or_assoc r (not x && y) (not y && z))
  where
    turn : (x y : Bool) → (x ≡ false → y ≡ true → z ≡ true) → (x ≡ true → y ≡ false → z ≡ false) → (not x && z) ≡ (not x && y || not y && z)
    turn true true up down = refl
    turn true false up down = sym (down refl refl)
    turn false true up down = up refl refl
    turn false false up down = refl

-- The commands that follow a WriteE2: itself, or none.
data Writes : Command → Type 0 where
  over : Writes Idle
  writing : (w : Writing) → Writes (WriteE2 w)

-- The machine is in such a command.
abbrev WritesNow : Machine → Type 0
WritesNow m = Writes m.command

-- A step of a WriteE2 leaves it active, or none.
write_stepped_writes : (w : Writing) (m : Machine) → WritesNow m → WritesNow (write_stepped w m)
write_stepped_writes addressing m is = either WritesNow (enough 2 m) _ m (writing _) is
write_stepped_writes (ready a) m is = either WritesNow (enough 1 m) _ m (either WritesNow (ltb a 0x10) _ _ over (writing _)) is
write_stepped_writes (programming a bs left) m is = is

stepped_as_writes : {c : Command} → Writes c → (m : Machine) → WritesNow m → WritesNow (stepped_as c m)
stepped_as_writes over m is = is
stepped_as_writes (writing w) m is = write_stepped_writes w m is

module _ (hi lo : Bool) where
  -- A change is calm: from m it leads to y, and from m with the requests set to z, which is y with the requests set. No byte comes into the
  -- FIFO, and the registers stand.
  pub record Calm (m y z : Machine) : Type 0 where
    pub raised : z ≡ raising hi lo y
    pub held_falls : length y.held ≤ length m.held
    pub registers_stand : y.registers ≡ m.registers

  -- A change that drops so many held bytes, and sets other parts.
  dropping : (k : ℕ) {m y z : Machine} → z ≡ raising hi lo y → y.held ≡ drop k m.held → y.registers ≡ m.registers → Calm m y z
  dropping k {m} {y} {z} is held registers = record { raised = is; held_falls = rw held (simp length-drop (omega arith)); registers_stand = registers }

  -- Nothing changes.
  still : (m : Machine) → Calm m m (raising hi lo m)
  still m = dropping 0 refl refl refl

  -- A test that reads no request picks between two calm changes.
  picks : (t : Bool) {m y z y' z' : Machine} → Calm m y z → Calm m y' z' → Calm m (cond t y y') (cond t z z')
  picks true p q = p
  picks false p q = q

  -- One calm change after another.
  followed : (f : Machine → Machine) {m y z : Machine} → Calm m y z → Calm y (f y) (f (raising hi lo y)) → Calm m (f y) (f z)
  followed f p q =
      record {
        raised = ap f p.raised ∙ q.raised;
        held_falls = le_trans q.held_falls p.held_falls;
        registers_stand = q.registers_stand ∙ p.registers_stand;
      }

  -- The timer's clock sets the timer and its request.
  timer_calm : (m : Machine) → Calm m (timer_clock m) (timer_clock (raising hi lo m))
  unfolding timer_clock
  timer_calm m =
      picks m.timer.running
      (picks (ltb (m.timer.phase + 1) (2 ^ m.timer.prescaler)) (dropping 0 refl refl refl)
      (picks (ltb 1 m.timer.value) (dropping 0 refl refl refl) (dropping 0 refl refl refl)))
      (dropping 0 refl refl refl)

  -- A WriteE2 takes its address, latches waiting bytes, or ends with them in place.
  write_stepped_calm : (w : Writing) (m : Machine) → Calm m (write_stepped w m) (write_stepped w (raising hi lo m))
  write_stepped_calm addressing m = picks (enough 2 m) (dropping 2 refl refl refl) (dropping 0 refl refl refl)
  write_stepped_calm (ready a) m =
      picks (enough 1 m) (picks (ltb a 0x10) (dropping 0 refl refl refl) (dropping (room_in_block a) refl refl refl)) (dropping 0 refl refl refl)
  write_stepped_calm (programming a bs left) m = still m

  stepped_as_calm : {c : Command} → Writes c → (m : Machine) → Calm m (stepped_as c m) (stepped_as c (raising hi lo m))
  stepped_as_calm over m = still m
  stepped_as_calm (writing w) m = write_stepped_calm w m

  -- Both steps of a WriteE2 that settles.
  settled_calm : (m : Machine) → WritesNow m → Calm m (settled m) (settled (raising hi lo m))
  unfolding settled stepped
  settled_calm m is = followed stepped (stepped_as_calm is m) (stepped_as_calm (stepped_as_writes is m is) (stepped m))

  -- A programming counts down; at its end its bytes are stored, and waiting ones are latched. No other command has anything to do with a clock.
  command_clocked_calm : (c : Command) (m : Machine) → Calm m (command_clocked c m) (command_clocked c (raising hi lo m))
  command_clocked_calm c m =
      while_programming_lem (λ (f : Machine → Machine). Calm m (f m) (f (raising hi lo m))) programming_clocked (λ n. n) c
      (λ a bs left is.
      picks (leb left 1)
      (picks (eqb (length m.held) 0) (dropping 0 refl refl refl) (followed settled (dropping 0 refl refl refl) (settled_calm _ (writing _))))
      (dropping 0 refl refl refl))
      (still m)

  -- A clock, whether it reaches timer and programming or not, and so any number of them.
  reached_calm : (m : Machine) → Calm m (reached m) (reached (raising hi lo m))
  unfolding reached
  reached_calm m = followed (command_clocked m.command) (timer_calm m) (command_clocked_calm m.command (timer_clock m))

  clock_calm : (m : Machine) → Calm m (clock m) (clock (raising hi lo m))
  unfolding clock
  clock_calm m = picks (stands_still m) (dropping 0 refl refl refl) (followed (with_modes (modes_clocked (ends_programming m.command) m.status.modes)) (reached_calm m) (dropping 0 refl refl refl))

  pub clocks_calm : (n : ℕ) (m : Machine) → Calm m (clocks n m) (clocks n (raising hi lo m))
  unfolding clocks
  clocks_calm zero m = still m
  clocks_calm (suc n) m = followed (clocks n) (clock_calm m) (clocks_calm n (clock m))
