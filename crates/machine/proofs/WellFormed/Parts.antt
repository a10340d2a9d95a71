-- A machine's parts, each with what being well formed asks of it. An operation proves only the parts that it changes.
-- Assumes nothing.
use Prim.Native.Nat.{ℕ, ◌≤◌}
use mathlib.Core.Path.{◌≡◌, refl, sym, ap, ◌∙◌}
use mathlib.Core.Bool.{Bool, true, false, ◌&&◌, false≢true}
use mathlib.Core.List.{List}
use lib.Dec.{leb}
use lib.ListN.{length}
use borrow.Author.Tests.{leb-true, le-leb}
use Rattle.bits.specs.Bits.{Bytes}
use Rattle.edition.specs.Edition.{is_of}
use Rattle.machine.specs.State.{Machine, Command, Timer, Checksum, WriteE2, programming}
use Rattle.machine.specs.Commands.{programs}
use Rattle.machine.specs.WellFormed.{fifo_formed, nothing_pends, timer_formed, command_formed, checksum_formed, modes_formed, bits_formed, waits, latched_bytes, well_formed}
use Rattle.machine.specs.WellFormedness.{Formed}

-- Both of two tests hold, and each of two that hold together.
pub both : {a b : Bool} → a ≡ true → b ≡ true → (a && b) ≡ true
both {a} {b} p q = rw (p, q)

pub each : (a b : Bool) → (a && b) ≡ true → (a ≡ true) × (b ≡ true)
each true b h = (refl, h)
each false b h = absurd (false≢true h)

-- The clauses that follow those on the edition and the FIFO.
abbrev pub others_formed : Machine → Bool
others_formed m =
    timer_formed m.timer
    && (command_formed m.command
    && (nothing_pends m.command m.held
    && (checksum_formed m.checksum
    && (modes_formed (programs m.command) m.status.modes
    && bits_formed m.page m.status.rx_last_bits))))

-- What a machine that is well formed has of it: a memory of its edition, at most 64 bytes held, a timer and a command that are formed.
module _ (m : Machine) (well : well_formed m ≡ true) where
  pub well_edition : is_of m.edition m.eeprom ≡ true
  unfolding well_formed
  well_edition = (each (is_of m.edition m.eeprom) _ well).0

  pub well_held : length m.held ≤ 64
  unfolding well_formed
  well_held = leb-true (length m.held) 64 (each (fifo_formed m.held) _ (each (is_of m.edition m.eeprom) _ well).1).0

  pub well_others : others_formed m ≡ true
  unfolding well_formed
  well_others = (each (fifo_formed m.held) _ (each (is_of m.edition m.eeprom) _ well).1).1

  pub well_timer : timer_formed m.timer ≡ true
  well_timer = (each (timer_formed m.timer) _ well_others).0

  pub well_command : command_formed m.command ≡ true
  well_command = (each (command_formed m.command) _ (each (timer_formed m.timer) _ well_others).1).0

  pub well_modes : modes_formed (programs m.command) m.status.modes ≡ true
  well_modes =
      let (timed, h₂) = each (timer_formed m.timer) _ well_others in
      let (commanded, h₃) = each (command_formed m.command) _ h₂ in
      let (rests, h₄) = each (nothing_pends m.command m.held) _ h₃ in (each (modes_formed (programs m.command) m.status.modes) _ (each (checksum_formed m.checksum) _ h₄).1).0

  -- a programming has a clock left
  pub some_left : (a left : ℕ) (bs : List ℕ) → m.command ≡ WriteE2 (programming a bs left) → 1 ≤ left
  some_left a left bs is = leb-true 1 left (each (leb 1 left) _ (sym (ap command_formed is) ∙ well_command)).0

-- The active command is formed, and the bytes that it latched are bytes.
pub record Active (c : Command) : Type 0 where
  pub formed : command_formed c ≡ true
  pub latched : Bytes (latched_bytes c)

-- The FIFO holds at most 64 bytes.
pub record Waiting (bs : List ℕ) : Type 0 where
  pub fits : length bs ≤ 64
  pub bytes : Bytes bs

-- A memory of n bytes.
pub record Memory (n : ℕ) (bs : List ℕ) : Type 0 where
  pub bytes : Bytes bs
  pub count : length bs ≡ n

-- The parts, without what the command asks of the waiting bytes.
pub record Parts (page last : ℕ) (c : Command) (bs : List ℕ) (t : Timer) (s : Checksum) (rs es : List ℕ) : Type 0 where
  pub bits : bits_formed page last ≡ true
  pub command : Active c
  pub held : Waiting bs
  pub timer : timer_formed t ≡ true
  pub checksum : checksum_formed s ≡ true
  pub registers : Memory 32 rs
  pub eeprom : Memory 512 es

-- A machine that is well formed but for waiting bytes that its command could take.
abbrev pub Almost : Machine → Type 0
Almost m = Parts m.page m.status.rx_last_bits m.command m.held m.timer m.checksum m.registers m.eeprom

-- The same under a name that does not compute, for long chains of choices.
pub record Kept (m : Machine) : Type 0 where
  pub parts : Almost m

pub keep : (m : Machine) → Almost m → Kept m
keep m a = record { parts = a }

-- Its command could take no waiting byte.
abbrev pub Rests : Machine → Type 0
Rests m = length m.held ≤ waits m.command

-- A well-formed machine, but for what is asked of its edition and of its power modes.
abbrev pub Good : Machine → Type 0
Good m = Almost m × Rests m

-- With a memory of its edition, and its modes formed, it is what being well formed says, both ways.
pub good_formed : (m : Machine) → Good m → is_of m.edition m.eeprom ≡ true → modes_formed (programs m.command) m.status.modes ≡ true → Formed m
unfolding well_formed
good_formed m (a, r) own modes =
    record {
      well =
          both own
          (both (le-leb (length m.held) 64 a.held.fits)
          (both a.timer
          (both a.command.formed
          (both (le-leb (length m.held) (waits m.command) r)
          (both a.checksum
          (both modes
          a.bits))))));
      sized =
          record {
            held_bytes = a.held.bytes;
            latched_bytes_lem = a.command.latched;
            register_bytes = a.registers.bytes;
            register_count = a.registers.count;
            eeprom_bytes = a.eeprom.bytes;
            eeprom_count = a.eeprom.count;
          };
    }

pub formed_good : (m : Machine) → Formed m → Good m
formed_good m f =
    let (timed, h₂) = each (timer_formed m.timer) _ (well_others m f.well) in
    let (commanded, h₃) = each (command_formed m.command) _ h₂ in
    let (rests, h₄) = each (nothing_pends m.command m.held) _ h₃ in
    let (summed, h₅) = each (checksum_formed m.checksum) _ h₄ in
    let (modes, bits) = each (modes_formed (programs m.command) m.status.modes) _ h₅ in (
      record {
        bits = bits;
        command = record { formed = commanded; latched = f.sized.latched_bytes_lem };
        held = record { fits = well_held m f.well; bytes = f.sized.held_bytes };
        timer = timed;
        checksum = summed;
        registers = record { bytes = f.sized.register_bytes; count = f.sized.register_count };
        eeprom = record { bytes = f.sized.eeprom_bytes; count = f.sized.eeprom_count };
      },
      leb-true (length m.held) (waits m.command) rests,
    )

-- One part is changed, the others stay.
module _ {page last : ℕ} {c : Command} {bs : List ℕ} {t : Timer} {s : Checksum} {rs es : List ℕ} (p : Parts page last c bs t s rs es) where
  pub new_bits : (page' last' : ℕ) → bits_formed page' last' ≡ true → Parts page' last' c bs t s rs es
  new_bits page' last' h = record { bits = h; command = p.command; held = p.held; timer = p.timer; checksum = p.checksum; registers = p.registers; eeprom = p.eeprom }

  pub new_command : (c' : Command) → command_formed c' ≡ true → Bytes (latched_bytes c') → Parts page last c' bs t s rs es
  new_command c' h w = record { bits = p.bits; command = record { formed = h; latched = w }; held = p.held; timer = p.timer; checksum = p.checksum; registers = p.registers; eeprom = p.eeprom }

  pub new_held : (bs' : List ℕ) → length bs' ≤ 64 → Bytes bs' → Parts page last c bs' t s rs es
  new_held bs' h w = record { bits = p.bits; command = p.command; held = record { fits = h; bytes = w }; timer = p.timer; checksum = p.checksum; registers = p.registers; eeprom = p.eeprom }

  pub new_timer : (t' : Timer) → timer_formed t' ≡ true → Parts page last c bs t' s rs es
  new_timer t' h = record { bits = p.bits; command = p.command; held = p.held; timer = h; checksum = p.checksum; registers = p.registers; eeprom = p.eeprom }

  pub new_checksum : (s' : Checksum) → checksum_formed s' ≡ true → Parts page last c bs t s' rs es
  new_checksum s' h = record { bits = p.bits; command = p.command; held = p.held; timer = p.timer; checksum = h; registers = p.registers; eeprom = p.eeprom }

  pub new_registers : (rs' : List ℕ) → Bytes rs' → length rs' ≡ 32 → Parts page last c bs t s rs' es
  new_registers rs' w h = record { bits = p.bits; command = p.command; held = p.held; timer = p.timer; checksum = p.checksum; registers = record { bytes = w; count = h }; eeprom = p.eeprom }

  pub new_eeprom : (es' : List ℕ) → Bytes es' → length es' ≡ 512 → Parts page last c bs t s rs es'
  new_eeprom es' w h = record { bits = p.bits; command = p.command; held = p.held; timer = p.timer; checksum = p.checksum; registers = p.registers; eeprom = record { bytes = w; count = h } }
