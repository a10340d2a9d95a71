-- What a write to a register does, by the tests that the code makes of its number, and the alerts over it.
-- Assumes nothing.
use Prim.Native.Nat.{ℕ, ◌-◌, ◌%◌, ◌<◌, ◌≤◌}
use native.Mathlib.Omega.{arith}
use mathlib.Core.Path.{◌≡◌, refl, sym, ap, subst, ◌∙◌}
use mathlib.Core.Bool.{Bool, true, false, cond, ◌&&◌, ◌||◌}
use lib.Dec.{ltb, leb, eqb, lit<}
use lib.ListN.{length, set, length-set}
use borrow.Author.Tests.{ne_eqb, lt-leb, le-leb, lt-ltb, le-ltb}
use Rattle.bits.specs.Bits.{bit_set}
use Rattle.machine.specs.State.{Machine, with_modes, with_registers as state_with_registers}
use Rattle.machine.specs.Fifo.{register_at, flushed, lo_alert, hi_alert, alerted}
use Rattle.machine.specs.Timer.{timer_started, timer_stopped}
use Rattle.machine.specs.Commands.{programs}
use Rattle.machine.specs.Power.{modes_written}
use Rattle.machine.specs.Registers.{page_written, register_written}
use Rattle.state.specs.View.{view, view_of, with_registers}
use Rattle.state.specs.Formed.{fields_formed}
use Rattle.state.specs.Turns.{Sizes, Turned}
use Rattle.state.specs.declared.Chip.{Chip}
use Rattle.state.proofs.TurnLaws.{stays, then, becomes, sized_registers}
use Rattle.state_fifo.specs.Alerts.{alert_bits, alerts_of, alerted_from}
use Rattle.state_fifo.proofs.AlertLaws.{alerted_from_lem, alerted_same}
use Rattle.register_write.specs.Written.{other_written, both_written}

-- Where the held bytes and FIFOLevel stay, no alert is new.
pub quiet : (m m' : Machine) → m'.held ≡ m.held → register_at m' 0x29 ≡ register_at m 0x29 → m' ≡ alerted m m'
quiet m m' held level =
    sym (alerted_same m') ∙ sym (alerted_from_lem m' m') ∙ (λ i. alerted_from (alert_bits (length (held i)) (level i % 64)) m') ∙ alerted_from_lem m m'

-- A turn that does what a write does, and moves no alert, is the write with its alerts.
pub quiet_write : {f : Machine → Machine} {a b : Chip} (r v : ℕ) → Turned f a b → f (view a) ≡ other_written r v (view a) →
    (f (view a)).held ≡ (view a).held → register_at (f (view a)) 0x29 ≡ register_at (view a) 0x29 → Turned (λ m. alerted m (other_written r v m)) a b
quiet_write {f} {a} r v turn writes held level = becomes (λ m. alerted m (other_written r v m)) turn (quiet (view a) (f (view a)) held level ∙ ap (alerted (view a)) writes)

-- Where a flag is set there is a turn, and none where it is not: the two ways through an `if`, which join at a chip that is the one's end.
pub where_set : {f : Machine → Machine} {a b d : Chip} (flag : Bool) → flag ≡ true → d ≡ b → Turned f a b → Turned (λ m. cond flag (f m) m) a d
where_set {f} {a} flag is joined turn =
    let g : Machine → Machine = λ m. cond flag (f m) m in
    subst (Turned g a) (sym joined) (becomes g turn (ap (λ (t : Bool). cond t (f (view a)) (view a)) (sym is)))

pub where_clear : (f : Machine → Machine) {a d : Chip} (flag : Bool) → flag ≡ false → d ≡ a → Sizes a → Turned (λ m. cond flag (f m) m) a d
where_clear f {a} flag is joined sizes =
    let g : Machine → Machine = λ m. cond flag (f m) m in
    subst (Turned g a) (sym joined) (becomes g (stays a sizes) (ap (λ (t : Bool). cond t (f (view a)) (view a)) (sym is)))

-- The alerts are judged over a turn, from those before it.
pub judged : {f : Machine → Machine} {a b d : Chip} (before : ℕ) → before ≡ alerts_of (view a) → Turned f a b → Turned (alerted_from before) b d → Turned (λ m. alerted m (f m)) a d
judged {f} {a} before is turn judges =
    becomes (λ m. alerted m (f m)) (then turn judges) (ap (λ (n : ℕ). alerted_from n (f (view a))) is ∙ alerted_from_lem (view a) (f (view a)))

-- A register of 10h-2Fh is stored.
abbrev pub stores : ℕ → ℕ → Machine → Machine
stores k x m = state_with_registers (set m.registers k x) m

pub register_stored : (k x : ℕ) (c : Chip) → Sizes c → Turned (stores k x) c (with_registers (set c.registers k x) c)
unfolding view_of fields_formed
register_stored k x c sizes =
    record { machine = refl; sizes = sized_registers sizes (set c.registers k x) (length-set c.registers k x ∙ sizes.register_count); fields = λ formed. formed }

-- A write, by its number. One that is known:
pub write_as : (r known v : ℕ) (m : Machine) → r ≡ known → other_written known v m ≡ other_written r v m
write_as r known v m is = ap (λ (n : ℕ). other_written n v m) (sym is)

pub known_write : {a b : Chip} (r known v : ℕ) → (eqb known 0x01 || eqb known 0x02) ≡ false → r ≡ known →
    Turned (λ m. alerted m (register_written known v m)) a b → Turned (λ m. alerted m (other_written r v m)) a b
unfolding other_written
known_write {a} r known v other is turn =
    let here = view a in
    becomes (λ m. alerted m (other_written r v m)) turn (ap (alerted here) (ap (λ (t : Bool). cond t here (register_written known v here)) (sym other) ∙ write_as r known v here is))

module _ (r v : ℕ) (m : Machine) where
  -- Page is at every eighth address.
  pub page_written_lem : r % 8 ≡ 0 → page_written v m ≡ other_written r v m
  unfolding other_written register_written
  page_written_lem page = sym (simp (ne_eqb r 0x01 (λ e. omega (arith, e)), ne_eqb r 0x02 (λ e. omega (arith, e)), page))

  -- Any other that is not known is stored, or a write to it does nothing.
  not_known : (r % 8 ≡ 0 → ⊥) → eqb r 0x01 ≡ false → eqb r 0x02 ≡ false → eqb r 0x06 ≡ false → eqb r 0x07 ≡ false → eqb r 0x09 ≡ false → eqb r 0x0F ≡ false →
      other_written r v m ≡ cond (leb 0x10 r && ltb r 0x30) (stores (r - 0x10) v m) m
  unfolding other_written register_written
  not_known other n01 n02 n06 n07 n09 n0f = simp (n01, n02, ne_eqb (r % 8) 0 other, n06, n07, n09, n0f)

  module _ (other : r % 8 ≡ 0 → ⊥) where
    -- From 10h on.
    above : 0x10 ≤ r → other_written r v m ≡ cond (leb 0x10 r && ltb r 0x30) (stores (r - 0x10) v m) m
    above high = not_known other (apart 0x01 (lit< tt)) (apart 0x02 (lit< tt)) (apart 0x06 (lit< tt)) (apart 0x07 (lit< tt)) (apart 0x09 (lit< tt)) (apart 0x0F (lit< tt))
      where
        apart : (k : ℕ) → k < 0x10 → eqb r k ≡ false
        apart k low = ne_eqb r k (λ e. omega (arith, e))

    pub high_stored : 0x10 ≤ r → r < 0x30 → stores (r - 0x10) v m ≡ other_written r v m
    high_stored high low = sym (above high ∙ simp (le-leb 0x10 r high, lt-ltb r 0x30 low))

    pub high_unused : 0x30 ≤ r → m ≡ other_written r v m
    high_unused high = sym (above (omega arith) ∙ simp (le-leb 0x10 r (omega arith), le-ltb r 0x30 high))

    -- Command, FIFOData and those that a write does not change.
    pub low_unused : r < 0x10 → (r ≡ 0x06 → ⊥) → (r ≡ 0x07 → ⊥) → (r ≡ 0x09 → ⊥) → (r ≡ 0x0F → ⊥) → m ≡ other_written r v m
    unfolding other_written
    low_unused low n06 n07 n09 n0f = go (eqb r 0x01) (eqb r 0x02) refl refl
      where
        go : (a b : Bool) → eqb r 0x01 ≡ a → eqb r 0x02 ≡ b → m ≡ other_written r v m
        go true b n01 n02 = sym (simp n01)
        go false true n01 n02 = sym (simp (n01, n02))
        go false false n01 n02 =
            sym (not_known other n01 n02 (ne_eqb r 0x06 n06) (ne_eqb r 0x07 n07) (ne_eqb r 0x09 n09) (ne_eqb r 0x0F n0f) ∙ simp (lt-leb 0x10 r low))

-- Control: neither the timer nor the power modes move an alert. The modes are written by the command and the modes from before: a flush, a stop and a start
-- leave both as they are.
abbrev timed : Bool → Bool → Machine → Machine
timed stop start m = let stops = cond stop (timer_stopped m) m in cond start (timer_started stops) stops

abbrev pub controls : Bool → Bool → ℕ → Machine → Machine
controls stop start v m = both_written v (timed stop start m)

controls_alerted : (stop start : Bool) (v : ℕ) (b m : Machine) →
    controls stop start v (alerted b m) ≡ alerted b (with_modes (modes_written (programs m.command) v m.status.modes) (timed stop start m))
unfolding alerted hi_alert lo_alert
controls_alerted true true v b m = refl
controls_alerted true false v b m = refl
controls_alerted false true v b m = refl
controls_alerted false false v b m = refl

pub control_alerted : (v : ℕ) (m : Machine) →
    controls (bit_set v 2) (bit_set v 1) v (cond (bit_set v 0) (alerted m (flushed m)) m) ≡ alerted m (register_written 0x09 v m)
unfolding register_written
control_alerted v m = go (bit_set v 0)
  where
    go : (flush : Bool) →
        controls (bit_set v 2) (bit_set v 1) v (cond flush (alerted m (flushed m)) m)
        ≡ alerted m (with_modes (modes_written (programs m.command) v m.status.modes) (timed (bit_set v 2) (bit_set v 1) (cond flush (flushed m) m)))
    go true = controls_alerted (bit_set v 2) (bit_set v 1) v m (flushed m)
    go false = ap (controls (bit_set v 2) (bit_set v 1) v) (sym (alerted_same m)) ∙ controls_alerted (bit_set v 2) (bit_set v 1) v m m
