-- What a write leaves to the active command, by what the code knows: nothing, or CalcCRC's sum of one byte; the stage that CalcCRC begins with; and the alerts.
-- Assumes nothing.
use Prim.Native.Nat.{ℕ, ◌+◌, ◌%◌, ◌<◌, ◌≤◌}
use native.Mathlib.Omega.{arith}
use mathlib.Core.Path.{◌≡◌, refl, sym, ap, ◌∙◌}
use mathlib.Core.Bool.{Bool, true, false, cond, true≢false, ◌&&◌, ◌||◌}
use mathlib.Core.List.{List, [], ◌∷◌, ◌++◌}
use lib.Dec.{ltb, leb, eqb}
use lib.ListN.{length, set, length-set}
use borrow.Author.Tests.{eqb-true, ne_eqb, lt-leb}
use Rattle.bits.specs.Bits.{bit_set}
use Rattle.crc.specs.Checksum.{after_bytes}
use Rattle.machine.specs.State.{Machine, Command, Idle, WriteE2, ReadE2, LoadConfig, LoadKeyE2, LoadKey, CalcCRC, Transmit, Receive, TransceiveSending, TransceiveReceiving, addressing, ready, programming, with_held, with_command}
use Rattle.machine.specs.WellFormed.{waits}
use Rattle.machine.specs.Fifo.{offered, lost_at, flushed, alerted}
use Rattle.machine.specs.Timer.{timer_started, timer_stopped}
use Rattle.machine.specs.Commands.{code_of, programs, cleared_errors, command_started, command_written, enough, stepped_as, settled, lost_settling}
use Rattle.machine.specs.Registers.{control_written, register_written, lost_at_register}
use Rattle.machine.proofs.Cases.{by_cond, either}
use Rattle.machine.proofs.Lost.{other_loses_none, waiting_loses_none}
use Rattle.machine.proofs.WellFormed.Parts.{both}
use Rattle.state.specs.View.{Core, core, command_of, view, view_of, with_state}
use Rattle.state.specs.Formed.{agree}
use Rattle.state.specs.Turns.{Sizes, Turned}
use Rattle.state.specs.declared.Chip.{Chip}
use Rattle.state.proofs.StoreLaws.{at_set, stored, next_near, others_agree}
use Rattle.state.proofs.TurnLaws.{then, sized_state}
use Rattle.state_fifo.specs.Alerts.{alerts_of, alerted_from}
use Rattle.state_fifo.proofs.FifoLaws.{offer_stored, none_lost}
use Rattle.command_begin.proofs.BeginLaws.{write_starts}
use Rattle.command_work.proofs.SettleLaws.{settled_rests, settled_sums, others_rest, stage_loses_none}
use Rattle.register_write.specs.Written.{other_written}
use Rattle.register_write.proofs.WriteLaws.{quiet, judged}
use Rattle.event_host_write.specs.Summing.{byte_summed, checksum_begun}

-- The alerts are judged over a change and over what the active command then does, from those before both.
pub worked_over : {f : Machine → Machine} (a b d : Chip) {e : Chip} (before : ℕ) → before ≡ alerts_of (view a) →
    Turned f a b → Turned settled b d → Turned (alerted_from before) d e → Turned (λ m. alerted m (settled (f m))) a e
worked_over a b d before is changes works judges = judged before is (then changes works) judges

-- A command that has no more bytes than may wait does nothing with them.
lacks : (n : ℕ) (m x : Machine) → length m.held < n → m ≡ cond (enough n m) x m
lacks n m x few = ap (λ (t : Bool). cond t x m) (sym (lt-leb n (length m.held) few))

rests : (d : Command) (m : Machine) → length m.held ≤ waits d → m ≡ stepped_as d m
rests Idle m few = refl
rests (WriteE2 addressing) m few = lacks 2 m _ (omega arith)
rests (WriteE2 (ready a)) m few = lacks 1 m _ (omega arith)
rests (WriteE2 (programming a bs left)) m few = refl
rests ReadE2 m few = lacks 3 m _ (omega arith)
rests LoadConfig m few = lacks 2 m _ (omega arith)
rests LoadKeyE2 m few = lacks 2 m _ (omega arith)
rests LoadKey m few = lacks 12 m _ (omega arith)
rests CalcCRC m few = lacks 1 m _ (omega arith)
rests Transmit m few = refl
rests Receive m few = refl
rests TransceiveSending m few = refl
rests TransceiveReceiving m few = refl

-- A byte is offered where the stage's command takes none: Idle, and the commands that send or receive.
offered_command : (v : ℕ) (m : Machine) → m.command ≡ (offered v m).command
unfolding offered
offered_command v m = either (λ (x : Machine). m.command ≡ x.command) (ltb (length m.held) 64) _ _ refl refl

pub byte_waits : (v : ℕ) (m : Machine) (k : Core) (latch : List ℕ) → command_of k latch ≡ m.command → (eqb k.stage 0x00 || leb 0x5A k.stage) ≡ true →
    alerted m (offered v m) ≡ alerted m (settled (offered v m))
byte_waits v m k latch is test =
    ap (alerted m)
    (settled_rests (offered v m)
    (others_rest (offered v m) k latch (((((((tt, apart 0x01 refl), apart 0x41 refl), apart 0x03 refl), apart 0x07 refl), apart 0x0B refl), apart 0x12 refl), apart 0x19 refl)
    ∙ ap (λ (d : Command). stepped_as d (offered v m)) (is ∙ offered_command v m)))
  where
    apart : (s : ℕ) → (eqb s 0x00 || leb 0x5A s) ≡ false → k.stage ≡ s → ⊥
    apart s fails e = true≢false (sym test ∙ ap (λ (n : ℕ). eqb n 0x00 || leb 0x5A n) e ∙ fails)

-- No byte beside its own is lost then.
pub byte_waiting_loses : (v : ℕ) (m : Machine) (k : Core) (latch : List ℕ) → command_of k latch ≡ m.command → (eqb k.stage 0x00 || leb 0x5A k.stage) ≡ true →
    0 ≡ lost_settling (offered v m)
byte_waiting_loses v m k latch is test =
    stage_loses_none k latch (offered v m) (sym (is ∙ offered_command v m))
    (ne_eqb k.stage 0x03 (λ e. true≢false (sym test ∙ ap (λ (n : ℕ). eqb n 0x00 || leb 0x5A n) e)))

-- CalcCRC that holds nothing takes a byte at once. No alert moves, since none is held after it either.
no_bytes : (l : List ℕ) → length l ≤ 0 → l ≡ []
no_bytes [] none = refl
no_bytes (x ∷ l) none = absurd (omega arith)

pub byte_summed_lem : (v : ℕ) (m : Machine) → m.command ≡ CalcCRC → length m.held ≤ 0 → byte_summed v m ≡ alerted m (settled (offered v m))
unfolding after_bytes
byte_summed_lem v m is none =
    let empty = no_bytes m.held none in
    let offers : offered v m ≡ with_held (v ∷ []) m = offer_stored v m (omega arith) ∙ ap (λ (l : List ℕ). with_held (l ++ v ∷ []) m) empty in
    quiet m (byte_summed v m) refl refl
    ∙ ap (alerted m) (ap (λ (l : List ℕ). with_held l (byte_summed v m)) empty ∙ settled_sums (with_held (v ∷ []) m) is ∙ ap settled (sym offers))

pub byte_summed_loses : (v : ℕ) (m : Machine) → m.command ≡ CalcCRC → length m.held ≤ 0 → 0 ≡ lost_at m + lost_settling (offered v m)
byte_summed_loses v m is none =
    omega (arith, none_lost m (omega arith), other_loses_none (offered v m) (ap (λ (c : Command). eqb (code_of c) 0x03) (sym (offered_command v m) ∙ is)))

-- CalcCRC begins where nothing is held and no programming runs.
pub checksum_begins : (v : ℕ) (m : Machine) → v % 64 ≡ 0x12 → programs m.command ≡ false → length m.held ≤ 0 →
    checksum_begun m ≡ alerted m (settled (command_written v m))
checksum_begins v m code free none =
    quiet m (checksum_begun m) refl refl
    ∙ ap (alerted m)
    (settled_rests (checksum_begun m) (rests CalcCRC (checksum_begun m) none)
    ∙ ap settled (ap (λ (n : ℕ). command_started n (cleared_errors m)) (sym code) ∙ write_starts v m free))

pub begun_loses : (v : ℕ) (m : Machine) → v % 64 ≡ 0x12 → programs m.command ≡ false → 0 ≡ lost_settling (command_written v m)
begun_loses v m code free =
    sym (other_loses_none (checksum_begun m) refl) ∙ ap lost_settling (ap (λ (n : ℕ). command_started n (cleared_errors m)) (sym code) ∙ write_starts v m free)

-- Its stage is stored, where no programming clocks are left: so the fields go on agreeing.
pub checksum_staged : (c : Chip) → (core c).left ≡ 0 → Sizes c → Turned (with_command CalcCRC) c (with_state (set c.state 12 0x12) c)
unfolding view_of
checksum_staged c none sizes =
    stored (with_state (set c.state 12 0x12) c) refl refl (at_set c.state 12 0x12 (omega (arith, sizes.state_count))) (with_command CalcCRC) c
    (sized_state sizes (set c.state 12 0x12) (length-set c.state 12 0x12 ∙ sizes.state_count)) refl
    (λ formed. both (both (ap (λ (n : ℕ). agree (ltb 0 n) false) none) (next_near c formed)) (others_agree c formed))

-- Any other write leaves the command, and leaves the held bytes or none of them, so that nothing pends after it.
module _ (m : Machine) where
  -- The command stays, and no more bytes are held.
  abbrev NoMore : Machine → Type 0
  NoMore x = (x.command ≡ m.command) × (length x.held ≤ length m.held)

  -- The same under a name that does not compute, for the chain of registers.
  record Kept (x : Machine) : Type 0 where
    is : NoMore x

  same : NoMore m
  same = (refl, omega arith)

  keep : (x : Machine) → NoMore x → Kept x
  keep x stays = record { is = stays }

  -- Control may flush.
  control_keeps : (v : ℕ) → NoMore (control_written v m)
  control_keeps v =
      let flushes = cond (bit_set v 0) (flushed m) m in
      let stops = cond (bit_set v 2) (timer_stopped flushes) flushes in
      let f : NoMore flushes = either NoMore (bit_set v 0) (flushed m) m (refl, omega arith) same in
      let s : NoMore stops = either NoMore (bit_set v 2) (timer_stopped flushes) flushes f f in
      either NoMore (bit_set v 1) (timer_started stops) stops s s

  module _ (r v : ℕ) (n01 : r ≡ 0x01 → ⊥) (n02 : r ≡ 0x02 → ⊥) where
    -- Any register but Command and FIFOData.
    written_keeps : Kept (register_written r v m)
    unfolding register_written
    written_keeps =
        either Kept (eqb (r % 8) 0) _ _ (keep _ same)
        (by_cond Kept (eqb r 0x01) _ _ (λ e. absurd (n01 (eqb-true r 0x01 e))) (λ e.
        by_cond Kept (eqb r 0x02) _ _ (λ e. absurd (n02 (eqb-true r 0x02 e))) (λ e.
        either Kept (eqb r 0x06) _ _ (keep _ same)
        (either Kept (eqb r 0x07) _ _ (keep _ same)
        (either Kept (eqb r 0x09) _ _ (keep _ (control_keeps v))
        (either Kept (eqb r 0x0F) _ _ (keep _ same)
        (either Kept (leb 0x10 r && ltb r 0x30) _ _ (keep _ same) (keep _ same))))))))

    -- So no more bytes are held than may wait.
    module _ (few : length m.held ≤ waits m.command) where
      fewer : length (register_written r v m).held ≤ waits (register_written r v m).command
      fewer = let (command, held) = written_keeps.is in rw command (omega arith)

      pub other_settles : other_written r v m ≡ settled (register_written r v m)
      unfolding other_written
      other_settles =
          let x = register_written r v m in
          let is : other_written r v m ≡ x = simp (ne_eqb r 0x01 n01, ne_eqb r 0x02 n02) in
          is ∙ settled_rests x (rests x.command x fewer)

      pub other_loses : 0 ≡ lost_at_register r m + lost_settling (register_written r v m)
      other_loses =
          let own : 0 ≡ lost_at_register r m = ap (λ (t : Bool). cond t (lost_at m) 0) (sym (ne_eqb r 0x02 n02)) in
          omega (arith, own, waiting_loses_none (register_written r v m) fewer)
