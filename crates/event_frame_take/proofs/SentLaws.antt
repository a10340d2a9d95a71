-- Laws of what a frame's sending makes of the chip, by the tests that the code makes.
-- Assumes nothing.
use Prim.Native.Nat.{ℕ, ◌%◌}
use native.Mathlib.Nat.{div-one}
use native.Mathlib.Omega.{arith}
use mathlib.Core.Path.{◌≡◌, refl, sym, ap, ◌∙◌, subst}
use mathlib.Core.Bool.{Bool, true, false, cond, true≢false, ◌||◌}
use mathlib.Core.List.{List, []}
use lib.Dec.{eqb}
use borrow.Author.Tests.{eqb-false, eq-eqb, ne_eqb}
use Rattle.bits.specs.Bits.{bit, bit_set}
use Rattle.machine.specs.State.{Machine, Command, TransceiveSending, with_held}
use Rattle.machine.specs.Fifo.{register_at, alerted}
use Rattle.machine.specs.Timer.{t_start_tx_begin, t_start_tx_end, timer_started}
use Rattle.machine.specs.Commands.{ended}
use Rattle.machine.specs.Frames.{tx_begun, tx_ended, after_sending, sent}
use Rattle.machine.specs.Events.{taken}
use Rattle.state.specs.View.{Core, command_of, raised}
use Rattle.state.specs.Formed.{stage_formed}
use Rattle.state.proofs.StageLaws.{by_stage}
use Rattle.state_fifo.specs.Alerts.{alerts_of, alerted_from}
use Rattle.state_fifo.proofs.AlertLaws.{alerted_from_lem}

-- Bit 0 or bit 1 of a number is set exactly where its remainder by 4 is not 0.
no_bit : (x : ℕ) → x % 4 ≡ 0 → (bit_set x 0 || bit_set x 1) ≡ false
no_bit x none = simp (ne_eqb (bit x 0) 1 (λ e. omega arith), ne_eqb (bit x 1) 1 (λ e. omega arith))

a_bit : (x : ℕ) → (x % 4 ≡ 0 → ⊥) → (bit_set x 0 || bit_set x 1) ≡ true
a_bit x some = go (bit_set x 0) refl
  where
    go : (t : Bool) → bit_set x 0 ≡ t → (t || bit_set x 1) ≡ true
    go true e = refl
    go false e = let even : x % 2 ≡ 0 = omega (arith, div-one x, eqb-false (bit x 0) 1 e) in eq-eqb (bit x 1) 1 (omega arith)

-- A start of the timer changes neither TimerControl nor the command, whether there is one or not.
start_control : (t : Bool) (m : Machine) → t_start_tx_end (cond t (timer_started m) m) ≡ t_start_tx_end m
start_control true m = refl
start_control false m = refl

start_command : (t : Bool) (m : Machine) → (cond t (timer_started m) m).command ≡ m.command
start_command true m = refl
start_command false m = refl

-- A timer that is started twice is started.
starts_once : (b e : Bool) (m : Machine) → cond e (timer_started (cond b (timer_started m) m)) (cond b (timer_started m) m) ≡ cond (b || e) (timer_started m) m
starts_once true true m = refl
starts_once true false m = refl
starts_once false e m = refl

module _ (m : Machine) where
  starts_by : tx_ended (tx_begun m) ≡ cond (t_start_tx_begin m || t_start_tx_end m) (timer_started m) m
  starts_by =
      ap (λ (t : Bool). cond t (timer_started (tx_begun m)) (tx_begun m)) (start_control (t_start_tx_begin m) m)
      ∙ starts_once (t_start_tx_begin m) (t_start_tx_end m) m

  pub not_started : register_at m 0x2B % 4 ≡ 0 → m ≡ tx_ended (tx_begun m)
  not_started none = sym (starts_by ∙ ap (λ (t : Bool). cond t (timer_started m) m) (no_bit (register_at m 0x2B) none))

  pub is_started : (register_at m 0x2B % 4 ≡ 0 → ⊥) → timer_started m ≡ tx_ended (tx_begun m)
  is_started some = sym (starts_by ∙ ap (λ (t : Bool). cond t (timer_started m) m) (a_bit (register_at m 0x2B) some))

  same_command : (tx_ended (tx_begun m)).command ≡ m.command
  same_command = ap (λ (n : Machine). n.command) starts_by ∙ start_command (t_start_tx_begin m || t_start_tx_end m) m

-- What follows the frame, by the stage: at 5Eh a Transceive sends, and at every other one the command ends.
module _ (k : Core) (latch : List ℕ) where
  pub transceive_sends : k.stage ≡ 0x5E → TransceiveSending ≡ command_of k latch
  transceive_sends is = rw is refl

  pub others_end : (m : Machine) → (k.stage ≡ 0x5E → ⊥) → ended m ≡ after_sending (command_of k latch) m
  others_end m other =
      by_stage (λ s command. eqb s 0x5E ≡ false → ended m ≡ after_sending command m) k latch
      (λ e. refl) (λ e. refl) (λ e. refl) (λ e. refl) (λ e. refl) (λ e. refl) (λ e. refl) (λ e. refl) (λ e. refl) (λ e. absurd (true≢false e)) (λ e. refl) (λ o e. refl)
      (ne_eqb k.stage 0x5E other)

-- A Transceive programs nothing, whether it sends or receives: its stage agrees with the other fields after the frame as before.
pub receives_agrees : (stage latched left next : ℕ) → stage ≡ 0x5E → stage_formed stage latched left next ≡ true → stage_formed 0x9E latched left next ≡ true
receives_agrees stage latched left next is = subst (λ (s : ℕ). stage_formed s latched left next ≡ true) is

-- The steps of a take, from the alerts before it.
pub steps_take : (before : ℕ) (m : Machine) → before ≡ alerts_of m →
    let over = raised 0x10 (tx_ended (tx_begun (with_held [] m))) in alerted_from before (after_sending over.command over) ≡ taken m
unfolding taken sent
steps_take before m is =
    let over = raised 0x10 (tx_ended (tx_begun (with_held [] m))) in
    ap (λ (n : ℕ). alerted_from n (after_sending over.command over)) is
    ∙ alerted_from_lem m (after_sending over.command over)
    ∙ ap (λ (d : Command). alerted m (after_sending d over)) (same_command (with_held [] m))
