-- Laws of a host write: a turn of the chip that does what the write is to do meets the call's promise, for each way of the code.
-- Assumes nothing.
use Prim.Native.Nat.{ℕ, ◌+◌, ◌%◌, ◌<◌, ◌≤◌}
use native.Mathlib.Omega.{arith}
use mathlib.Core.Path.{◌≡◌, refl, sym, ap, ◌∙◌}
use mathlib.Core.Bool.{Bool, true, false, not, ◌&&◌, ◌||◌}
use mathlib.Core.List.{[]}
use lib.Dec.{leb, eqb}
use lib.ListN.{length}
use borrow.Author.Tests.{eqb-true, le-ltb}
use Rattle.machine.specs.State.{Machine, CalcCRC}
use Rattle.machine.specs.WellFormed.{waits}
use Rattle.machine.specs.Fifo.{offered, lost_at, alerted}
use Rattle.machine.specs.Commands.{programs, command_written, settled, lost_settling}
use Rattle.machine.specs.Registers.{mapped, register_written, lost_at_register}
use Rattle.machine.specs.Refusals.{host_write, refuse_if}
use Rattle.machine.specs.Events.{written, lost_writing, lost}
use Rattle.machine.proofs.WellFormed.Parts.{each, formed_good}
use Rattle.state.specs.View.{core, view, view_of}
use Rattle.state.specs.Formed.{writes, chip_formed}
use Rattle.state.specs.Turns.{Turned}
use Rattle.state.specs.Meets.{coded, Meets, Whole}
use Rattle.state.specs.declared.Chip.{Chip}
use Rattle.state.proofs.StageLaws.{stage_programs}
use Rattle.state.proofs.TurnLaws.{becomes}
use Rattle.state.proofs.MeetLaws.{write_refusal, own_fields_formed, machine_formed, accepted_here}
use Rattle.register_write.specs.Written.{other_written}
use Rattle.event_host_write.specs.Summing.{byte_summed, checksum_begun, only_begins}
use Rattle.event_host_write.proofs.WorkLaws.{byte_waits, byte_waiting_loses, byte_summed_lem, byte_summed_loses, checksum_begins, begun_loses, other_settles, other_loses}

-- A write that is not refused, and the register that its address is.
pub record Passes (c : Chip) (address register v : ℕ) : Type 0 where
  pub formed : chip_formed c ≡ true
  pub whole : Whole c
  pub low : address < 64
  pub byte : v < 256
  pub is : register ≡ mapped (view c).page address

-- How many bytes a write of v to a register loses.
abbrev lost_all : ℕ → Machine → ℕ → ℕ
lost_all v m r = lost_at_register r m + lost_settling (register_written r v m)

-- A write by which n bytes are lost, and its answer.
module _ {c : Chip} {address register v : ℕ} (p : Passes c address register v) (next : Chip) (answer n : ℕ) (answers : answer ≡ coded (lost n)) where
  wrote : Turned (λ m. alerted m (settled (register_written register v m))) c next → n ≡ lost_all v (view c) register → Meets c (host_write address v) next answer [] × Whole next
  unfolding written lost_writing
  wrote turn loses =
      accepted_here c p.formed (host_write address v) next answer [] p.byte p.whole
      (write_refusal c p.formed address v 0 (ap (λ (t : Bool). refuse_if t 1 0) (le-ltb 63 address (omega (arith, p.low)))))
      (record {
        answered = answers ∙ ap (λ (k : ℕ). coded (lost k)) (loses ∙ ap (lost_all v (view c)) p.is);
        turned = turn.machine ∙ ap (λ (n : ℕ). alerted (view c) (settled (register_written n v (view c)))) p.is;
        lent = refl;
        fields = turn.fields (own_fields_formed c p.formed);
        sizes = turn.sizes;
      })

  -- A register that is known by its number.
  wrote_at : (k : ℕ) → register ≡ k → Turned (λ m. alerted m (settled (register_written k v m))) c next → n ≡ lost_all v (view c) k → Meets c (host_write address v) next answer [] × Whole next
  wrote_at k is turn loses = wrote (becomes _ turn (ap (λ (r : ℕ). alerted (view c) (settled (register_written r v (view c)))) (sym is))) (loses ∙ ap (lost_all v (view c)) (sym is))

  -- No command has anything to do with held bytes before the write.
  nothing_pends_lem : length (view c).held ≤ waits (view c).command
  nothing_pends_lem = (formed_good (view c) (machine_formed c p.formed p.whole)).1

  -- FIFOData: the active command does what it can.
  module _ (fifo : register ≡ 0x02) where
    pub data_worked : Turned (λ m. alerted m (settled (offered v m))) c next → n ≡ lost_at (view c) + lost_settling (offered v (view c)) → Meets c (host_write address v) next answer [] × Whole next
    unfolding register_written
    data_worked turn loses = wrote_at 0x02 fifo turn loses

    -- CalcCRC takes the byte, and holds none before it.
    pub data_summed : n ≡ 0 → (core c).stage ≡ 0x12 → Turned (byte_summed v) c next → Meets c (host_write address v) next answer [] × Whole next
    unfolding view_of
    data_summed zero stage turn =
        let is : (view c).command ≡ CalcCRC = rw stage refl in
        let none : length (view c).held ≤ 0 = rw is at nothing_pends_lem in
        data_worked (becomes _ turn (byte_summed_lem v (view c) is none)) (zero ∙ byte_summed_loses v (view c) is none)

    -- The byte waits.
    pub data_waits : (eqb (core c).stage 0x00 || leb 0x5A (core c).stage) ≡ true → Turned (λ m. alerted m (offered v m)) c next → n ≡ lost_at (view c) → Meets c (host_write address v) next answer [] × Whole next
    unfolding view_of
    data_waits test turn loses =
        data_worked (becomes _ turn (byte_waits v (view c) (core c) c.latch refl test)) (omega (arith, loses, byte_waiting_loses v (view c) (core c) c.latch refl test))

  -- Command: the one that is active then does what it can.
  module _ (command : register ≡ 0x01) where
    pub command_worked : Turned (λ m. alerted m (settled (command_written v m))) c next → n ≡ lost_settling (command_written v (view c)) → Meets c (host_write address v) next answer [] × Whole next
    unfolding register_written
    command_worked turn loses = wrote_at 0x01 command turn (omega (arith, loses))

    -- CalcCRC begins.
    pub command_begins : n ≡ 0 → (count : ℕ) → count ≡ length (view c).held → only_begins v count (core c).left ≡ true →
        ((core c).left ≡ 0 → Turned checksum_begun c next) → Meets c (host_write address v) next answer [] × Whole next
    unfolding view_of
    command_begins zero count is test turn =
        let (code, more) = each (eqb (v % 64) 0x12) _ test in
        let (empty, none) = each (eqb count 0) _ more in
        let free : programs (view c).command ≡ false = stage_programs (core c) c.latch ∙ ap (λ (t : Bool). not t && writes (core c).stage) none in
        command_worked (becomes _ (turn (eqb-true (core c).left 0 none)) (checksum_begins v (view c) (eqb-true (v % 64) 0x12 code) free (omega (arith, is, eqb-true count 0 empty))))
        (zero ∙ begun_loses v (view c) (eqb-true (v % 64) 0x12 code) free)

  -- Any other register.
  pub other_wrote : n ≡ 0 → (register ≡ 0x01 → ⊥) → (register ≡ 0x02 → ⊥) → Turned (λ m. alerted m (other_written register v m)) c next → Meets c (host_write address v) next answer [] × Whole next
  other_wrote zero n01 n02 turn =
      wrote (becomes _ turn (ap (alerted (view c)) (other_settles (view c) register v n01 n02 nothing_pends_lem))) (zero ∙ other_loses (view c) register v n01 n02 nothing_pends_lem)
