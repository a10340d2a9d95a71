-- The clauses of refusal 7, as the code judges them, are the specification's.
-- Assumes nothing.
use Prim.Native.Nat.{ℕ, ◌+◌, ◌%◌}
use native.Mathlib.Omega.{arith}
use mathlib.Core.Path.{◌≡◌, refl, sym, ap, ◌∙◌}
use mathlib.Core.Bool.{Bool, true, false, cond, not, and-true, and_comm, and_assoc, false≢true, ◌&&◌}
use mathlib.Core.List.{List}
use lib.Dec.{ltb, leb, eqb}
use lib.ListN.{length, take}
use lib.Seq.{length-take-le}
use borrow.Author.Tests.{lt-ltb, le-ltb, leb-true, eqb-true, eqb-false, le-leb, not-true}
use Rattle.bits.specs.Bits.{bit_set}
use Rattle.crc.specs.Checksum.{crc8_bit}
use Rattle.edition.specs.Edition.{is_of, is_number}
use Rattle.machine.specs.State.{Writing, Modes, addressing, ready, programming}
use Rattle.machine.specs.Memory.{programming_clocks}
use Rattle.machine.specs.Commands.{programs}
use Rattle.machine.specs.Power.{stand_by_clocks, power_down_clocks}
use Rattle.machine.specs.WellFormed.{well_formed, timer_formed, writing_formed, command_formed, checksum_formed, mode_formed, modes_formed, bits_formed, waits}
use Rattle.machine.proofs.Cases.{by_cond}
use Rattle.machine.proofs.WellFormed.Parts.{both, each}
use Rattle.state.specs.View.{Core, core, view, view_of, mode_of, writing_of, command_of, batch_start, held_of, held_count}
use Rattle.state.specs.Formed.{listed, writes, batch_fits, agree, mode_agrees, modes_agree, is_flag, byte_formed, fields_formed, chip_formed}
use Rattle.state.specs.Turns.{Sizes}
use Rattle.state.specs.declared.Chip.{Chip}
use Rattle.state.proofs.RingLaws.{held_length}
use Rattle.state.proofs.StageLaws.{Other, by_stage, stage_programs}
use Rattle.state_clauses.specs.Clauses.{named_formed, flags_formed, timer_fields_formed, programming_formed, modes_fields_formed, stage_room, room_of, edition_fields_formed}
use Rattle.state_clauses.proofs.ByteLaws.{joined, joined_if, and_left_comm, below, waiting}
use Rattle.state_formed.specs.Judged.{first_clear, rests_with, usual}

-- Where the two tests agree: clocks are left only where some are due, and none where none are.
some_due : (left : ℕ) (due : Bool) → agree (ltb 0 left) due ≡ true → eqb left 0 ≡ false → due ≡ true
some_due left due agrees some = sym (ap (λ (t : Bool). agree t due) (lt-ltb 0 left (omega (arith, eqb-false left 0 some)))) ∙ agrees

none_due : (left : ℕ) → agree (ltb 0 left) false ≡ true → true ≡ leb left programming_clocks
none_due left agrees = go (eqb left 0) refl
  where
    go : (t : Bool) → eqb left 0 ≡ t → true ≡ leb left programming_clocks
    go true e = ap (λ (n : ℕ). leb n programming_clocks) (sym (eqb-true left 0 e))
    go false e = absurd (false≢true (some_due left false agrees e))

module _ (k : Core) (latch : List ℕ) where
  -- The machine's own clause then asks only how many: first of WriteE2, and then of every command.
  module _ (sixteen : length latch ≡ 16) where
    programming_judged : batch_fits k.next k.latched ≡ true → eqb k.left 0 ≡ false →
        writing_formed (programming (batch_start k.next k.latched) (take k.latched latch) k.left) ≡ leb k.left programming_clocks
    programming_judged fits some =
        let (one, h₁) = each (leb 1 k.latched) _ fits in
        let (few, h₂) = each (leb k.latched 16) _ h₁ in
        let (block, above) = each (leb (batch_start k.next k.latched % 16 + k.latched) 16) _ h₂ in
        let count : length (take k.latched latch) ≡ k.latched = length-take-le k.latched latch (omega (arith, leb-true k.latched 16 few)) in
        simp (
          count,
          one,
          block,
          above,
          le-leb 1 k.left (omega (arith, eqb-false k.left 0 some)),
          lt-ltb (batch_start k.next k.latched) 0x200 (omega arith),
          and-true,
        )

    writing_judged : (resting : Writing) → writing_formed resting ≡ true → agree (ltb 0 k.left) (batch_fits k.next k.latched) ≡ true →
        writing_formed (writing_of k latch resting) ≡ leb k.left programming_clocks
    writing_judged resting rests agrees =
        by_cond (λ (w : Writing). writing_formed w ≡ leb k.left programming_clocks) (eqb k.left 0) resting _
        (λ none. rests ∙ ap (λ (n : ℕ). leb n programming_clocks) (sym (eqb-true k.left 0 none)))
        (λ some. programming_judged (some_due k.left _ agrees some) some)

    command_judged : agree (ltb 0 k.left) (writes k.stage && batch_fits k.next k.latched) ≡ true → command_formed (command_of k latch) ≡ leb k.left programming_clocks
    command_judged =
        by_stage
        (λ s x. agree (ltb 0 k.left) (writes s && batch_fits k.next k.latched) ≡ true → command_formed x ≡ leb k.left programming_clocks) k latch
        (writing_judged addressing refl) (writing_judged (ready (k.next % 0x200)) (lt-ltb (k.next % 0x200) 0x200 (omega arith)))
        none none none none none none none none none (λ o. simp (o.n01, o.n41) none)
      where
        none : agree (ltb 0 k.left) false ≡ true → true ≡ leb k.left programming_clocks
        none = none_due k.left

  -- How many bytes may wait: in a stage that programs nothing, and in WriteE2 that programs.
  module _ (n : ℕ) where
    rests_with_lem : eqb k.left 0 ≡ true → ltb n (stage_room k.stage) ≡ (listed k.stage && (leb n 64 && leb n (waits (command_of k latch))))
    rests_with_lem none =
        by_stage (λ s x. ltb n (stage_room s) ≡ (listed s && (leb n 64 && leb n (waits x)))) k latch
        (simp none (waiting n 1 (omega arith))) (simp none (waiting n 0 (omega arith)))
        (waiting n 2 (omega arith)) (waiting n 1 (omega arith)) (waiting n 1 (omega arith)) (waiting n 0 (omega arith)) (waiting n 11 (omega arith))
        (waiting n 64 (omega arith)) (waiting n 64 (omega arith)) (waiting n 64 (omega arith)) (waiting n 64 (omega arith))
        (λ o. go o (eqb k.stage 0x00) refl)
      where
        go : Other k.stage → (t : Bool) → eqb k.stage 0x00 ≡ t → ltb n (stage_room k.stage) ≡ (listed k.stage && (leb n 64 && leb n 64))
        go o true e = simp e (waiting n 64 (omega arith))
        go o false e = simp (e, o.n01, o.n41, o.n03, o.n07, o.n0b, o.n12, o.n19, o.n5a, o.n96, o.n5e, o.n9e) (le-ltb n 0 (omega arith))

    programs_with : eqb k.left 0 ≡ false → writes k.stage ≡ true → ltb n 65 ≡ (listed k.stage && (leb n 64 && leb n (waits (command_of k latch))))
    programs_with some =
        by_stage (λ s x. writes s ≡ true → ltb n 65 ≡ (listed s && (leb n 64 && leb n (waits x)))) k latch
        (λ w. simp some (waiting n 64 (omega arith))) (λ w. simp some (waiting n 64 (omega arith)))
        (λ w. absurd (false≢true w)) (λ w. absurd (false≢true w)) (λ w. absurd (false≢true w)) (λ w. absurd (false≢true w)) (λ w. absurd (false≢true w))
        (λ w. absurd (false≢true w)) (λ w. absurd (false≢true w)) (λ w. absurd (false≢true w)) (λ w. absurd (false≢true w))
        (λ o w. absurd (false≢true (simp (o.n01, o.n41) at w)))

    rooms : agree (ltb 0 k.left) (writes k.stage && batch_fits k.next k.latched) ≡ true →
        ltb n (room_of k.stage k.left) ≡ (listed k.stage && (leb n 64 && leb n (waits (command_of k latch))))
    rooms agrees =
        by_cond (λ (r : ℕ). ltb n r ≡ (listed k.stage && (leb n 64 && leb n (waits (command_of k latch))))) (eqb k.left 0) (stage_room k.stage) 65
        rests_with_lem (λ some. programs_with some (each (writes k.stage) _ (some_due k.left _ agrees some)).0)

  -- Where the two tests agree, a programming is there exactly where clocks are left; so the power modes are judged.
  module _ (agrees : agree (ltb 0 k.left) (writes k.stage && batch_fits k.next k.latched) ≡ true) where
    programs_left : programs (command_of k latch) ≡ not (eqb k.left 0)
    programs_left = stage_programs k latch ∙ go (eqb k.left 0) refl
      where
        go : (t : Bool) → eqb k.left 0 ≡ t → (not t && writes k.stage) ≡ not t
        go true e = refl
        go false e = (each (writes k.stage) _ (some_due k.left _ agrees e)).0

    abbrev modes : Modes
    modes = record { stand_by = mode_of (bit_set k.control 5) k.stand_by; power_down = mode_of (bit_set k.control 4) k.power_down }

    modes_judged : (modes_agree k.control k.stand_by k.power_down && modes_formed (programs (command_of k latch)) modes)
        ≡ modes_fields_formed k.control k.stand_by k.power_down k.left
    modes_judged =
        let there = not (eqb k.left 0) in
        ap (λ (t : Bool). modes_agree k.control k.stand_by k.power_down && modes_formed t modes) programs_left
        ∙ by_mode (mode_agrees (bit_set k.control 5) k.stand_by) (mode_agrees (bit_set k.control 4) k.power_down)
        (mode_formed stand_by_clocks there modes.stand_by) (mode_formed power_down_clocks there modes.power_down)
      where
        by_mode : (a b f g : Bool) → ((a && b) && (f && g)) ≡ ((a && f) && (b && g))
        by_mode a b f g = simp (and_assoc, and_left_comm)

-- All clauses in the code's order.
reordered : (i l w g f11 f8 f7 f6 f4 f2 f1 q t m p k o z : Bool) →
    (((l && w) && (g && (f11 && (f8 && (f7 && (f6 && (f4 && (f2 && (f1 && true))))))))) && (i && (q && (t && (m && (p && (k && (o && z))))))))
    ≡ ((f7 && (f6 && (f4 && f2))) && ((f1 && z) && ((f8 && t) && (k && (((w && m) && ((l && (q && p)) && (g && o))) && (f11 && i))))))
reordered i l w g f11 f8 f7 f6 f4 f2 f1 q t m p k o z = simp (and-true, and_assoc, and_comm, and_left_comm)

in_order : (i l w g f11 f8 f7 f6 f4 f2 f1 q t m p k o z : Bool) (a b d : Bool) → ((w && m) && ((l && (q && p)) && (g && o))) ≡ (a && (b && d)) →
    (((l && w) && (g && (f11 && (f8 && (f7 && (f6 && (f4 && (f2 && (f1 && true))))))))) && (i && (q && (t && (m && (p && (k && (o && z))))))))
    ≡ ((f7 && (f6 && (f4 && f2))) && ((f1 && z) && ((f8 && t) && (k && (a && (b && (d && (f11 && i))))))))
in_order i l w g f11 f8 f7 f6 f4 f2 f1 q t m p k o z a b d e =
    reordered i l w g f11 f8 f7 f6 f4 f2 f1 q t m p k o z
    ∙ ap (λ (x : Bool). (f7 && (f6 && (f4 && f2))) && ((f1 && z) && ((f8 && t) && (k && x))))
    (ap (λ (x : Bool). x && (f11 && i)) e ∙ and_assoc a (b && d) (f11 && i) ∙ ap (λ (x : Bool). a && x) (and_assoc b d (f11 && i)))

pub clauses : (c : Chip) → length c.latch ≡ 16 →
    let k = core c in
    chip_formed c
    ≡ (flags_formed k.key_loaded k.enables k.requests k.errors
    && (named_formed k.page k.control k.rx_last_bits
    && (timer_fields_formed k.running k.value k.prescaler k.phase
    && (checksum_formed (record { register = k.crc_register; mode = k.crc_mode })
    && (programming_formed k.stage k.latched k.left k.next
    && (ltb (held_count k.read k.write) (room_of k.stage k.left)
    && (modes_fields_formed k.control k.stand_by k.power_down k.left
    && edition_fields_formed k.edition c.eeprom)))))))
unfolding chip_formed fields_formed well_formed view_of
clauses c sixteen =
    let k = core c in
    let m = view c in
    let n = length (held_of k.read k.write c.slots) in
    let clocked = agree (ltb 0 k.left) (writes k.stage && batch_fits k.next k.latched) in
    let near = ltb k.next 0x200 in
    in_order (is_of m.edition m.eeprom) (listed k.stage) (clocked && near) (modes_agree k.control k.stand_by k.power_down)
    (is_number k.edition) (is_flag k.running) (byte_formed 7 k.errors) (byte_formed 6 k.requests) (byte_formed 4 k.enables) (byte_formed 2 k.key_loaded) (byte_formed 1 k.control)
    (leb n 64) (timer_formed m.timer) (command_formed m.command) (leb n (waits m.command)) (checksum_formed m.checksum)
    (modes_formed (programs m.command) m.status.modes) (bits_formed k.page k.rx_last_bits)
    (programming_formed k.stage k.latched k.left k.next) (ltb (held_count k.read k.write) (room_of k.stage k.left)) (modes_fields_formed k.control k.stand_by k.power_down k.left)
    (joined_if _ (programming_formed k.stage k.latched k.left k.next) _
    (joined_if (command_formed m.command) (clocked && near) (leb k.left programming_clocks) refl (λ h. command_judged k c.latch sixteen (each clocked near h).0)
    ∙ and_comm (clocked && near) (leb k.left programming_clocks))
    (λ h.
    let agrees = (each clocked near (each (leb k.left programming_clocks) _ h).1).0 in
    joined
    (sym (rooms k c.latch n agrees) ∙ ap (λ (j : ℕ). ltb j (room_of k.stage k.left)) (held_length c.slots k.read (held_count k.read k.write)))
    (modes_judged k c.latch agrees)))

-- Idle or CalcCRC programs nothing, and holds no more bytes than may wait.
stage_rests : (stage n : ℕ) → rests_with stage n ≡ true → (writes stage ≡ false) × (ltb n (stage_room stage) ≡ true)
stage_rests stage n = by_cond (λ (t : Bool). t ≡ true → (writes stage ≡ false) × (ltb n (stage_room stage) ≡ true)) (eqb stage 0x00) (leb n 64) _ idle (λ other. summing)
  where
    idle : eqb stage 0x00 ≡ true → leb n 64 ≡ true → (writes stage ≡ false) × (ltb n (stage_room stage) ≡ true)
    idle is few = let s = eqb-true stage 0x00 is in (ap writes s, ap (λ (j : ℕ). ltb n (stage_room j)) s ∙ below n 64 ∙ few)

    summing : (eqb stage 0x12 && eqb n 0) ≡ true → (writes stage ≡ false) × (ltb n (stage_room stage) ≡ true)
    summing is =
        let (at_sum, none) = each (eqb stage 0x12) (eqb n 0) is in
        let s = eqb-true stage 0x12 at_sum in
        (ap writes s, ap (λ (j : ℕ). ltb n (stage_room j)) s ∙ ap (λ (j : ℕ). ltb j 1) (eqb-true n 0 none))

-- A state that a host meets most of the time, with a memory of the chip's edition, is well formed.
pub usual_formed : (c : Chip) → Sizes c → usual (core c) ≡ true → edition_fields_formed (core c).edition c.eeprom ≡ true → chip_formed c ≡ true
usual_formed c sizes is typed =
    let k = core c in
    let n = held_count k.read k.write in
    let first = first_clear k.page k.control k.key_loaded k.rx_last_bits k.enables k.crc_mode k.requests k.errors in
    let (calm, h₁) = each (first && (eqb k.left 0 && (eqb k.stand_by 0 && eqb k.power_down 0))) _ is in
    let (clear, numbers) = each first _ calm in
    let (unclocked, off) = each (eqb k.left 0) _ numbers in
    let (no-stand-by, no-power-down) = each (eqb k.stand_by 0) _ off in
    let (named, h₂) = each (eqb k.control 0 && bits_formed k.page k.rx_last_bits) _ clear in
    let (no-control, bits) = each (eqb k.control 0) _ named in
    let (flags, narrow) = each (flags_formed k.key_loaded k.enables k.requests k.errors) _ h₂ in
    let (near, h₃) = each (ltb k.next 0x200) _ h₁ in
    let (rests, timer) = each (rests_with k.stage n) _ h₃ in
    let (other, room) = stage_rests k.stage n rests in
    let none = eqb-true k.left 0 unclocked in
    let control = eqb-true k.control 0 no-control in
    let stand_by = eqb-true k.stand_by 0 no-stand-by in
    let power_down = eqb-true k.power_down 0 no-power-down in
    clauses c sizes.latch_count
    ∙ both flags
    (both (both (ap (byte_formed 1) control) bits)
    (both timer
    (both (ap (λ (b : Bool). cond b (ltb k.crc_register 0x100) true) (not-true (crc8_bit k.crc_mode) narrow))
    (both
    (ap (λ (j : ℕ). leb j programming_clocks && (agree (ltb 0 j) (writes k.stage && batch_fits k.next k.latched) && ltb k.next 0x200)) none
    ∙ both (ap (λ (b : Bool). not (b && batch_fits k.next k.latched)) other) near)
    (both (ap (λ (j : ℕ). ltb n (room_of k.stage j)) none ∙ room)
    (both (λ i. modes_fields_formed (control i) (stand_by i) (power_down i) (none i)) typed))))))
