-- `command_read_e2::offered_memory` meets its contract: the bytes before i have been offered, of which at most i were lost. Assumes nothing.
use Rattle.std.proofs.Common.{ℕ, ◌+◌, ◌<◌, ◌≡◌, List, length, get_or, refl, ap, ◌∙◌, arith, rules}
use Rattle.machine.specs.Fifo.{offered, offered_all, lost_at, lost_of}
use Rattle.machine.specs.Memory.{bytes_from}
use Rattle.state.specs.View.{view, view_of, with_numbers, with_state, with_slots}
use Rattle.state.specs.Parts.{numbers_state_slots_eeprom}
use Rattle.state.specs.declared.Chip.{Chip}
use Rattle.state.proofs.TurnLaws.{stays, then, becomes, here, own}
use Rattle.command_read_e2.proofs.ReadLaws.{offer_next, lost_next, read_inside}
use Rattle.command_read_e2.proofs.offered_memory.Goals as goal

pub loop-i-init : goal.loop-i-init
unfolding offered_all lost_of
loop-i-init c = (search rules, λ chip sizes. (stays _ sizes, refl), refl)

pub loop-i-preserved : goal.loop-i-preserved
unfolding view_of
loop-i-preserved c =
    let a = c.args in
    let i = c.loop-i.i in
    let eeprom = a.chip.now.eeprom in
    let same : c.loop-i.chip.eeprom ≡ eeprom = ap (λ (d : Chip). d.eeprom) c.loop-i.invariant.2 in (
      omega (arith, c.offered-lost.ensures.small),
      λ chip sizes.
          let on : Chip → Chip = λ d. numbers_state_slots_eeprom d chip in
          let old = view (on a.chip.now) in
          let (before, lost) = c.loop-i.invariant.1 chip sizes in
          let (turned, one) = c.offered-lost.ensures.others (on c.loop-i.chip) before.sizes in
          let next = here (ap on c.offered-lost.ensures.rest) turned in
          let within : a.address + i < length eeprom = omega (arith, sizes.eeprom_count, read_inside a.address a.count i c.requires (omega arith)) in (
            becomes (offered_all (bytes_from eeprom a.address (i + 1))) (then before next)
                (ap (λ (l : List ℕ). offered (get_or l (a.address + i) 0) (offered_all (bytes_from eeprom a.address i) old)) same ∙ offer_next eeprom a.address i within old),
            ap (λ (n : ℕ). n + c.offered-lost.result) lost
                ∙ ap (λ (n : ℕ). lost_of (bytes_from eeprom a.address i) old + n) (one ∙ ap lost_at before.machine)
                ∙ lost_next eeprom a.address i within old,
          ),
      let next = c.offered-lost.new.chip in
          c.offered-lost.ensures.rest ∙ ap (λ (d : Chip). with_numbers next.numbers (with_state next.state (with_slots next.slots d))) c.loop-i.invariant.2,
    )

pub returns-clause-others : goal.returns-clause-others
returns-clause-others c chip sizes =
    let a = c.args in
    let eeprom = a.chip.now.eeprom in
    let old = view (numbers_state_slots_eeprom a.chip.now chip) in
    let all : c.loop-i.i ≡ a.count = omega arith in
    let (turned, lost) = c.loop-i.invariant.1 chip sizes in (
      becomes (offered_all (bytes_from eeprom a.address a.count)) turned (ap (λ (n : ℕ). offered_all (bytes_from eeprom a.address n) old) all),
      lost ∙ ap (λ (n : ℕ). lost_of (bytes_from eeprom a.address n) old) all,
    )

pub returns-clause-turns : goal.returns-clause-turns
returns-clause-turns c sizes =
    let (turned, lost) = returns-clause-others c c.args.chip.now sizes in
    (own numbers_state_slots_eeprom c.loop-i.invariant.2 refl turned, lost)
