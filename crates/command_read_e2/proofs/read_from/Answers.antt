-- `command_read_e2::read_from` meets its contract, by whether every address may be read. Assumes nothing.
use borrow.Author.Rules.{rules}
use mathlib.Core.Path.{◌≡◌, refl, ap, ◌∙◌}
use mathlib.Core.Bool.{true, false}
use Rattle.machine.specs.Commands.{readable, read_from}
use Rattle.state.specs.View.{view, view_of}
use Rattle.state.specs.Parts.{numbers_state_slots_eeprom}
use Rattle.state.specs.declared.Chip.{Chip}
use Rattle.state.proofs.TurnLaws.{becomes, here, own}
use Rattle.command_read_e2.proofs.ReadLaws.{read_offers, read_loses, read_refuses, refused_loses_none}
use Rattle.command_read_e2.proofs.read_from.Goals as goal

pub returns-then-count-address-clause-others : goal.returns-then-count-address-clause-others
unfolding view_of
returns-then-count-address-clause-others c chip sizes =
    let a = c.args in
    let old = view (numbers_state_slots_eeprom a.chip.now chip) in
    let is : readable a.address a.count ≡ true = search rules in
    let (offers, lost) = c.offered_memory.ensures.others chip sizes in
    (becomes (read_from a.address a.count) offers (read_offers a.address a.count old is), lost ∙ read_loses a.address a.count old is)

pub returns-then-count-address-clause-turns : goal.returns-then-count-address-clause-turns
returns-then-count-address-clause-turns c sizes =
    let (turned, lost) = returns-then-count-address-clause-others c c.args.chip.now sizes in
    (own numbers_state_slots_eeprom c.offered_memory.ensures.rest refl turned, lost)

pub returns-clause-others : goal.returns-clause-others
unfolding view_of
returns-clause-others c chip sizes =
    let a = c.args in
    let on : Chip → Chip = λ d. numbers_state_slots_eeprom d chip in
    let old = on a.chip.now in
    let is : readable a.address a.count ≡ false = search rules in
    let refuses = here (ap on c.failed.ensures.rest) (c.failed.ensures.others old sizes) in
    (becomes (read_from a.address a.count) refuses (read_refuses a.address a.count (view old) is), refused_loses_none a.address a.count (view old) is)

pub returns-clause-turns : goal.returns-clause-turns
returns-clause-turns c sizes =
    let (turned, lost) = returns-clause-others c c.args.chip.now sizes in
    (own numbers_state_slots_eeprom c.failed.ensures.rest refl turned, lost)
