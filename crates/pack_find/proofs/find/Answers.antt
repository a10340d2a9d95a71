-- `pack_find::find` meets its contract. Assumes nothing.
use mathlib.Core.Path.{sym, ap, ◌∙◌}
use Rattle.pack.proofs.Reading.{accepts, refuses}
use Rattle.pack.proofs.Packs.{packs}
use Rattle.pack_find.proofs.Laws.{told}
use Rattle.pack_find.proofs.find.Goals as goal

pub returns-then-not-is_pack : goal.returns-then-not-is_pack
returns-then-not-is_pack c =
    let a = c.args in
    let none = refuses a.pack.now (sym c.is_pack.ensures ∙ c.if-not-is_pack.true) in
    sym (ap told (packs.no_pack a.pack.now none a.name.now))

pub returns : goal.returns
returns c =
    let a = c.args in
    let whole = sym c.is_pack.ensures ∙ c.if-not-is_pack.false in
    c.find_checked.ensures ∙ ap told (packs.by_halving a.pack.now (accepts a.pack.now whole) a.name.now)
