-- `pack_find::find_checked_number` meets its contract. Assumes nothing.
use borrow.Author.Rules.{rules}
use mathlib.Core.Path.{sym, ap, ◌∙◌}
use Prim.Native.Nat.{◌≤◌}
use native.Mathlib.Omega.{arith}
use Rattle.pack.specs.Outcome.{numbered}
use Rattle.pack.specs.Find.{halved, offset_of}
use Rattle.pack.specs.Read.{count_in}
use Rattle.pack.proofs.Count.{count_small}
use Rattle.pack_find.proofs.Laws.{offset_done, error_refused, halving_refused, halving_within}
use Rattle.pack_find.proofs.find_checked_number.Goals as goal

pub overflow_cast-result : goal.overflow_cast-result
overflow_cast-result c =
    let a = c.args in
    let is = offset_done (halved a.pack.now a.name.now) c.in-Ok.offset (sym c.in-Ok.is ∙ c.find_checked.ensures) in
    let few : c.in-Ok.offset ≤ 8192 = omega (arith, halving_within 9 a.pack.now a.name.now 0 (count_in a.pack.now) is.0 is.1, count_small a.pack.now, is.2) in
    search rules

pub overflow_mul-result : goal.overflow_mul-result
overflow_mul-result c =
    let a = c.args in
    let is = offset_done (halved a.pack.now a.name.now) c.in-Ok.offset (sym c.in-Ok.is ∙ c.find_checked.ensures) in
    let few : c.in-Ok.offset ≤ 8192 = omega (arith, halving_within 9 a.pack.now a.name.now 0 (count_in a.pack.now) is.0 is.1, count_small a.pack.now, is.2) in
    search rules

pub returns-in-Err : goal.returns-in-Err
returns-in-Err c =
    let a = c.args in
    c.from.ensures
    ∙ sym (ap (numbered offset_of) (error_refused (halved a.pack.now a.name.now) c.in-Err.error (sym c.in-Err.is ∙ c.find_checked.ensures) (λ number e. let is = halving_refused 9 a.pack.now a.name.now 0 (count_in a.pack.now) number e in (omega (arith, is), omega (arith, is)))))
