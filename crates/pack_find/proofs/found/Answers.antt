-- `pack_find::found` meets its contract. Assumes nothing.
use borrow.Author.Rules.{rules}
use mathlib.Core.Path.{sym, ◌∙◌}
use Prim.Native.Nat.{◌+◌, ◌-◌, ◌≤◌}
use native.Mathlib.Omega.{arith}
use lib.ListN.{length, drop, length-drop}
use lib.Seq.{length-take-le}
use Rattle.pack.specs.Find.{finding}
use Rattle.pack.proofs.Count.{count_size}
use Rattle.pack.proofs.Reading.{found_refused}
use Rattle.pack_find.proofs.Laws.{answer_found, error_refused, body_part}
use Rattle.pack_find.proofs.found.Goals as goal

pub returns-in_err-start : goal.returns-in_err-start
returns-in_err-start c =
    let a = c.args in
    let refusal =
    error_refused (finding a.pack.now a.name.now) c.in_err-start.field-0.0 (sym c.in_err-start.was ∙ c.find.ensures) (λ number e. found_refused a.pack.now a.name.now number e)
    in
    search rules

pub overflow_add-end : goal.overflow_add-end
overflow_add-end c =
    let a = c.args in
    let at = answer_found a.pack.now a.name.now c.in_ok-start.start (sym c.in_ok-start.was ∙ c.find.ensures) in
    let size = count_size a.pack.now at.place at.within in
    search rules

pub slice_bounds-result-end : goal.slice_bounds-result-end
slice_bounds-result-end c =
    let a = c.args in
    let at = answer_found a.pack.now a.name.now c.in_ok-start.start (sym c.in_ok-start.was ∙ c.find.ensures) in
    let size = count_size a.pack.now at.place at.within in
    search rules

pub returns : goal.returns
returns c =
    let a = c.args in
    let start = c.in_ok-start.start in
    let at = answer_found a.pack.now a.name.now start (sym c.in_ok-start.was ∙ c.find.ensures) in
    let size = count_size a.pack.now at.place at.within in
    let room : start + 32 ≤ length a.pack.now = omega (arith, at.begins, at.within, size) in
    (length-take-le (start + 32 - start) (drop start a.pack.now) (simp length-drop (omega (arith, room))) ∙ omega arith, body_part a.pack.now a.name.now start at)
