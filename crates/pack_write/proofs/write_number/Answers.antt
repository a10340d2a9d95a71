-- `pack_write::write_number` meets its contract. Assumes nothing.
use borrow.Author.Rules.{rules}
use mathlib.Core.Path.{sym, ap, ◌∙◌}
use Prim.Native.Nat.{◌≤◌}
use lib.ListN.{length}
use Rattle.pack.specs.Outcome.{numbered}
use Rattle.pack_write.proofs.Outcomes.{size_small, error_refused}
use Rattle.pack_write.proofs.write_number.Goals as goal

pub overflow_cast-result : goal.overflow_cast-result
overflow_cast-result c =
    let a = c.args in
    let few : c.in-Ok.size ≤ 13324 = size_small a.names.now a.bodies.now (length a.buffer.now) c.in-Ok.size (sym c.in-Ok.is ∙ c.write.ensures.0) in
    search rules

pub overflow_mul-result : goal.overflow_mul-result
overflow_mul-result c =
    let a = c.args in
    let few : c.in-Ok.size ≤ 13324 = size_small a.names.now a.bodies.now (length a.buffer.now) c.in-Ok.size (sym c.in-Ok.is ∙ c.write.ensures.0) in
    search rules

pub returns-in-Err : goal.returns-in-Err
returns-in-Err c =
    let a = c.args in (
      c.from.ensures
          ∙ sym (ap (numbered length) (error_refused a.names.now a.bodies.now (length a.buffer.now) c.in-Err.error (sym c.in-Err.is ∙ c.write.ensures.0))),
      c.write.ensures.1,
    )
