-- `pack_read::body` meets its contract. Assumes nothing.
use borrow.Author.Rules.{rules}
use borrow.Author.Tests.{lt-ltb}
use mathlib.Core.Path.{◌≡◌, sym, ap, ◌∙◌}
use native.Mathlib.Omega.{arith}
use Prim.Native.Nat.{ℕ, ◌+◌, ◌-◌, ◌*◌, ◌<◌}
use lib.ListN.{take, drop}
use Rattle.pack.specs.Read.{count_in, body_in}
use Rattle.pack.proofs.Count.{count_size}
use Rattle.pack_read.proofs.body.Goals as goal

pub overflow_mul-start : goal.overflow_mul-start
overflow_mul-start c =
    let a = c.args in
    let call = c.count in
    let size = count_size a.pack.now a.i (omega (arith, call.ensures)) in
    search rules

pub overflow_add-end : goal.overflow_add-end
overflow_add-end c =
    let a = c.args in
    let call = c.count in
    let size = count_size a.pack.now a.i (omega (arith, call.ensures)) in
    search rules

pub slice_bounds-result-end : goal.slice_bounds-result-end
slice_bounds-result-end c =
    let a = c.args in
    let call = c.count in
    let size = count_size a.pack.now a.i (omega (arith, call.ensures)) in
    search rules

pub returns : goal.returns
unfolding body_in
returns c =
    let a = c.args in
    let size : 32 * a.i + 32 - 32 * a.i ≡ 32 = omega arith in
    let within : a.i < count_in a.pack.now = omega (arith, c.count.ensures) in (
      within,
      ap (λ (k : ℕ). take k (drop (32 * a.i) a.pack.now)) size ∙ sym (simp (lt-ltb a.i (count_in a.pack.now) within)),
    )
