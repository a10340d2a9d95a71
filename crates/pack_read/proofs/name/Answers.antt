-- `pack_read::name` meets its contract. Assumes nothing.
use borrow.Author.Rules.{rules}
use borrow.Author.Tests.{lt-ltb}
use mathlib.Core.Path.{◌≡◌, sym, ap, ◌∙◌}
use Prim.Native.Nat.{ℕ, ◌+◌, ◌-◌, ◌*◌, ◌<◌}
use native.Mathlib.Omega.{arith}
use lib.ListN.{take, drop}
use Rattle.pack.specs.Read.{count_in, name_in}
use Rattle.pack.proofs.Count.{count_size}
use Rattle.pack_read.proofs.name.Goals as goal

pub overflow_mul-start : goal.overflow_mul-start
overflow_mul-start c =
    let a = c.args in
    let call = c.count-number in
    let size = count_size a.pack.now a.i (omega (arith, call.ensures)) in
    search rules

pub overflow_mul-start-2 : goal.overflow_mul-start-2
overflow_mul-start-2 c =
    let a = c.args in
    let call = c.count-number in
    let size = count_size a.pack.now a.i (omega (arith, call.ensures)) in
    search rules

pub overflow_add-start : goal.overflow_add-start
overflow_add-start c =
    let a = c.args in
    let call = c.count-number in
    let size = count_size a.pack.now a.i (omega (arith, call.ensures)) in
    search rules

pub overflow_add-end : goal.overflow_add-end
overflow_add-end c =
    let a = c.args in
    let call = c.count-number in
    let size = count_size a.pack.now a.i (omega (arith, call.ensures)) in
    search rules

pub slice_bounds-result-end : goal.slice_bounds-result-end
slice_bounds-result-end c =
    let a = c.args in
    let call = c.count-number in
    let size = count_size a.pack.now a.i (omega (arith, call.ensures)) in
    search rules

pub returns : goal.returns
unfolding name_in
returns c =
    let a = c.args in
    let n = c.count-number.result in
    let start = 32 * n + 20 * a.i in
    let size : start + 16 - start ≡ 16 = omega arith in
    let within : a.i < count_in a.pack.now = omega (arith, c.count-number.ensures) in (
      within,
      ap (λ (k : ℕ). take k (drop start a.pack.now)) size
          ∙ ap (λ (k : ℕ). take 16 (drop (32 * k + 20 * a.i) a.pack.now)) c.count-number.ensures
          ∙ sym (simp (lt-ltb a.i (count_in a.pack.now) within)),
    )
