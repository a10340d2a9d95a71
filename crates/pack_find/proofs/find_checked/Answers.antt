-- `pack_find::find_checked` meets its contract. Assumes nothing.
use borrow.Author.Rules.{rules}
use mathlib.Core.Path.{◌≡◌, sym, ap, ◌∙◌}
use mathlib.Core.List.{List}
use Prim.Native.Nat.{ℕ, ◌+◌, ◌-◌, ◌/◌, ◌<◌}
use native.Mathlib.Omega.{arith}
use Rattle.std.specs.declared.cmp.Ordering.{Ordering}
use Rattle.pack_order.specs.Order.{compared}
use Rattle.pack.specs.Read.{name_in}
use Rattle.pack.specs.Find.{by_order, halving}
use Rattle.pack.proofs.Count.{count_small}
use Rattle.pack_find.proofs.Laws.{next_comparison, none_left, told}
use Rattle.pack_find.proofs.find_checked.Goals as goal
use Rattle.pack_find.proofs.find_checked.Goals.{in-Less, in-Greater}

-- What the answer of the comparison leaves to be found.
compared_here : (pack name : List ℕ) (made low high : ℕ) → made < 9 → low < high → {part : List ℕ} {order : Ordering} →
    part ≡ name_in pack ((low + high) / 2) → compared part name ≡ order →
    halving (9 - made) pack name low high
    ≡ by_order order ((low + high) / 2) (halving (9 - (made + 1)) pack name ((low + high) / 2 + 1) high) (halving (9 - (made + 1)) pack name low ((low + high) / 2))
compared_here pack name made low high few some is order =
    next_comparison pack name made low high few some
    ∙ ap (λ (o : Ordering). by_order o ((low + high) / 2) (halving (9 - (made + 1)) pack name ((low + high) / 2 + 1) high) (halving (9 - (made + 1)) pack name low ((low + high) / 2)))
    (ap (λ (l : List ℕ). compared l name) (sym is) ∙ order)

pub loop-comparisons-init : goal.loop-comparisons-init
loop-comparisons-init c =
    let a = c.args in
    (omega (arith, c.count-high.ensures), ap (halving 9 a.pack.now a.name.now 0) (sym c.count-high.ensures))

pub returns-then-low-high : goal.returns-then-low-high
returns-then-low-high c =
    let a = c.args in
    sym (ap told (c.loop-comparisons.invariant.1 ∙ none_left (9 - c.loop-comparisons.comparisons) a.pack.now a.name.now c.loop-comparisons.low c.loop-comparisons.high (search rules)))

pub overflow_add-middle : goal.overflow_add-middle
overflow_add-middle c =
    let few = count_small c.args.pack.now in
    let within = c.loop-comparisons.invariant.0 in
    search rules

pub overflow_mul-result : goal.overflow_mul-result
overflow_mul-result c =
    let few = count_small c.args.pack.now in
    let within = c.loop-comparisons.invariant.0 in
    search rules

pub returns-in-Equal : goal.returns-in-Equal
returns-in-Equal c =
    let a = c.args in
    let part : c.unwrap.result.now ≡ name_in a.pack.now ((c.loop-comparisons.low + c.loop-comparisons.high) / 2) = search rules in
    let here = compared_here a.pack.now a.name.now c.loop-comparisons.comparisons c.loop-comparisons.low c.loop-comparisons.high (search rules) (search rules) part (sym c.compare.ensures ∙ c.in-Equal.is) in
    sym (ap told (c.loop-comparisons.invariant.1 ∙ here))

pub loop-comparisons-preserved : goal.loop-comparisons-preserved
loop-comparisons-preserved c =
    let a = c.args in
    let l = c.loop-comparisons in
    let part : c.unwrap.result.now ≡ name_in a.pack.now ((l.low + l.high) / 2) = search rules in
    elim c.match-compare.branch [
      | in-Less w ↦
          let here = compared_here a.pack.now a.name.now l.comparisons l.low l.high (search rules) (search rules) part (sym c.compare.ensures ∙ w.in-Less.is) in
          (omega (arith, w.high-is, l.invariant.0), (l.invariant.1 ∙ here) ∙ (λ k. halving (9 - (l.comparisons + 1)) a.pack.now a.name.now (sym w.low-is k) (sym w.high-is k)))
      | in-Greater w ↦
          let here = compared_here a.pack.now a.name.now l.comparisons l.low l.high (search rules) (search rules) part (sym c.compare.ensures ∙ w.in-Greater.is) in
          (omega (arith, w.high-is, l.invariant.0, c.if-low-high.false), (l.invariant.1 ∙ here) ∙ (λ k. halving (9 - (l.comparisons + 1)) a.pack.now a.name.now (sym w.low-is k) (sym w.high-is k)))
    ]

pub returns : goal.returns
unfolding halving
returns c =
    let a = c.args in
    let spent : 9 - c.loop-comparisons.comparisons ≡ 0 = omega arith in
    sym (ap told (c.loop-comparisons.invariant.1 ∙ ap (λ (k : ℕ). halving k a.pack.now a.name.now c.loop-comparisons.low c.loop-comparisons.high) spent))
