-- `pack_order::compare` meets its contract: the bytes before those that are left are the same in both. Assumes nothing.
use Rattle.std.proofs.Common.{rules, sym, ◌∙◌, ◌≡◌, ℕ, subst}
use mathlib.Core.List.{List}
use lib.ListN.{drop, get_or}
use mir.Syntax.{w8}
use mir.Val.{Fits}
use Rattle.std.specs.Ordering.{nat_cmp, ordering_then}
use Rattle.pack_order.specs.Order.{compared}
use Rattle.pack_order.proofs.Laws.{decided, undecided}
use Rattle.pack_order.proofs.Words.{by_words, known_behind}
use Rattle.pack_order.proofs.compare.Goals as goal
use Rattle.pack_order.proofs.compare.Goals.{After-from_be_bytes-right_word}

-- The numbers of the first eight bytes decide, or leave it to the bytes behind them.
decide : (c : After-from_be_bytes-right_word) →
    ordering_then (nat_cmp c.from_be_bytes-left_word.result c.from_be_bytes-right_word.result) (compared c.in-Some-Some.xs.now c.in-Some-Some.ys.now) ≡ compared c.args.a.now c.args.b.now
decide c =
    let words = by_words c.loop-x.left.now c.loop-x.right.now (search rules) (search rules) c.loop-x.invariant.1 c.loop-x.invariant.2 in
    search rules

pub returns-then-left_word-right_word : goal.returns-then-left_word-right_word
returns-then-left_word-right_word c =
    c.cmp.ensures ∙ sym (decided c.from_be_bytes-left_word.result c.from_be_bytes-right_word.result (compared c.in-Some-Some.xs.now c.in-Some-Some.ys.now) c.if-left_word-right_word.true)
    ∙ decide (goal.at.returns-then-left_word-right_word c).After-from_be_bytes-right_word

pub loop-x-preserved : goal.loop-x-preserved
loop-x-preserved c =
    let known : List ℕ → Type 0 = λ l. (i : ℕ) → Fits w8 (get_or l i 0) in
    let xs : c.in-Some-Some.xs.now ≡ drop 8 c.loop-x.left.now = search rules in
    let ys : c.in-Some-Some.ys.now ≡ drop 8 c.loop-x.right.now = search rules in (
      sym (undecided c.from_be_bytes-left_word.result c.from_be_bytes-right_word.result (compared c.in-Some-Some.xs.now c.in-Some-Some.ys.now) c.if-left_word-right_word.false)
          ∙ decide (goal.at.loop-x-preserved c).After-from_be_bytes-right_word,
      subst known (sym xs) (known_behind c.loop-x.left.now 8 c.loop-x.invariant.1),
      subst known (sym ys) (known_behind c.loop-x.right.now 8 c.loop-x.invariant.2),
    )
