-- `pack_order::compare_bytes` meets its contract: the bytes that were yielded are the same in both. Assumes nothing.
use Rattle.std.proofs.Common.{rules, ◌+◌, length, ◌∙◌}
use Rattle.std.proofs.lemmas.Slice.Zip.{zip_turn, zip_end}
use lib.ListN.{drop, length-append}
use Rattle.pack_order.specs.Order.{compared}
use Rattle.pack_order.proofs.Laws.{decided, undecided, compared_at, compared_end}
use Rattle.pack_order.proofs.compare_bytes.Goals as goal

pub returns-then-x-y : goal.returns-then-x-y
returns-then-x-y c =
    let xs = c.args.a.now in
    let ys = c.args.b.now in
    let i = length c.loop-x.yielded in
    let turn = zip_turn xs ys c.loop-x.yielded c.into_iter-x-iterator.result c.loop-x.x-iterator c.next.new.self c.next.result (search rules) (search rules) c.loop-x.yielded_by (c.in-Some.x, c.in-Some.y) c.in-Some.is c.next.ensures.steps in
    let first = compared_at xs ys i turn.0 turn.1 in
    let told = decided c.in-Some.x.now c.in-Some.y.now (compared (drop (i + 1) xs) (drop (i + 1) ys)) c.if-x-y.true in
    search rules

pub loop-x-preserved : goal.loop-x-preserved
loop-x-preserved c =
    let xs = c.args.a.now in
    let ys = c.args.b.now in
    let i = length c.loop-x.yielded in
    let turn = zip_turn xs ys c.loop-x.yielded c.into_iter-x-iterator.result c.loop-x.x-iterator c.next.new.self c.next.result (search rules) (search rules) c.loop-x.yielded_by (c.in-Some.x, c.in-Some.y) c.in-Some.is c.next.ensures.steps in
    let first = compared_at xs ys i turn.0 turn.1 in
    let told = undecided c.in-Some.x.now c.in-Some.y.now (compared (drop (i + 1) xs) (drop (i + 1) ys)) c.if-x-y.false in
    rw length-append (search rules)

pub returns : goal.returns
returns c =
    let xs = c.args.a.now in
    let ys = c.args.b.now in
    let end = zip_end xs ys c.loop-x.yielded c.into_iter-x-iterator.result c.loop-x.x-iterator c.next.new.self c.next.result (search rules) (search rules) c.loop-x.yielded_by c.in-None.is c.next.ensures.steps in
    c.cmp-2.ensures ∙ compared_end xs ys (length c.loop-x.yielded) end ∙ c.loop-x.invariant
