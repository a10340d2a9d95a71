-- `pack_write::write` meets its contract: each test refuses as `writing` does, and what is put behind them is the pack. Assumes nothing.
use mathlib.Core.Path.{◌≡◌, ◌∙◌}
use Prim.Native.Nat.{◌+◌, ◌*◌, ◌≤◌}
use native.Mathlib.Omega.{arith}
use lib.ListN.{length}
use Rattle.pack.specs.Write.{body_count}
use Rattle.pack.proofs.Writing.{size_written, written}
use Rattle.pack_write.proofs.Laws.{put_both, as_piece}
use Rattle.pack_write.proofs.Outcomes.{refuses, writes, unpaired, parts_packed, as_told, too_many, unordered, can_be_written, too_short}
use Rattle.pack_write.proofs.write.Goals as goal

pub returns-then-bodies-ne0 : goal.returns-then-bodies-ne0
returns-then-bodies-ne0 c =
    let a = c.args in
    refuses (unpaired a.names.now a.bodies.now (length a.buffer.now) (λ names-fit bodies-fit. omega arith)) a.buffer.now

pub returns-then-names-ne0 : goal.returns-then-names-ne0
returns-then-names-ne0 c =
    let a = c.args in
    refuses (unpaired a.names.now a.bodies.now (length a.buffer.now) (λ names-fit bodies-fit. omega arith)) a.buffer.now

pub returns-then-names-number : goal.returns-then-names-number
returns-then-names-number c =
    let a = c.args in
    refuses (unpaired a.names.now a.bodies.now (length a.buffer.now) (λ names-fit bodies-fit. omega arith)) a.buffer.now

pub returns-then-number-gt-MOST : goal.returns-then-number-gt-MOST
returns-then-number-gt-MOST c =
    let a = c.args in
    refuses (too_many a.names.now a.bodies.now (omega arith) (omega arith) (length a.buffer.now) (omega arith)) a.buffer.now

pub returns-then-not-ascends : goal.returns-then-not-ascends
returns-then-not-ascends c =
    let a = c.args in
    let names = a.names.now in
    let bodies = a.bodies.now in
    let told = as_told names bodies (omega arith) (omega arith) (c.ascends.ensures bodies) in
    refuses (unordered names bodies (omega arith) (omega arith) (length a.buffer.now) (omega arith) (told ∙ c.if-not-ascends.true)) a.buffer.now

pub returns-then-buffer-number : goal.returns-then-buffer-number
returns-then-buffer-number c =
    let a = c.args in
    let names = a.names.now in
    let bodies = a.bodies.now in
    let told = as_told names bodies (omega arith) (omega arith) (c.ascends.ensures bodies) in
    refuses (too_short names bodies (omega arith) (omega arith) (length a.buffer.now) (omega arith) (told ∙ c.if-not-ascends.false) (omega arith)) a.buffer.now

pub returns : goal.returns
returns c =
    let a = c.args in
    let names = a.names.now in
    let bodies = a.bodies.now in
    let room = length a.buffer.now in
    let names-fit : length names ≡ 16 * body_count bodies = omega (arith, c.if-names-number.false, c.if-names-ne0.false) in
    let bodies-fit : length bodies ≡ 32 * body_count bodies = omega (arith, c.if-bodies-ne0.false) in
    let few : body_count bodies ≤ 256 = omega (arith, c.if-number-gt-MOST.false) in
    let told = as_told names bodies names-fit bodies-fit (c.ascends.ensures bodies) ∙ c.if-not-ascends.false in
    let enough : 52 * body_count bodies + 12 ≤ room = omega (arith, c.if-buffer-number.false) in
    let fit = can_be_written names bodies names-fit bodies-fit room few told in
    writes (written (body_count bodies) names bodies fit room enough)
    (as_piece (parts_packed names bodies names-fit bodies-fit) (put_both c.put-index_at.ensures (put_both (c.put_index-trailer_at.ensures.by_index bodies) c.put_trailer-size.ensures.1)))
    (omega (arith, size_written (body_count bodies) names bodies fit))
