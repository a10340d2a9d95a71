-- `pack_read::has_offsets` meets its contract. Assumes nothing.
use mathlib.Core.Path.{◌≡◌, sym, ap, ◌∙◌}
use mathlib.Core.Bool.{Bool, ◌&&◌}
use mathlib.Core.List.{List}
use Prim.Native.Nat.{ℕ, ◌+◌, ◌-◌, ◌*◌}
use native.Mathlib.Nat.{sub-zero}
use native.Mathlib.Omega.{arith}
use lib.ListN.{take, drop}
use Rattle.pack_order.specs.Order.{same}
use Rattle.pack.specs.Layout.{four_bytes}
use Rattle.pack_read.specs.Offsets.{offsets_from}
use Rattle.pack_read.proofs.Offsets.{offsets_step}
use Rattle.pack_read.proofs.has_offsets.Goals as goal

-- What was compared is the offset of entry number i.
judged : (index : List ℕ) (i : ℕ) (answer : Bool) {four : List ℕ} → four ≡ four_bytes (32 * i) → answer ≡ same (take (20 * i + 16 + 4 - (20 * i + 16)) (drop (20 * i + 16) index)) four →
    same (take 4 (drop (20 * i + 16) index)) (four_bytes (32 * i)) ≡ answer
judged index i answer offset is =
    let size : 20 * i + 16 + 4 - (20 * i + 16) ≡ 4 = omega arith in
    sym (is ∙ (λ k. same (take (size k) (drop (20 * i + 16) index)) (offset k)))

pub loop-i-init : goal.loop-i-init
loop-i-init c = ap (λ (k : ℕ). offsets_from 0 k c.args.index.now) (sym (sub-zero c.args.number))

pub returns-then-not-same : goal.returns-then-not-same
returns-then-not-same c =
    let a = c.args in
    let i = c.loop-i.i in
    let told = judged a.index.now i c.same.result c.four_bytes.ensures c.same.ensures ∙ c.if-not-same.true in
    sym (c.loop-i.invariant ∙ offsets_step (32 * i) a.number i a.index.now (omega arith) ∙ ap (λ (t : Bool). t && offsets_from (32 * i + 32) (a.number - (i + 1)) (drop (20 * (i + 1)) a.index.now)) told)

pub loop-i-preserved : goal.loop-i-preserved
loop-i-preserved c =
    let a = c.args in
    let i = c.loop-i.i in
    let told = judged a.index.now i c.same.result c.four_bytes.ensures c.same.ensures ∙ c.if-not-same.false in
    let next : 32 * i + 32 ≡ 32 * (i + 1) = omega arith in
    c.loop-i.invariant
    ∙ offsets_step (32 * i) a.number i a.index.now (omega arith)
    ∙ (λ k. told k && offsets_from (next k) (a.number - (i + 1)) (drop (20 * (i + 1)) a.index.now))

pub returns : goal.returns
unfolding offsets_from
returns c =
    let a = c.args in
    let none : a.number - c.loop-i.i ≡ 0 = omega arith in
    sym (c.loop-i.invariant ∙ ap (λ (k : ℕ). offsets_from (32 * c.loop-i.i) k (drop (20 * c.loop-i.i) a.index.now)) none)
