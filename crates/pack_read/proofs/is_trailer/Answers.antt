-- `pack_read::is_trailer` meets its contract. Assumes nothing.
use borrow.Author.Rules.{rules}
use mathlib.Core.Path.{◌≡◌, sym, ap, ◌∙◌}
use mathlib.Core.Bool.{Bool}
use mathlib.Core.List.{List}
use Prim.Native.Nat.{ℕ, ◌*◌}
use lib.ListN.{take, drop}
use Rattle.bits.specs.Text.{ascii}
use Rattle.pack_order.specs.Order.{same}
use Rattle.pack_order.proofs.Laws.{true_same, same_false, false_differ, same_alike}
use Rattle.pack.specs.Layout.{four_bytes, trailer}
use Rattle.pack_read.proofs.Trailer.{parts_of, of_parts}
use Rattle.pack_read.proofs.is_trailer.Goals as goal

-- What was compared is a part and a number's four bytes.
judged : (part : List ℕ) (number : ℕ) {answer : Bool} {four : List ℕ} → four ≡ four_bytes number → answer ≡ same part four → same part (four_bytes number) ≡ answer
judged part number bytes is = sym (is ∙ ap (same part) bytes)

pub returns-then-not-same : goal.returns-then-not-same
returns-then-not-same c =
    let a = c.args in
    let told = judged (take 4 a.bytes.now) (32 * a.number) c.four_bytes.ensures c.same.ensures ∙ c.if-not-same.true in
    sym (same_false a.bytes.now (trailer a.number) (λ is. false_differ (take 4 a.bytes.now) (four_bytes (32 * a.number)) told (parts_of a.bytes.now a.number is).offset))

pub returns-then-not-same-2 : goal.returns-then-not-same-2
returns-then-not-same-2 c =
    let a = c.args in
    let told = judged (take 4 (drop 4 a.bytes.now)) a.number c.four_bytes-2.ensures c.same-2.ensures ∙ c.if-not-same-2.true in
    sym (same_false a.bytes.now (trailer a.number) (λ is. false_differ (take 4 (drop 4 a.bytes.now)) (four_bytes a.number) told (parts_of a.bytes.now a.number is).number))

pub returns : goal.returns
returns c =
    let a = c.args in
    let bytes = a.bytes.now in
    let first = true_same (take 4 bytes) (four_bytes (32 * a.number)) (judged (take 4 bytes) (32 * a.number) c.four_bytes.ensures c.same.ensures ∙ c.if-not-same.false) in
    let second = true_same (take 4 (drop 4 bytes)) (four_bytes a.number) (judged (take 4 (drop 4 bytes)) a.number c.four_bytes-2.ensures c.same-2.ensures ∙ c.if-not-same-2.false) in
    c.same-3.ensures
    ∙ same_alike (take 4 (drop 8 bytes)) (ascii "RC53") bytes (trailer a.number)
    (λ mark. of_parts bytes a.number (search rules) (record { offset = first; number = second; mark = mark })) (λ is. (parts_of bytes a.number is).mark)
