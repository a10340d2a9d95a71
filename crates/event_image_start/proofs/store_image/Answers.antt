-- `event_image_start::store_image` meets its contract: the bytes before i are copied. Assumes nothing.
use Prim.Native.Nat.{ℕ}
use native.Mathlib.Nat.{zero-add}
use native.Mathlib.Numerals.{add-one}
use native.Mathlib.Omega.{arith}
use mathlib.Core.Path.{◌≡◌, sym, ap, ◌∙◌}
use mathlib.Core.List.{List, ◌++◌, append-nil}
use lib.ListN.{get_or, take, set, drop_of_length-le}
use lib.Seq.{paste, paste-zero, paste-suc, take_all}
use Rattle.event_image_start.proofs.store_image.Goals as goal

pub loop-i-init : goal.loop-i-init
loop-i-init c = λ whole. paste-zero c.args.eeprom.now 0 c.args.image.now

pub loop-i-preserved : goal.loop-i-preserved
loop-i-preserved c whole =
    let i = c.loop-i.i in
    let old = c.args.eeprom.now in
    let image = c.args.image.now in
    ap (λ (l : List ℕ). set l i (get_or image i 0)) (c.loop-i.invariant whole)
    ∙ ap (λ (k : ℕ). set (paste old 0 image i) k (get_or image i 0)) (sym (zero-add i))
    ∙ paste-suc old 0 image i 0 (omega arith) (omega arith)
    ∙ ap (paste old 0 image) (sym (add-one i))

pub returns : goal.returns
returns c whole =
    let old = c.args.eeprom.now in
    let image = c.args.image.now in
    let all : c.loop-i.i ≡ 512 = omega arith in
    c.loop-i.invariant whole
    ∙ ap (paste old 0 image) all
    ∙ ap (λ (l : List ℕ). take 512 image ++ l) (drop_of_length-le old {i = 512} (omega arith))
    ∙ append-nil (take 512 image)
    ∙ take_all 512 image (omega arith)
