-- `key::key_of` meets its contract: the invariant says how far the pairs have been read. Assumes nothing.
use Rattle.std.proofs.Common.{rules, ◌≡◌, ◌∙◌, sym, false, arith}
use Rattle.key.specs.Key.{format_holds}
use Rattle.key.proofs.Laws.{read_next, read_bad, read_all}
use Rattle.key.proofs.key_of.Goals as goal
use Rattle.key.proofs.key_of.Goals.{then-not-paired-via-then-not-paired, then-not-paired-via-else-not-paired+then-not-paired-2}

pub returns-then-not-paired : goal.returns-then-not-paired
returns-then-not-paired c =
    let upper = c.paired.ensures in
    let broken = read_bad c.loop-i.i c.args.stored c.loop-i.bytes (search rules) (search rules) c.loop-i.invariant in
    let bad : format_holds c.args.stored ≡ false =
    elim c.then-not-paired.branch [
      | then-not-paired-via-then-not-paired w ↦ broken (simp (sym upper ∙ w.if-not-paired.true))
      | then-not-paired-via-else-not-paired+then-not-paired-2 w ↦
          let lower = w.paired-else-not-paired.ensures in
          broken (simp (sym upper ∙ w.if-not-paired.false, sym lower ∙ w.if-not-paired-2.true))
    ] in
    record { loaded = sym bad; bytes = simp bad }

pub loop-i-preserved : goal.loop-i-preserved
loop-i-preserved c =
    let upper = sym c.paired.ensures ∙ c.if-not-paired.false in
    let lower = sym c.paired-else-not-paired.ensures ∙ c.if-not-paired-2.false in
    read_next c.loop-i.i _ c.loop-i.bytes (search rules) (search rules) c.loop-i.invariant upper lower

pub returns : goal.returns
returns c =
    let six : c.loop-i.i ≡ 6 = omega arith in
    let all = read_all c.args.stored c.loop-i.bytes (search rules) (rw six at c.loop-i.invariant) in
    record { loaded = sym all.0; bytes = simp all.0 (sym all.1) }
