-- `crc::absorb_all` meets its contract: the bytes that are left, from what has been reached, give the whole slice's register.
-- Assumes nothing.
use borrow.Author.Rules.{rules}
use mathlib.Core.Path.{◌∙◌, ap, sym}
use Prim.Native.Nat.{ℕ, ◌+◌}
use lib.ListN.{drop}
use Rattle.crc.specs.Checksum.{taps_of, absorbed_all}
use Rattle.crc.proofs.Laws.{next_byte, no_byte}
use Rattle.crc.proofs.absorb_all.Goals as goal

pub loop-byte-preserved : goal.loop-byte-preserved
loop-byte-preserved c =
    let a = c.args in
    let turn = c.loop-byte in
    let bytes = a.bytes.now in
    ap (λ (next : ℕ). absorbed_all a.redundancy next (drop (turn.byte-index + 1) bytes)) c.absorb-next.ensures
    ∙ next_byte (taps_of a.redundancy) turn.next bytes turn.byte-index (search rules)
    ∙ turn.invariant

pub returns : goal.returns
returns c = let a = c.args in sym (no_byte (taps_of a.redundancy) c.loop-byte.next a.bytes.now c.loop-byte.byte-index (search rules)) ∙ c.loop-byte.invariant
