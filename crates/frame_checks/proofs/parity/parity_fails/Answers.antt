-- `frame_checks::parity::parity_fails` meets its contract, by whether parity is checked. Assumes nothing.
use Rattle.std.proofs.Common.{ℕ, List, ap, ◌∙◌, arith}
use Rattle.std.specs.List.{list_any, zip}
use Rattle.machine.specs.Frames.{parity_wrong}
use Rattle.state.specs.View.{view, view_of}
use Rattle.frame_checks.proofs.ParityLaws.{parity_unchecked, parity_checked}
use Rattle.frame_checks.proofs.parity.parity_fails.Goals as goal

pub returns-then-redundancy-ne1 : goal.returns-then-redundancy-ne1
unfolding view_of
returns-then-redundancy-ne1 c =
    let a = c.args in
    parity_unchecked (view a.chip.now) a.bytes.now a.parities.now a.last_bits (omega arith)

pub returns : goal.returns
unfolding view_of
returns c =
    let a = c.args in
    let m = view a.chip.now in
    c.any_parity_wrong.ensures
    ∙ ap (λ (l : List ℕ). list_any (λ (pair : ℕ × ℕ). parity_wrong m pair.0 pair.1) (zip l a.parities.now)) c.complete_bytes.ensures
    ∙ parity_checked m a.bytes.now a.parities.now a.last_bits (omega arith)
