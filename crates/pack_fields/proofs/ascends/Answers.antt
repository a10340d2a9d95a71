-- `pack_fields::ascends` meets its contract. Assumes nothing.
use mathlib.Core.Path.{sym, ◌∙◌, subst}
use mathlib.Core.Logic.{⊎_elim}
use Prim.Native.Nat.{ℕ, ◌+◌, ◌/◌, ◌<◌}
use native.Mathlib.Nat.{eq-or-lt_of_le}
use native.Mathlib.Omega.{arith}
use lib.ListN.{length}
use Rattle.pack.proofs.Places.{ascending_all, ascending_not}
use Rattle.pack_fields.proofs.Laws.{neighbours}
use Rattle.pack_fields.proofs.ascends.Goals as goal

-- What holds of all numbers below i, and of i, holds of all below i + 1.
up_to : {P : ℕ → Type 0} (i : ℕ) → P i → ((j : ℕ) → j < i → P j) → (j : ℕ) → j < i + 1 → P j
up_to {P} i here below j h = ⊎_elim (λ e. subst P (sym e) here) (λ l. below j l) (eq-or-lt_of_le (omega arith))

pub returns-then-not-before : goal.returns-then-not-before
returns-then-not-before c bodies =
    let a = c.args in
    let apart = 16 + a.between in
    let i = c.loop-i.i in
    let told = sym (neighbours a.names.now apart i) ∙ sym c.before-in-loop-i.ensures ∙ c.if-not-before.true in
    sym (ascending_not apart ((length a.names.now + a.between) / apart) a.names.now bodies i (omega (arith, c.saturating_sub-i-end.ensures)) told)

pub loop-i-preserved : goal.loop-i-preserved
loop-i-preserved c =
    let a = c.args in
    let apart = 16 + a.between in
    let i = c.loop-i.i in
    let told = sym (neighbours a.names.now apart i) ∙ sym c.before-in-loop-i.ensures ∙ c.if-not-before.false in
    up_to i told c.loop-i.invariant

pub returns : goal.returns
returns c bodies =
    let a = c.args in
    sym (ascending_all (16 + a.between) ((length a.names.now + a.between) / (16 + a.between)) a.names.now bodies (λ j h. c.loop-i.invariant j (omega (arith, c.saturating_sub-i-end.ensures))))
