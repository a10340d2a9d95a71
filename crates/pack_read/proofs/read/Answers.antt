-- `pack_read::read` meets its contract. Assumes nothing.
use mathlib.Core.Path.{sym, ap, ◌∙◌}
use mathlib.Core.List.{List}
use lib.ListN.{length}
use Prim.Native.Nat.{ℕ}
use Rattle.std.specs.declared.result.Result.{Result}
use Rattle.std.specs.declared.result.Result.TheVariants.{Ok}
use Rattle.pack.specs.Layout.{Profile}
use Rattle.pack.specs.Outcome.{Outcome, answered}
use Rattle.pack.proofs.Reading.{length_in, accepts, refuses}
use Rattle.pack_read.specs.declared.ReadError.{ReadError}
use Rattle.pack_read.specs.declared.ReadError.TheVariants.{NotAPack}
use Rattle.pack_read.proofs.read.Goals as goal

-- What is handed back, by the outcome.
abbrev told : Outcome (List Profile) → Result ℕ ReadError
told outcome = answered length (λ _. NotAPack) outcome

pub returns-then-not-is_pack : goal.returns-then-not-is_pack
returns-then-not-is_pack c = sym (ap told (refuses c.args.pack.now (sym c.is_pack.ensures ∙ c.if-not-is_pack.true)))

pub returns : goal.returns
returns c =
    let pack = c.args.pack.now in
    ap (λ (k : ℕ). Ok k) (c.count.ensures ∙ sym (length_in pack))
    ∙ sym (ap told (accepts pack (sym c.is_pack.ensures ∙ c.if-not-is_pack.false)))
