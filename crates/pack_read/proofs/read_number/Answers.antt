-- `pack_read::read_number` meets its contract, by whether the bytes are a pack. Assumes nothing.
use borrow.Author.Rules.{rules}
use mathlib.Core.Path.{◌≡◌, refl, sym, ap, ◌∙◌}
use mathlib.Core.Bool.{Bool, true, false}
use mathlib.Core.List.{List}
use Prim.Native.Nat.{ℕ, ◌≤◌}
use native.Mathlib.Omega.{arith}
use lib.ListN.{length}
use Rattle.std.specs.declared.result.Result.{Result}
use Rattle.std.specs.declared.result.Result.TheVariants.{Ok, Err}
use Rattle.pack.specs.Layout.{Profile}
use Rattle.pack.specs.Outcome.{Outcome, answered, numbered}
use Rattle.pack.specs.Read.{is_pack, reading, count_in}
use Rattle.pack.proofs.Count.{count_small}
use Rattle.pack.proofs.Reading.{length_in, accepts, refuses}
use Rattle.pack_read.specs.declared.ReadError.{ReadError}
use Rattle.pack_read.specs.declared.ReadError.TheVariants.{NotAPack}
use Rattle.pack_read.proofs.read_number.Goals as goal

-- What is handed back, by the outcome.
abbrev told : Outcome (List Profile) → Result ℕ ReadError
told outcome = answered length (λ _. NotAPack) outcome

-- A number that is handed back is at most 256.
small : (pack : List ℕ) (number : ℕ) → Ok number ≡ told (reading pack) → number ≤ 256
small pack number is = go (is_pack pack) refl
  where
    go : (t : Bool) → is_pack pack ≡ t → number ≤ 256
    go true e =
        let same : number ≡ count_in pack = cc (accepts pack e, length_in pack, is) in
        omega (arith, count_small pack, same)
    go false e = let z : ◌≡◌ {A = ℕ} 0 1 = cc (refuses pack e) in absurd (omega arith)

-- An error comes where the bytes are no pack.
refused_14 : (pack : List ℕ) (error : ReadError) → Err error ≡ told (reading pack) → numbered length (reading pack) ≡ 14
refused_14 pack error is = go (is_pack pack) refl
  where
    go : (t : Bool) → is_pack pack ≡ t → numbered length (reading pack) ≡ 14
    go true e = let z : ◌≡◌ {A = ℕ} 0 1 = cc (accepts pack e) in absurd (omega arith)
    go false e = ap (numbered length) (refuses pack e)

pub overflow_cast-result : goal.overflow_cast-result
overflow_cast-result c =
    let few = small c.args.pack.now c.in-Ok.number (sym c.in-Ok.is ∙ c.read.ensures) in
    search rules

pub overflow_mul-result : goal.overflow_mul-result
overflow_mul-result c =
    let few = small c.args.pack.now c.in-Ok.number (sym c.in-Ok.is ∙ c.read.ensures) in
    search rules

pub returns-in-Err : goal.returns-in-Err
returns-in-Err c = c.from.ensures ∙ sym (refused_14 c.args.pack.now c.in-Err.error (sym c.in-Err.is ∙ c.read.ensures))
