-- How many bytes an input has, which they are, and the line for them. Assumes nothing.
use Rattle.std.specs.Prelude.{ℕ, ◌<◌, List, length, take, ⊤, IfSome}
use Rattle.std.specs.declared.option.Option.{Option}
use Rattle.std.specs.declared.result.Result.{Result}
use Rattle.std.specs.declared.result.Result.TheVariants.{Ok, Err}
use Rattle.std.specs.Io.KnownBytes.{Appends, Consumes, IsAtEnd, Keeps}
use Rattle.edition.specs.Edition.{fixed_bits}
use Rattle.edition.specs.declared.Edition.TheVariants.{Mfrc531}
use Rattle.profile.specs.Check.{judged}
use Rattle.profile_line.specs.Line.{line_of}
use Rattle.std.specs.declared.io.Error.{Error}
use Rattle.profile_check.specs.declared.Failure.{Failure}
use Rattle.profile_check.specs.declared.Failure.TheVariants.{Input, Output}

abbrev pub count_of : Result ℕ Error → ℕ
count_of (Ok n) = n
count_of (Err error) = 0

-- The first n bytes of the buffer are those that the reader gave, and where they are fewer than the buffer holds, it has no more.
abbrev pub IsRead : Option (List ℕ) → Option (List ℕ) → List ℕ → Result ℕ Error → Type 0
IsRead old new buffer (Ok n) = Consumes old new (take n buffer) × (n < length buffer → IsAtEnd new)
IsRead old new buffer (Err error) = ⊤

-- The line for a profile of the MFRC531.
abbrev pub verdict_line : List ℕ → List ℕ
verdict_line profile = line_of (judged (fixed_bits Mfrc531) profile)

-- A profile read has its line written, for the whole input, however long; one that could not be read has none.
abbrev pub Judges : Option (List ℕ) → Option (List ℕ) → Option (List ℕ) → Result Unit Failure → Type 0
Judges given old new (Ok done) = IfSome given (λ profile. Appends old new (verdict_line profile))
Judges given old new (Err (Input error)) = Keeps old new
Judges given old new (Err (Output error)) = ⊤
