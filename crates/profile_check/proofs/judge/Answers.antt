-- What was read decides the line for the whole input: it is all of it, or longer than a profile, as the input is then.
use Rattle.std.proofs.Common.{rules, ◌≡◌, ℕ, ◌<◌, ◌≤◌, List, ◌++◌, None, Some, IfSome, arith, length, take, sym, ap, ◌∙◌, subst, append-nil, length-append, length-take-le}
use Rattle.std.proofs.Math.Logic.{inl, inr}
use Rattle.std.proofs.Math.Nat.{eq-or-lt_of_le}
use borrow.Author.Tests.{ne_eqb}
use Rattle.std.specs.Io.KnownBytes.{Appends, Consumes, IsAtEnd}
use Rattle.std.specs.declared.option.Option.{Option}
use Rattle.std.specs.declared.result.Result.{Result}
use Rattle.std.specs.declared.result.Result.TheVariants.{Ok, Err}
use Rattle.std.specs.Result.{MatchResult, IsErrAnd}
use Rattle.std.proofs.lemmas.Result.{err_from_is_err_and}
use Rattle.edition.specs.declared.FixedBits.{FixedBits}
use Rattle.profile.specs.Answer.{refuse}
use Rattle.profile.specs.Check.{judged}
use Rattle.profile_line.specs.Line.{line_of}
use Rattle.profile_check.specs.Input.{verdict_line}
use Rattle.profile_check.proofs.judge.Goals as goal

wrong_length : (table : List FixedBits) (profile : List ℕ) → 32 < length profile → judged table profile ≡ refuse 9
unfolding judged
wrong_length table profile long =
    let other : length profile ≡ 32 → ⊥ = λ e. omega arith in
    simp (ne_eqb _ _ other)

same_line : (input read rest : List ℕ) → input ≡ read ++ rest → 32 < length read → verdict_line read ≡ verdict_line input
same_line input read rest is long =
    let more : 32 < length input = omega (arith, simp length-append at (ap length is)) in
    ap line_of (wrong_length _ read long ∙ sym (wrong_length _ input more))

whole : (given rest old new : Option (List ℕ)) (buffer : List ℕ) (n : ℕ) → 32 < length buffer → n ≤ length buffer → Consumes given rest (take n buffer) → (n < length buffer → IsAtEnd rest)
    → Appends old new (verdict_line (take n buffer)) → IfSome given (λ profile. Appends old new (verdict_line profile))
whole None rest old new buffer n room within consumed end written = tt
whole (Some xs) None old new buffer n room within consumed end written = absurd consumed
whole (Some xs) (Some ys) old new buffer n room within consumed end written =
    elim (eq-or-lt_of_le within) [
      | inl full ↦
          let long : 32 < length (take n buffer) = omega (arith, length-take-le n buffer within) in
          subst (Appends old new) (same_line xs (take n buffer) ys consumed long) written
      | inr less ↦
          let all : take n buffer ≡ xs = sym (consumed ∙ ap (λ l. take n buffer ++ l) (end less) ∙ append-nil (take n buffer)) in
          subst (λ l. Appends old new (verdict_line l)) all written
    ]

-- A `Result` whose error alone was mapped was `Ok` where it is `Ok` now.
was_ok : {T E F : Type 0} {P : E → Type 0} (r : Result T E) (m : Result T F) (x : T) → MatchResult r (λ y. m ≡ Ok y) P → m ≡ Ok x → ((e : E) → P e → ⊥) → r ≡ Ok x
was_ok (Ok y) m x same is other = cc
was_ok (Err e) m x failed is other = absurd (other e failed)

not_failed : {T F : Type 0} (Q : F → Type 0) (m : Result T F) (x : T) → IsErrAnd m Q → m ≡ Ok x → ⊥
not_failed Q m x failed is = let p = err_from_is_err_and m failed in let clash : Err p.0 ≡ Ok x = sym p.1 ∙ is in cc

pub returns : goal.returns
returns g c =
    let read : c.read_input.result ≡ Ok c.in_ok-count.count =
    was_ok c.read_input.result c.map_err.result _ c.map_err.ensures.cases c.in_ok-count.was (λ e h. not_failed _ c.map_err.result _ h c.in_ok-count.was) in
    let written : c.answer.result ≡ Ok c.in_ok-map_err.field-0 =
    was_ok c.answer.result c.map_err-2.result _ c.map_err-2.ensures.cases c.in_ok-map_err.was (λ e h. not_failed _ c.map_err-2.result _ h c.in_ok-map_err.was) in
    let within = rw read at c.read_input.ensures.within in
    let bytes = rw read at c.read_input.ensures.bytes in
    whole _ _ _ _ c.read_input.new.buffer c.in_ok-count.count (search rules) within bytes.0 bytes.1 (rw written at c.answer.ensures)
