-- `profile_line::write_line` meets its contract: the text with its newline, and the buffer's bytes behind it. Assumes nothing.
use Rattle.std.proofs.Common.{◌≡◌, ◌++◌, [], ◌∷◌, ℕ, List, length, drop, arith, sym, ap, ◌∙◌, length-take-le}
use borrow.Author.Tests.{le-ltb}
use Rattle.profile.specs.Answer.{answer_of}
use Rattle.profile_line.specs.Line.{line_of}
use Rattle.profile_line.proofs.write_line.Goals as goal

pub returns : goal.returns
unfolding line_of
returns c =
    let line = c.args.line.now in
    let end = c.put.new.self.length in
    let whole = line_of (answer_of c.args.verdict) in
    let text : c.copy_from_slice.new.self ≡ whole =
    c.copy_from_slice.ensures.after ∙ c.put.ensures.text ∙ ap (λ (l : List ℕ). l ++ 10 ∷ []) c.put_verdict.ensures.text in
    let count : end ≡ length whole = sym (length-take-le end line (omega arith)) ∙ sym c.copy_from_slice.ensures.len ∙ ap length text in
    record {
      count = simp (le-ltb _ _ c.if-line-lt32.false) count;
      bytes = simp (le-ltb _ _ c.if-line-lt32.false) (ap (λ (l : List ℕ). l ++ drop end line) text ∙ ap (λ (n : ℕ). whole ++ drop n line) count);
    }
