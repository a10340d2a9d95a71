-- The line for a verdict (manual 11.3), with its newline: `pass`; `refuse 9`; `refuse 10 at 22 bit 6`; and for 11 to 13 as `refuse 13 at 29`.
-- Assumes nothing.
use Rattle.std.specs.Prelude.{ℕ, ◌≡◌, List, ◌++◌, cond, ltb, length, take, drop}
use Rattle.bits.specs.Text.{ascii, decimal_byte, hex_byte}
use Rattle.profile_line.specs.declared.Text.{Text}
use Rattle.profile.specs.Answer.{Answer, pass, refuse, refuse_at, refuse_bit}

abbrev pub refuse_text : ℕ → List ℕ
refuse_text n = ascii "refuse " ++ decimal_byte n

abbrev pub refuse_at_text : ℕ → ℕ → List ℕ
refuse_at_text n register = refuse_text n ++ (ascii " at " ++ hex_byte register)

abbrev pub refuse_bit_text : ℕ → ℕ → ℕ → List ℕ
refuse_bit_text n register bit = refuse_at_text n register ++ (ascii " bit " ++ decimal_byte bit)

abbrev pub answer_text : Answer → List ℕ
answer_text pass = ascii "pass"
answer_text (refuse n) = refuse_text n
answer_text (refuse_at n register) = refuse_at_text n register
answer_text (refuse_bit n register bit) = refuse_bit_text n register bit

unfoldable pub line_of : Answer → List ℕ
line_of a = answer_text a ++ ascii "\n"

-- A buffer of 32 bytes or more begins with the line, whose length is answered, and its later bytes are as they were; a shorter one is as it
-- was, and 0 is answered.
pub record LineMeets (a : Answer) (entry exit : List ℕ) (r : ℕ) : Type 0 where
  pub count : r ≡ cond (ltb (length entry) 32) 0 (length (line_of a))
  pub bytes : exit ≡ cond (ltb (length entry) 32) entry (line_of a ++ drop (length (line_of a)) entry)

-- The text that the program puts together: the bytes of its buffer up to its length.
abbrev pub text_of : Text → List ℕ
text_of text = take text.length text.bytes
