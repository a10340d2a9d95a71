-- What a call answers, of the machine's answers, from the program's types; and the number of each refusal (manual 10).
-- Assumes nothing.
use Rattle.std.specs.Prelude.{◌≡◌, ℕ, List, ⊤, Result, Ok, Err}
use Rattle.machine.specs.Refusals.{Call}
use Rattle.machine.specs.Events.{Answer, refused, done, lost, byte, frame}
use Rattle.state.specs.Meets.{coded, Promises}
use Rattle.state.specs.declared.Chip.{Chip}
use Rattle.state.specs.declared.answers.Refusal.{Refusal}
use Rattle.state.specs.declared.answers.Refusal.TheVariants.{Address, ImageLength, NotNow, FrameForm, BufferLength, Malformed, ImageEdition}
use Rattle.state.specs.declared.answers.Byte.{Byte}
use Rattle.state.specs.declared.answers.Lost.{Lost}
use Rattle.state.specs.declared.answers.Frame.{Frame}

abbrev pub refusal_number : Refusal → ℕ
refusal_number Address = 1
refusal_number ImageLength = 2
refusal_number NotNow = 4
refusal_number FrameForm = 5
refusal_number BufferLength = 6
refusal_number Malformed = 7
refusal_number ImageEdition = 22

abbrev pub IsNumberOf : Refusal → ℕ → Type 0
IsNumberOf refusal number = number ≡ refusal_number refusal

-- What the machine's definition answers, for each type of answer.
abbrev pub done_answer : ⊤ → Answer
done_answer x = done

abbrev pub byte_answer : Byte → Answer
byte_answer x = byte x.0

abbrev pub lost_answer : Lost → Answer
lost_answer x = lost x.0

abbrev pub frame_answer : Frame → Answer
frame_answer x = frame x.length x.last_bits

-- An answer, or a refusal.
abbrev pub answered : {A : Type 0} → (A → Answer) → Result A Refusal → Answer
answered answer (Ok x) = answer x
answered answer (Err refusal) = refused (refusal_number refusal)

-- What an event on a lent chip promises: `Promises` of what it answers, in whichever type.
abbrev pub PromisesAnswer : {A : Type 0} → (A → Answer) → Chip → Call → Chip → Result A Refusal → List ℕ → Type 0
PromisesAnswer answer c call next result buffer = Promises c call next (coded (answered answer result)) buffer
