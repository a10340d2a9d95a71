-- The number that stands for a verdict, in the fields of an event's number: bits 7-0 the refusal, 0 for none; bits 15-8 the register; bits 23-16
-- a bit's position.
-- Assumes nothing.
use Rattle.std.specs.Prelude.{ℕ, ◌+◌, ◌*◌}
use Rattle.profile.specs.Answer.{Answer, pass, refuse, refuse_at, refuse_bit}

-- The profile check: the refusal, the register that 10 to 13 name, and the bit that 10 names.
abbrev pub profile_number : Answer → ℕ
profile_number pass = 0
profile_number (refuse n) = n
profile_number (refuse_at n register) = n + 0x100 * register
profile_number (refuse_bit n register bit) = n + 0x100 * register + 0x1_0000 * bit
