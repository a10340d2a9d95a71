-- The registers from the one reached on decide the whole, and those before it pass; at one register so do the bits.
use Rattle.std.proofs.Common.{◌≡◌, ◌-◌}
use Rattle.edition.specs.Edition.{fixed_bits}
use Rattle.profile.specs.Answer.{pass, answer_of}
use Rattle.profile.specs.Check.{first_refusal, bit_judged, fixed_bits_judged, register_judged, judged}
use Rattle.profile.proofs.check.Given as goal

abbrev pub invariant-registers : goal.invariant-registers
invariant-registers l =
    (answer_of l.verdict ≡ pass)
    × (first_refusal (register_judged (fixed_bits l.fn.edition) l.profile) (0x30 - l.register) l.register ≡ judged (fixed_bits l.fn.edition) l.profile)

abbrev pub invariant-loop-bit : goal.invariant-loop-bit
invariant-loop-bit l =
    first_refusal (bit_judged (fixed_bits l.fn.edition) l.profile l.register) (8 - l.bit) l.bit ≡ fixed_bits_judged (fixed_bits l.fn.edition) l.profile l.register
