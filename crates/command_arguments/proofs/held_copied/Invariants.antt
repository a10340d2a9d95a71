use Rattle.std.proofs.Common.{◌≡◌, ◌+◌, ◌%◌, take}
use Rattle.state.specs.View.{held_from}
use Rattle.command_arguments.proofs.held_copied.Given as goal

-- The bytes before the index are copied.
abbrev pub invariant-loop-byte : goal.invariant-loop-byte
invariant-loop-byte l = (l.from % 64 ≡ (l.position + l.byte-index) % 64) × (take l.byte-index l.bytes ≡ held_from l.slots l.position l.byte-index)
