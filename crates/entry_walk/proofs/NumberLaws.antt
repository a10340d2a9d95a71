-- A number that is the same as what an event promises is promised too.
-- Assumes nothing.
use Rattle.std.proofs.Common.{◌≡◌, ℕ, List, sym, subst}
use Rattle.machine.specs.Refusals.{Call}
use Rattle.state.specs.Meets.{Meets, Whole, Promises}
use Rattle.state.specs.declared.Chip.{Chip}

pub numbered : {c next : Chip} {call : Call} {n answer : ℕ} {buffer : List ℕ} → Promises c call next n buffer → Whole c → answer ≡ n → Meets c call next answer buffer
numbered {c} {next} {call} {buffer = buffer} promises whole is = subst (λ (k : ℕ). Meets c call next k buffer) (sym is) (promises whole).0
