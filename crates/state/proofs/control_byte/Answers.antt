-- `state::control_byte` meets its contract, by its two tests. Assumes nothing.
use Rattle.std.proofs.Common.{◌≡◌, ℕ, Bool, true, sym, refl}
use Rattle.bits.specs.Bits.{bit_set}
use Rattle.state.specs.Formed.{byte_formed}
use Rattle.state.specs.Turns.{ControlIs}
use Rattle.state.proofs.control_byte.Goals as goal

is : {s p : Bool} (control : ℕ) → byte_formed 1 control ≡ true → s ≡ bit_set control 5 → p ≡ bit_set control 4 → ControlIs s p control
is control formed first second = record { stand_by_lem = sym first; power_down_lem = sym second; formed = formed }

pub returns-then-powerdown : goal.returns-then-powerdown
returns-then-powerdown c = is 0x30 refl c.if-standby.true c.if-powerdown.true

pub returns-then-standby : goal.returns-then-standby
returns-then-standby c = is 0x20 refl c.if-standby.true c.if-powerdown.false

pub returns-then-powerdown-2 : goal.returns-then-powerdown-2
returns-then-powerdown-2 c = is 0x10 refl c.if-standby.false c.if-powerdown-2.true

pub returns : goal.returns
returns c = is 0x00 refl c.if-standby.false c.if-powerdown-2.false
