-- `event_host_read::status::secondary_status` meets its contract, flag by flag. Assumes nothing.
use native.Mathlib.Omega.{arith}
use mathlib.Core.Path.{◌≡◌, ap, ◌∙◌}
use mathlib.Core.Bool.{Bool, not}
use Rattle.machine.specs.Commands.{programs}
use Rattle.machine.specs.Registers.{flag}
use Rattle.state.specs.View.{view, view_of}
use Rattle.state.proofs.MeetLaws.{last_bits_small}
use Rattle.event_host_read.proofs.status.secondary_status.Goals as goal

pub returns : goal.returns
unfolding view_of
returns c formed =
    let call-flag2 = c.before in
    let call-programs = call-flag2.before in
    let call-flag = call-programs.before in
    let a = call-flag.args in
    let here = a.chip.now in
    let small = last_bits_small here formed in
    let running : call-flag.flag.result ≡ flag (view here).timer.running = call-flag.flag.ensures.is in
    let ready : call-flag2.flag-2.result ≡ flag (not (programs (view here).command)) =
    call-flag2.flag-2.ensures.is ∙ ap (λ (t : Bool). flag (not t)) call-programs.programs.ensures in
    omega arith
