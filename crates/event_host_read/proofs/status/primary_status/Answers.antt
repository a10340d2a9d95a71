-- `event_host_read::status::primary_status` meets its contract, flag by flag. Assumes nothing.
use borrow.Author.Tests.{ltb-true}
use Prim.Native.Nat.{ℕ, ◌+◌, ◌*◌}
use native.Mathlib.Omega.{arith}
use mathlib.Core.Path.{◌≡◌, ap, ◌∙◌}
use mathlib.Core.Bool.{not}
use lib.Dec.{eqb, lit<}
use Rattle.machine.specs.Fifo.{lo_alert, hi_alert}
use Rattle.machine.specs.Registers.{flag, modem_state, irq_bit, Err}
use Rattle.state.specs.View.{at, view, view_of}
use Rattle.state.proofs.MeetLaws.{own_fields_formed}
use Rattle.state.proofs.StoreLaws.{byte_agrees}
use Rattle.event_host_read.proofs.ShownLaws.{common_set, error_byte_lem}
use Rattle.event_host_read.proofs.status.primary_status.Goals as goal

pub returns : goal.returns
unfolding view_of hi_alert lo_alert
returns c formed =
    let here = c.args.chip.now in
    let bytes = here.state in
    let fields = own_fields_formed here formed in
    let m = view here in
    let modem-state : c.modem_state.result ≡ 16 * modem_state m = c.modem_state.ensures.is in
    let irq : c.flag.result ≡ flag (irq_bit m) = c.flag.ensures.is ∙ ap flag (c.irq.ensures ∙ common_set (at bytes 4) (at bytes 6) (ltb-true _ _ (byte_agrees here fields 4 (lit< tt)))) in
    let is = c.err.ensures.is in
    let byte = c.err.ensures.byte in
    let err : c.flag-2.result ≡ flag (Err m) = c.flag-2.ensures.is ∙ ap flag (is ∙ ap (λ (n : ℕ). not (eqb n 0)) (error_byte_lem (at bytes 7) byte (byte_agrees here fields 7 (lit< tt)))) in
    let alerts : c.alerts_of.result ≡ 2 * flag (hi_alert m) + flag (lo_alert m) = c.alerts_of.ensures.is in
    omega arith
