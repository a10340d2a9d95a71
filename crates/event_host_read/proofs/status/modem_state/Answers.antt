-- `event_host_read::status::modem_state` meets its contract: its tests in turn. Assumes nothing.
use native.Mathlib.Omega.{arith}
use mathlib.Core.Path.{sym, ◌∙◌}
use Rattle.state.specs.View.{core, view_of}
use Rattle.event_host_read.proofs.ShownLaws.{below_sends, below_receives}
use Rattle.event_host_read.proofs.status.modem_state.Goals as goal

pub returns-then-chip-lt-TRANSMIT : goal.returns-then-chip-lt-TRANSMIT
unfolding view_of
returns-then-chip-lt-TRANSMIT c = record {
  is =
      let chip = c.args.chip.now in
      let k = core chip in
      simp (below_receives k chip.latch c.if-chip-lt-TRANSMIT.true, below_sends k chip.latch c.if-chip-lt-TRANSMIT.true);
  small = omega arith;
}

pub returns-then-receives : goal.returns-then-receives
unfolding view_of
returns-then-receives c = record {
  is = simp (sym c.receives.ensures ∙ c.if-receives.true);
  small = omega arith;
}

pub returns-then-frame_waits : goal.returns-then-frame_waits
unfolding view_of
returns-then-frame_waits c =
    record {
      is = simp (sym c.receives.ensures ∙ c.if-receives.false, sym c.frame_waits.ensures ∙ c.if-frame_waits.true);
      small = omega arith;
    }

pub returns : goal.returns
unfolding view_of
returns c =
    record {
      is = simp (sym c.receives.ensures ∙ c.if-receives.false, sym c.frame_waits.ensures ∙ c.if-frame_waits.false);
      small = omega arith;
    }
