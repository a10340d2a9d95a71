-- What a host reads of ModemState: the examples by computation, and its place in PrimaryStatus.
-- Assumes nothing.
use Prim.Native.Nat.{◌/◌, ◌≤◌}
use native.Mathlib.Omega.{arith}
use mathlib.Core.Bool.{Bool, true, false}
use mathlib.Core.Path.{◌≡◌, refl, ◌∙◌}
use lib.Count.{ones}
use Rattle.machine.specs.State.{Machine}
use Rattle.machine.specs.Fifo.{offered, offered_all, lo_alert, hi_alert, alerted}
use Rattle.machine.specs.Memory.{over_registers}
use Rattle.machine.specs.Commands.{command_written, stepped, settled}
use Rattle.machine.specs.Frames.{sent, received, any_parity_wrong}
use Rattle.machine.specs.Registers.{flag, irq_bit, Err, modem_state, primary_status, register_read, register_written}
use Rattle.machine.specs.WellFormed.{well_formed}
use Rattle.machine.specs.Refusals.{all_bits, refusal}
use Rattle.machine.specs.Events.{started, written, read_byte, after_read, taken, buffer_taken, delivered, perform, after_calls}
use Rattle.machine.specs.ModemStates.{ModemStates}

flag_small : (t : Bool) → flag t ≤ 1
flag_small true = omega arith
flag_small false = omega arith

-- The four flags below it are less than 16.
in_place : (m : Machine) → primary_status m / 16 ≡ modem_state m
in_place m = omega (arith, flag_small (irq_bit m), flag_small (Err m), flag_small (hi_alert m), flag_small (lo_alert m))

pub modem_states : ModemStates
unfolding ones offered offered_all lo_alert hi_alert alerted over_registers command_written stepped settled sent received any_parity_wrong register_read register_written well_formed all_bits refusal started written read_byte after_read taken buffer_taken delivered perform after_calls
modem_states =
    record {
      transceive = refl;
      transceive_taken = refl;
      transceive_over = refl;
      transceive_read_out = refl;
      transceive_flushed = refl;
      transceive_again = refl;
      transmit_empty = refl;
      transmit = refl;
      transmit_taken = refl;
      receive_empty = refl;
      receive = refl;
      transceive_taken_and_written = refl;
      place = in_place;
      others = λ m sends receives. in_place m ∙ simp (sends, receives);
    }
