-- The numbers and the readings of manual 15, by computation from the definitions.
-- Assumes nothing.
use mathlib.Core.Path.{refl}
use lib.Count.{ones}
use Rattle.crc.specs.Checksum.{after_bit, after_bits, after_byte, after_bytes}
use Rattle.key.specs.Key.{stored, format_holds, key_of}
use Rattle.profile.specs.Check.{first_refusal, judged}
use Rattle.machine.specs.Fifo.{offered, offered_all, lo_alert, hi_alert, alerted}
use Rattle.machine.specs.Timer.{timer_clock}
use Rattle.machine.specs.Memory.{stored_from, over_registers}
use Rattle.machine.specs.Commands.{command_written, stepped, settled}
use Rattle.machine.specs.Frames.{sent, received, any_parity_wrong, same_bytes}
use Rattle.machine.specs.Registers.{register_read, register_written}
use Rattle.machine.specs.WellFormed.{well_formed}
use Rattle.machine.specs.Refusals.{all_bits, refusal}
use Rattle.machine.specs.Events.{started, written, read_byte, after_read, reached, clock, clocks, advanced, taken, buffer_taken, delivered, perform, after_calls}
use Rattle.machine.specs.Numbers.{NumbersToMeet}
use Rattle.machine.specs.Readings.{Readings}

pub numbers_met : NumbersToMeet
unfolding after_bit after_bits after_byte after_bytes stored format_holds key_of first_refusal judged offered offered_all lo_alert hi_alert alerted timer_clock stored_from over_registers command_written stepped settled sent received any_parity_wrong same_bytes register_read register_written well_formed all_bits refusal started written read_byte after_read reached clock clocks advanced taken buffer_taken delivered perform after_calls
numbers_met =
    record {
      crc_6363_of_00_00 = refl;
      crc_6363_of_12_34 = refl;
      crc3309_ffff_of_00_00_00 = refl;
      key_stored = refl;
      key_format = refl;
      key_read = refl;
      shipped_passes = refl;
      prescaler_21 = refl;
      prescaler_22 = refl;
      prescaler_24 = refl;
      sixty_four_held = refl;
      no_overflow_at_64 = refl;
      overflow_at_65 = refl;
      lo_alert_at_8 = refl;
      lo_alert_not_at_9 = refl;
      hi_alert_at_56 = refl;
      hi_alert_not_at_55 = refl;
      load_config_060 = refl;
      load_config_060_flag = refl;
      load_config_060_ends = refl;
      load_config_060_request = refl;
      load_config_061 = refl;
      load_config_061_registers = refl;
      load_config_061_ends = refl;
      read_e2_count_1 = refl;
      read_e2_count_1_flag = refl;
      read_e2_count_2 = refl;
      read_e2_count_2_held = refl;
      timer_not_at_5 = refl;
      timer_at_6 = refl;
    }

pub readings_met : Readings
unfolding after_bit after_bits after_byte after_bytes stored format_holds key_of first_refusal judged offered offered_all lo_alert hi_alert alerted timer_clock stored_from over_registers command_written stepped settled sent received any_parity_wrong same_bytes register_read register_written well_formed all_bits refusal started written read_byte after_read reached clock clocks advanced taken buffer_taken delivered perform after_calls ones
readings_met =
    record {
      load_config_loads_anything = refl;
      block_0_is_met = refl;
      block_0_flag = refl;
      block_0_byte_left = refl;
      oldest_stays = refl;
      prescaler_kept = refl;
      prescaler_kept_6 = refl;
      first_byte_read = refl;
      length_read = refl;
      length_read_3 = refl;
      programming_time = refl;
      programming_begins = refl;
      waiting_bytes_begin = refl;
      programming_goes_on = refl;
      prescaler_3_not_at_15 = refl;
      prescaler_3_at_16 = refl;
      read_e2_bytes = refl;
      start_loads = refl;
      frame_with_crc = refl;
      frame_answer = refl;
      frame_of_last_bits = refl;
      frame_received = refl;
      frame_errors_lem = refl;
      parity_wrong_lem = refl;
      crc_wrong = refl;
      crc_wrong_dropped = refl;
      short_frame = refl;
      short_frame_passes = refl;
    }
