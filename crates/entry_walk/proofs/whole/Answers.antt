-- Assumes nothing.
use Rattle.state.specs.View.{core, held_count, view_of}
use Rattle.entry_walk.proofs.TypeLaws.{held_are_bytes, latched_are_bytes}
use Rattle.entry_walk.proofs.whole.Goals as goal

pub returns : goal.returns
unfolding view_of
returns c =
    let chip = c.args.chip.now in
    record {
      sizes =
          record {
            clock_count = c.counted.ensures;
            number_count = c.counted-2.ensures;
            state_count = c.bytes.ensures.count;
            register_count = c.bytes-2.ensures.count;
            slot_count = c.bytes-3.ensures.count;
            latch_count = c.bytes-4.ensures.count;
            key_count = c.bytes-5.ensures.count;
            eeprom_count = c.bytes-6.ensures.count;
          };
      sized =
          record {
            held_bytes = held_are_bytes chip.slots (core chip).read (held_count (core chip).read (core chip).write) c.bytes-3.ensures.bytes;
            latched_bytes_lem = latched_are_bytes (core chip) chip.latch c.bytes-4.ensures.bytes;
            register_bytes = c.bytes-2.ensures.bytes;
            register_count = c.bytes-2.ensures.count;
            eeprom_bytes = c.bytes-6.ensures.bytes;
            eeprom_count = c.bytes-6.ensures.count;
          };
    }
