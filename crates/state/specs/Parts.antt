-- Some of a chip's arrays, put into any chip. By these a function that is lent a chip whole says which of its arrays it looks at or changes.
-- Assumes nothing.
use Rattle.state.specs.View.{with_clocks, with_numbers, with_state, with_registers, with_slots, with_latch, with_key, with_eeprom}
use Rattle.state.specs.declared.Chip.{Chip}

abbrev pub state_part : Chip → Chip → Chip
state_part of c = with_state of.state c

abbrev pub clocks_state : Chip → Chip → Chip
clocks_state of c = with_clocks of.clocks (with_state of.state c)

abbrev pub state_registers : Chip → Chip → Chip
state_registers of c = with_state of.state (with_registers of.registers c)

abbrev pub state_slots : Chip → Chip → Chip
state_slots of c = with_state of.state (with_slots of.slots c)

abbrev pub state_registers_slots : Chip → Chip → Chip
state_registers_slots of c = with_state of.state (with_registers of.registers (with_slots of.slots c))

abbrev pub state_key : Chip → Chip → Chip
state_key of c = with_state of.state (with_key of.key c)

abbrev pub state_key_eeprom : Chip → Chip → Chip
state_key_eeprom of c = with_state of.state (with_key of.key (with_eeprom of.eeprom c))

abbrev pub state_registers_eeprom : Chip → Chip → Chip
state_registers_eeprom of c = with_state of.state (with_registers of.registers (with_eeprom of.eeprom c))

abbrev pub numbers_state : Chip → Chip → Chip
numbers_state of c = with_numbers of.numbers (with_state of.state c)

abbrev pub numbers_state_registers : Chip → Chip → Chip
numbers_state_registers of c = with_numbers of.numbers (with_state of.state (with_registers of.registers c))

abbrev pub numbers_state_slots : Chip → Chip → Chip
numbers_state_slots of c = with_numbers of.numbers (with_state of.state (with_slots of.slots c))

abbrev pub numbers_state_slots_eeprom : Chip → Chip → Chip
numbers_state_slots_eeprom of c = with_numbers of.numbers (with_state of.state (with_slots of.slots (with_eeprom of.eeprom c)))

abbrev pub numbers_state_registers_slots : Chip → Chip → Chip
numbers_state_registers_slots of c = with_numbers of.numbers (with_state of.state (with_registers of.registers (with_slots of.slots c)))

abbrev pub clocks_state_registers : Chip → Chip → Chip
clocks_state_registers of c = with_clocks of.clocks (with_state of.state (with_registers of.registers c))

abbrev pub clocks_state_slots_key : Chip → Chip → Chip
clocks_state_slots_key of c = with_clocks of.clocks (with_state of.state (with_slots of.slots (with_key of.key c)))

abbrev pub clocks_state_slots_key_eeprom : Chip → Chip → Chip
clocks_state_slots_key_eeprom of c = with_clocks of.clocks (with_state of.state (with_slots of.slots (with_key of.key (with_eeprom of.eeprom c))))

abbrev pub clocks_state_registers_slots_eeprom : Chip → Chip → Chip
clocks_state_registers_slots_eeprom of c = with_clocks of.clocks (with_state of.state (with_registers of.registers (with_slots of.slots (with_eeprom of.eeprom c))))

abbrev pub clocks_numbers_state : Chip → Chip → Chip
clocks_numbers_state of c = with_clocks of.clocks (with_numbers of.numbers (with_state of.state c))

abbrev pub clocks_numbers_state_registers : Chip → Chip → Chip
clocks_numbers_state_registers of c = with_clocks of.clocks (with_numbers of.numbers (with_state of.state (with_registers of.registers c)))

abbrev pub clocks_numbers_state_slots : Chip → Chip → Chip
clocks_numbers_state_slots of c = with_clocks of.clocks (with_numbers of.numbers (with_state of.state (with_slots of.slots c)))

abbrev pub clocks_numbers_state_slots_eeprom : Chip → Chip → Chip
clocks_numbers_state_slots_eeprom of c = with_clocks of.clocks (with_numbers of.numbers (with_state of.state (with_slots of.slots (with_eeprom of.eeprom c))))

abbrev pub clocks_numbers_state_slots_latch : Chip → Chip → Chip
clocks_numbers_state_slots_latch of c = with_clocks of.clocks (with_numbers of.numbers (with_state of.state (with_slots of.slots (with_latch of.latch c))))
