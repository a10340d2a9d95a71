-- `state_fifo::stored` meets its contract. Assumes nothing.
use Rattle.state.specs.Parts.{state_slots}
use Rattle.state_fifo.proofs.FifoLaws.{stored_byte}
use Rattle.state_fifo.proofs.stored.Goals as goal

pub returns-clause-turns : goal.returns-clause-turns
returns-clause-turns c n p room = stored_byte c.args.chip.now p room c.args.byte

pub returns-clause-others : goal.returns-clause-others
returns-clause-others c n p room chip = stored_byte (state_slots c.args.chip.now chip) p room c.args.byte
