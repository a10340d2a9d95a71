-- `event_host_read::registers::read` meets its contract, by the register. Assumes nothing.
use Rattle.state.specs.View.{view, view_of}
use Rattle.event_host_read.proofs.ReadLaws.{read_page, read_stored, read_none}
use Rattle.event_host_read.proofs.registers.read.Goals as goal

pub returns-then-register-eq0 : goal.returns-then-register-eq0
unfolding view_of
returns-then-register-eq0 c n02 n03 formed = read_page c.args.register (view c.args.chip.now) c.if-register-eq0.true

pub returns-then-register-lt16 : goal.returns-then-register-lt16
returns-then-register-lt16 c n02 n03 formed =
    c.low.ensures c.if-register-lt16.true c.if-register-eq0.false n02 n03 formed

pub returns-then-register-lt48 : goal.returns-then-register-lt48
unfolding view_of
returns-then-register-lt48 c n02 n03 formed =
    read_stored c.args.register (view c.args.chip.now) c.if-register-eq0.false c.if-register-lt16.false c.if-register-lt48.true

pub returns : goal.returns
unfolding view_of
returns c n02 n03 formed =
    read_none c.args.register (view c.args.chip.now) c.if-register-eq0.false c.if-register-lt16.false c.if-register-lt48.false
