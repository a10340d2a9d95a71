-- KeyErr is set and no key is loaded (manual 7.5): what LoadKey and LoadKeyE2 do with bytes in a bad format, and LoadKeyE2 with a start above 1F4h.
-- Assumes nothing.
use Rattle.std.specs.Prelude.{true, false}
use Rattle.key.specs.Key.{empty_key}
use Rattle.machine.specs.State.{Machine, with_key}
use Rattle.machine.specs.Commands.{with_key_err}

abbrev pub key_emptied : Machine → Machine
key_emptied m = with_key (record { loaded = false; bytes = empty_key }) (with_key_err true m)
