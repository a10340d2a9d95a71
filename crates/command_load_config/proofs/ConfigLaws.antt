-- LoadConfig, by its address. Assumes nothing.
use Prim.Native.Nat.{ℕ, ◌≤◌}
use native.Mathlib.Omega.{arith}
use mathlib.Core.Path.{◌≡◌, sym, ap, ◌∙◌, subst}
use mathlib.Core.Bool.{true, false, ◌&&◌}
use mathlib.Core.List.{List}
use lib.Dec.{leb}
use lib.ListN.{length}
use Rattle.machine.specs.State.{Machine, LoadConfig, with_registers}
use Rattle.machine.specs.Memory.{address_of, bytes_from, over_registers}
use Rattle.machine.specs.Commands.{with_access_err, ended, argument, taken, configured_from, stepped_as}
use Rattle.machine.proofs.WellFormed.Memory.{over_length}
use Rattle.state.specs.View as state
use Rattle.state.specs.View.{view_of}
use Rattle.state.specs.Formed.{fields_formed}
use Rattle.state.specs.Turns.{Turns, Turned}
use Rattle.state.specs.declared.Chip.{Chip}
use Rattle.state.proofs.TurnLaws.{sized_registers}
use Rattle.register_load.specs.Wrapped.{wrapped_from}
use Rattle.register_load.proofs.LoadLaws.{unwrapped}
use Rattle.command_arguments.proofs.ArgumentLaws.{all_held}

-- The registers loaded from an address inside the EEPROM.
abbrev loads_from : ℕ → Machine → Machine
loads_from address m = with_registers (over_registers 0 m.registers (bytes_from m.eeprom address 32)) m

pub registers_loaded : (old : Chip) (address : ℕ) → address ≤ 0x60 → {new : Chip} → new ≡ state.with_registers (over_registers 0 old.registers (wrapped_from old.eeprom address 32)) old →
    Turns (loads_from address) old new
unfolding view_of fields_formed
registers_loaded old address inside loaded sizes =
    let bytes = wrapped_from old.eeprom address 32 in
    subst (λ (next : Chip). Turned (loads_from address) old next) (sym loaded)
    (record {
      machine = ap (λ (l : List ℕ). with_registers (over_registers 0 old.registers l) (state.view old)) (unwrapped old.eeprom address 32 sizes.eeprom_count (omega arith));
      sizes = sized_registers sizes (over_registers 0 old.registers bytes) (over_length 0 old.registers bytes ∙ sizes.register_count);
      fields = λ formed. formed;
    })

module _ (address : ℕ) (m : Machine) where
  pub config_loads : (leb 0x10 address && leb address 0x60) ≡ true → loads_from address m ≡ configured_from address m
  config_loads is = simp is

  pub config_refuses : (leb 0x10 address && leb address 0x60) ≡ false → with_access_err m ≡ configured_from address m
  config_refuses is = simp is

-- LoadConfig's step on a machine that holds k bytes, which are enough.
pub step_loads : (m : Machine) {k : ℕ} → k ≡ length m.held → 2 ≤ k → (from : ℕ) → from ≡ address_of (argument 0 m) (argument 1 m) → ended (configured_from from (taken 2 m)) ≡ stepped_as LoadConfig m
step_loads m held all from is =
    ap (λ (a : ℕ). ended (configured_from a (taken 2 m))) is ∙ all_held 2 m m (ended (configured_from (address_of (argument 0 m) (argument 1 m)) (taken 2 m))) held all
