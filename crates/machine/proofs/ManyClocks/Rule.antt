-- Many clocks at once: the laws, of a well-formed machine, and the examples, by the laws and by computation.
-- Assumes nothing.
use Prim.Native.Nat.{ℕ, ◌+◌}
use mathlib.Core.Bool.{Bool, true, false, not}
use mathlib.Core.List.{List, [], ◌∷◌}
use mathlib.Core.Path.{◌≡◌, refl, ap, ◌∙◌}
use native.Mathlib.Omega.{arith}
use Rattle.machine.specs.State.{Machine, WriteE2, programming, with_command, with_modes}
use Rattle.machine.specs.Fifo.{offered, lo_alert, hi_alert, alerted}
use Rattle.machine.specs.Memory.{bytes_from, stored_from, over_registers, programming_clocks}
use Rattle.machine.specs.Commands.{programs, command_written, stepped, settled}
use Rattle.machine.specs.Registers.{register_written}
use Rattle.machine.specs.WellFormed.{well_formed}
use Rattle.machine.specs.Power.{modes_clocked, stands_still}
use Rattle.machine.specs.Refusals.{advance, refuse_if, refusal}
use Rattle.machine.specs.Events.{Outcome, started, written, programmed, clocks, advanced, perform, after_calls}
use Rattle.machine.specs.Numbers.{after_start, timer_start, timer_run}
use Rattle.machine.specs.ManyClocks.{timer_after, five_written, five_bytes, ManyClocks}
use Rattle.machine.proofs.Performing.{as_accepted}
use Rattle.machine.proofs.WellFormed.Parts.{well_held, well_timer, some_left}
use Rattle.machine.proofs.ManyClocks.Pieces.{in_parts, timer_alone, before_end, at_end}
use Rattle.machine.proofs.ManyClocks.Six.{at_most_six}

-- Five bytes for 16Ch: before any clock, and after each programming.
abbrev first : Machine
first = after_start five_written

abbrev behind : ℕ → List ℕ → Machine → Machine
behind a bs m = with_modes (modes_clocked true m.status.modes) (programmed a bs (timer_after programming_clocks m))

abbrev second : Machine
second = behind 0x16C (0xD1 ∷ []) first

abbrev third : Machine
third = behind 0x16D (0xD2 ∷ 0xD3 ∷ 0xD4 ∷ []) second

abbrev fourth : Machine
fourth = behind 0x170 (0xD5 ∷ []) third

-- Two programmings and some clocks more.
two_end : (n : ℕ) → clocks (157_296 + n) first ≡ clocks n third
unfolding timer_after offered alerted hi_alert lo_alert stored_from over_registers command_written stepped settled register_written well_formed refusal started written perform after_calls
two_end n =
    in_parts 157_296 n first
    ∙ ap (clocks n)
    (in_parts programming_clocks programming_clocks first
    ∙ ap (clocks programming_clocks) (at_end first refl refl 0x16C programming_clocks (0xD1 ∷ []) refl (omega arith))
    ∙ at_end second refl refl 0x16D programming_clocks (0xD2 ∷ 0xD3 ∷ 0xD4 ∷ []) refl (omega arith))

five_bytes_lem : (n : ℕ) → five_bytes n ≡ alerted first (clocks n first)
unfolding offered alerted hi_alert lo_alert stored_from over_registers command_written stepped settled register_written well_formed refusal started written perform after_calls advanced
five_bytes_lem n = refl

three_end : five_bytes 235_944 ≡ alerted first fourth
unfolding timer_after offered alerted hi_alert lo_alert stored_from over_registers command_written stepped settled register_written well_formed refusal started written perform after_calls
three_end = five_bytes_lem 235_944 ∙ ap (alerted first) (two_end 78_648 ∙ at_end third refl refl 0x170 programming_clocks (0xD5 ∷ []) refl (omega arith))

one_short : five_bytes 235_943 ≡ alerted first (with_command (WriteE2 (programming 0x170 (0xD5 ∷ []) 1)) (timer_after 78_647 third))
unfolding timer_after offered alerted hi_alert lo_alert stored_from over_registers command_written stepped settled register_written well_formed refusal started written perform after_calls
one_short = five_bytes_lem 235_943 ∙ ap (alerted first) (two_end 78_647 ∙ before_end third refl refl 0x170 programming_clocks (0xD5 ∷ []) refl 78_647 (omega arith))

-- A timer that is started and left alone.
abbrev ready : ℕ → ℕ → Machine
ready reload timer_clock = after_start (timer_start reload timer_clock)

module _ (reload timer_clock : ℕ) (well : well_formed (ready reload timer_clock) ≡ true) (runs : stands_still (ready reload timer_clock) ≡ false) (idle : programs (ready reload timer_clock).command ≡ false) where
  timer_run_lem : (n : ℕ) → after_start (timer_run reload timer_clock n) ≡ alerted (ready reload timer_clock) (timer_after n (ready reload timer_clock))
  unfolding after_calls refusal advanced
  timer_run_lem n =
      let m = ready reload timer_clock in
      ap (λ (o : Outcome). o.next) (as_accepted m (advance n) (ap (λ (t : Bool). refuse_if (not t) 7 0) well)) ∙ ap (alerted m) (timer_alone m (well_timer m well) runs idle n)

pub many_clocks : ManyClocks
unfolding timer_after offered alerted hi_alert lo_alert stored_from over_registers command_written stepped settled register_written well_formed refusal started written perform after_calls
many_clocks =
    record {
      in_parts = in_parts;
      timer_alone = λ n m f runs idle. timer_alone m (well_timer m f.well) runs idle n;
      before_end = λ n m a left bs f runs is within. before_end m (well_timer m f.well) runs a left bs is n within;
      at_end = λ m a left bs f runs is. at_end m (well_timer m f.well) runs a left bs is (some_left m f.well a left bs is);
      at_most_six = λ n m f. at_most_six n m (well_held m f.well);
      five_bytes_at_235944 = ap (λ (x : Machine). bytes_from x.eeprom 0x16C 5) three_end;
      five_bytes_at_235943 = ap (λ (x : Machine). bytes_from x.eeprom 0x16C 5) one_short;
      five_bytes_request = ap (λ (x : Machine). x.status.requests.tx) three_end;
      five_bytes_no_request = ap (λ (x : Machine). x.status.requests.tx) one_short;
      longest_run_ends = ap (λ (x : Machine). x.status.requests.timer) (timer_run_lem 255 21 refl refl refl 534_773_760);
      longest_run_lasts = ap (λ (x : Machine). x.status.requests.timer) (timer_run_lem 255 21 refl refl refl 534_773_759);
      restarts_3 = ap (λ (x : Machine). x.timer) (timer_run_lem 3 0x21 refl refl refl 4_294_967_295);
      restarts_1 = ap (λ (x : Machine). x.timer) (timer_run_lem 1 0x20 refl refl refl 4_294_967_295);
    }
