-- Every call, refused or not, keeps machine and journal in agreement, and the machine's number of lost bytes; so does every list of calls.
-- Assumes nothing.
use mathlib.Core.Path.{◌≡◌, refl, sym, ap, ◌∙◌}
use mathlib.Core.Bool.{Bool, true, false, cond, not, ◌||◌}
use mathlib.Core.List.{List, [], ◌∷◌, ◌++◌}
use Prim.Native.Nat.{ℕ}
use lib.Dec.{ltb, eqb}
use lib.ListN.{length}
use borrow.Author.Tests.{eqb-true}
use Rattle.crc.specs.Checksum.{result_of, after_bytes}
use Rattle.machine.specs.State.{Machine, Checksum}
use Rattle.machine.specs.Frames.{sending, receiving}
use Rattle.machine.specs.Registers.{mapped}
use Rattle.machine.specs.WellFormed.{well_formed}
use Rattle.machine.specs.Refusals.{Call, start, host_read, host_write, advance, take_frame, deliver, refusal, frame_formed}
use Rattle.machine.proofs.Performing.{passed_test, not_false}
use Rattle.machine.specs.Events.{accepted, perform, refused, buffer_of, started, written, after_read, advanced, taken, delivered}
use Rattle.machine.specs.Fifo.{alerted}
use Rattle.journal.specs.Entries.{bytes_out, latest_from, memory_from, away_from, collect}
use Rattle.journal.specs.Journal.{Journal, empty, enter_accepted, enter, Both, called, after}
use Rattle.journal.specs.Demand.{run, stored_bytes, Conserved}
use Rattle.journal.proofs.Moves.{moves_none}
use Rattle.journal.proofs.Agreement.{AgreesWith}
use Rattle.journal.proofs.Calls.{written_agrees, clocks_agree, read_agrees, sent_agrees, received_agrees, started_agrees}
use Rattle.journal.proofs.Lost.{Shown, Tells, tells_on, call_loses}

-- A test that refuses did not hold.
pub or_first : (s t : Bool) → (s || t) ≡ false → s ≡ false
or_first true t h = h
or_first false t h = refl

module _ (image : List ℕ) where
  accepted_agrees : (c : Call) (m : Machine) (j : Journal) → refusal m c ≡ 0 → AgreesWith image m j → AgreesWith image (accepted m c).next (enter_accepted c m j)
  unfolding refusal written after_read advanced taken delivered alerted
  accepted_agrees (start image') m j ok a =
      started_agrees image image' j (eqb-true (length image') 512 (not_false _ (passed_test (not (eqb (length image') 512)) 1 _ ok).0)) a
  accepted_agrees (host_read address) m j ok a = read_agrees image (eqb (mapped m.page address) 0x02) m j a
  accepted_agrees (host_write address v) m j ok a = written_agrees image (mapped m.page address) v m m j a
  accepted_agrees (advance n) m j ok a = clocks_agree image n m j a
  accepted_agrees (take_frame buffer) m j ok a =
      let rest = (passed_test (ltb (length buffer) 66) 5 _ (passed_test (not (well_formed m)) 6 _ ok).1).1 in
      sent_agrees image m m j (not_false _ (or_first _ _ (passed_test (not (sending m.command) || eqb (length m.held) 0) 3 _ rest).0)) a
  accepted_agrees (deliver bytes parities last_bits) m j ok a =
      let rest = (passed_test (not (frame_formed bytes parities last_bits)) 4 _ (passed_test (not (well_formed m)) 6 _ ok).1).1 in
      received_agrees image bytes parities last_bits m m j (not_false _ (passed_test (not (receiving m.command)) 3 _ rest).0) a

  pub call_agrees : (c : Call) (m : Machine) (j : Journal) → AgreesWith image m j → AgreesWith image (perform m c).next (enter c m j)
  unfolding perform enter
  call_agrees c m j a = go (eqb (refusal m c) 0) refl
    where
      go : (t : Bool) → eqb (refusal m c) 0 ≡ t →
          AgreesWith image (cond t (accepted m c) (record { answer = refused (refusal m c); next = m; buffer = buffer_of c })).next (cond t (enter_accepted c m j) j)
      go true is = accepted_agrees c m j (eqb-true (refusal m c) 0 is) a
      go false is = a

  -- After a start the journal is empty.
  start_agrees : length image ≡ 512 → AgreesWith image (started image) empty
  unfolding started latest_from memory_from stored_bytes after_bytes
  start_agrees size =
      record {
        same_held = refl;
        moved = moves_none [];
        same_checksum = refl;
        same_memory = record { finished = []; split = refl; stored = refl };
        same_place = tt;
        key_clear = tt;
        whole = size;
      }

  -- Machine and journal agree, and the machine shows how many bytes were turned away since the last flush or start.
  abbrev Kept : Both → Type 0
  Kept s = AgreesWith image s.machine s.journal × Tells s.machine (away_from 0 s.journal.entries)

  -- This is so after any calls from where it is so, and so after any calls from a start.
  calls_kept : (calls : List Call) (s : Both) → Kept s → Kept (after s calls)
  unfolding after
  calls_kept [] s kept = kept
  calls_kept (c ∷ cs) s (a, t) = calls_kept cs (called c s) (call_agrees c s.machine s.journal a, tells_on (call_loses image c s.machine s.journal a) t)

  run_kept : length image ≡ 512 → (calls : List Call) → Kept (run image calls)
  unfolding started away_from
  run_kept size calls = calls_kept calls (record { machine = started image; journal = empty }) (start_agrees size, refl)

  pub run_agrees : length image ≡ 512 → (calls : List Call) → AgreesWith image (run image calls).machine (run image calls).journal
  run_agrees size calls = (run_kept size calls).0

  pub run_tells : length image ≡ 512 → (calls : List Call) → Tells (run image calls).machine (away_from 0 (run image calls).journal.entries)
  run_tells size calls = (run_kept size calls).1

  pub conserved : (s : Both) → AgreesWith image s.machine s.journal → Tells s.machine (away_from 0 s.journal.entries) → Conserved image s
  conserved s a t =
      record {
        same_held = a.same_held;
        taken_in_when_under_64 = a.moved.turns;
        in_order = a.moved.order ∙ ap (λ (h : List ℕ). collect bytes_out s.journal.entries ++ h) a.same_held;
        lost_sum_lem = ap (λ (z : Shown). z.sum) t;
        overflow_shown = ap (λ (z : Shown). z.overflow) t;
        checksum_shown_lem = sym (ap (λ (k : Checksum). result_of k.mode k.register) a.same_checksum);
        memory_stored = a.same_memory;
      }
