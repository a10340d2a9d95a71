-- Demand 3 over the program, from the events' relation and the theorem over the definition.
-- Assumes nothing.
use mathlib.Core.Path.{◌≡◌, refl, sym, ap, ◌∙◌, subst}
use mathlib.Core.Bool.{Bool, true, cond, not}
use mathlib.Core.List.{List, []}
use Prim.Native.Nat.{ℕ, zero, suc}
use native.Mathlib.Omega.{arith}
use lib.Dec.{eqb}
use lib.ListN.{length}
use borrow.Author.Tests.{eqb-true}
use Rattle.machine.specs.State.{Machine}
use Rattle.machine.specs.Refusals.{Call, start, host_read, host_write, advance, take_frame, deliver, refusal}
use Rattle.machine.specs.Events.{Outcome, perform, started}
use Rattle.machine.proofs.Performing.{as_accepted, passed_test, not_false}
use Rattle.machine.proofs.WellFormed.Kept.{well_formedness}
use Rattle.journal.specs.Journal.{Both, empty, called, after}
use Rattle.journal.specs.Demand.{run, Conserved, NextCall}
use Rattle.journal.specs.Account.{Accounted}
use Rattle.journal.proofs.Agreement.{AgreesWith}
use Rattle.journal.proofs.Run.{call_agrees, run_agrees}
use Rattle.journal.proofs.Demand.{demand_3}
use Rattle.journal.proofs.Account.{accounted}
use Rattle.state.specs.View.{view}
use Rattle.state.specs.Formed.{chip_formed}
use Rattle.state.specs.Meets.{coded, chip_refusal, Meets}
use Rattle.state.specs.declared.Chip.{Chip}
use Rattle.journal_runs.specs.Run.{Step, calls_of, step, Called, start_in_place, read_in_place, write_in_place, advance_in_place, take_in_place, deliver_in_place, start_by_value, read_by_value, write_by_value, advance_by_value, take_by_value, deliver_by_value, Run, end, next, AsDefined, AllAccounted, Kept, ProgramDemand3}
use Rattle.journal_runs.specs.Promised as contracts
use Rattle.journal_runs.proofs.Promised as whole

-- A well-formed chip is refused as its machine is.
refused_alike : (c : Chip) (call : Call) → chip_formed c ≡ true → chip_refusal c call ≡ refusal (view c) call
unfolding chip_refusal
refused_alike c (start image) formed = refl
refused_alike c (host_read address) formed = ap (λ (t : Bool). cond t (refusal (view c) (host_read address)) 7) formed
refused_alike c (host_write address v) formed = ap (λ (t : Bool). cond t (refusal (view c) (host_write address v)) 7) formed
refused_alike c (advance n) formed = ap (λ (t : Bool). cond t (refusal (view c) (advance n)) 7) formed
refused_alike c (take_frame buffer) formed = ap (λ (t : Bool). cond t (refusal (view c) (take_frame buffer)) 7) formed
refused_alike c (deliver bytes parities last_bits) formed = ap (λ (t : Bool). cond t (refusal (view c) (deliver bytes parities last_bits)) 7) formed

-- What a call on a well-formed chip gives is what the definition gives.
record Performed (c : Chip) (call : Call) (d : Chip) (answer : ℕ) (buffer : List ℕ) : Type 0 where
  machine : view d ≡ (perform (view c) call).next
  formed : chip_formed d ≡ true
  answered : answer ≡ coded (perform (view c) call).answer
  lent : buffer ≡ (perform (view c) call).buffer

performed : {c d : Chip} {call : Call} {answer : ℕ} {buffer : List ℕ} → Meets c call d answer buffer → chip_formed c ≡ true → Performed c call d answer buffer
performed {c} {d} {call} {answer} {buffer} meets formed = go (refusal (view c) call) refl
  where
    go : (n : ℕ) → refusal (view c) call ≡ n → Performed c call d answer buffer
    go zero is =
        let given = meets.accepts (refused_alike c call formed ∙ is) in
        let same = sym (as_accepted (view c) call is) in
        record {
          machine = given.1 ∙ ap (λ (o : Outcome). o.next) same;
          formed = given.3;
          answered = given.0 ∙ ap (λ (o : Outcome). coded o.answer) same;
          lent = given.2 ∙ ap (λ (o : Outcome). o.buffer) same;
        }
    go (suc n) is =
        let given = meets.refuses n (refused_alike c call formed ∙ is) in
        let nothing = well_formedness.refused_changes_nothing (view c) call n is in
        record {
          machine = ap view given.1 ∙ sym nothing.0;
          formed = ap chip_formed given.1 ∙ formed;
          answered = given.0 ∙ ap coded (sym nothing.2);
          lent = given.2 ∙ sym nothing.1;
        }

-- What each function's contract promises is the one relation.
pub called_meets : {c : Chip} {s : Step} → Called c s → Meets c s.call s.chip s.answer s.buffer
called_meets (start_in_place κs chip chip' image r promise) = promise
called_meets (read_in_place κs chip chip' address r promise) = promise
called_meets (write_in_place κs chip chip' address v r promise) = promise
called_meets (advance_in_place κs chip chip' clocks r promise) = promise
called_meets (take_in_place κs chip chip' buffer buffer' r promise) = promise
called_meets (deliver_in_place κs chip chip' bytes parities last_bits r promise) = promise
called_meets (start_by_value κs chip image r promise) = promise
called_meets (read_by_value chip address r promise) = promise
called_meets (write_by_value chip address v r promise) = promise
called_meets (advance_by_value chip clocks r promise) = promise
called_meets (take_by_value κs chip buffer buffer' r promise) = promise
called_meets (deliver_by_value κs chip bytes parities last_bits r promise) = promise

-- After a run.
record Ran (s : Both) (steps : List Step) (z : Chip) : Type 0 where
  machine : view z ≡ (after s (calls_of steps)).machine
  formed : chip_formed z ≡ true
  defined : AsDefined s.machine steps
  accounts : AllAccounted s steps

ran : (image : List ℕ) {c z : Chip} {steps : List Step} → Run c steps z → (s : Both) → AgreesWith image s.machine s.journal → view c ≡ s.machine → chip_formed c ≡ true → Ran s steps z
unfolding after AsDefined AllAccounted
ran image end s agrees same formed = record { machine = same; formed = formed; defined = tt; accounts = tt }
ran image (next {s = x} call rest) s agrees same formed =
    let p = performed (called_meets call) formed in
    let answered = p.answered ∙ ap (λ (m : Machine). coded (perform m x.call).answer) same in
    let lent = p.lent ∙ ap (λ (m : Machine). (perform m x.call).buffer) same in
    let left = p.machine ∙ ap (λ (m : Machine). (perform m x.call).next) same in
    let r = ran image rest (called x.call s) (call_agrees image x.call s.machine s.journal agrees) left p.formed in
    let o = perform s.machine x.call in
    record {
      machine = r.machine;
      formed = r.formed;
      defined = (answered, lent, left, r.defined);
      accounts = (
        subst (λ (n : ℕ). Accounted coded s x.call n x.buffer (view x.chip)) (sym answered)
            (subst (λ (bs : List ℕ). Accounted coded s x.call (coded o.answer) bs (view x.chip)) (sym lent)
            (subst (λ (m : Machine). Accounted coded s x.call (coded o.answer) o.buffer m) (sym left) (accounted image coded s agrees x.call))),
        r.accounts,
      );
    }

-- A start that answers 0 was not refused, so its image was whole.
pub start_passed : (image : List ℕ) {c d : Chip} → Meets c (start image) d 0 [] → chip_refusal c (start image) ≡ 0
start_passed image {c} meets = go (chip_refusal c (start image)) refl
  where
    go : (n : ℕ) → chip_refusal c (start image) ≡ n → chip_refusal c (start image) ≡ 0
    go zero e = e
    go (suc n) e = absurd (omega (arith, (meets.refuses n e).0))

whole_image : (image : List ℕ) (c : Chip) → chip_refusal c (start image) ≡ 0 → length image ≡ 512
unfolding chip_refusal refusal
whole_image image c passed = eqb-true (length image) 512 (not_false _ (passed_test (not (eqb (length image) 512)) 1 _ passed).0)

kept : (image : List ℕ) (old fresh c : Chip) (steps : List Step) → Called old (step (start image) 0 [] fresh) → Run fresh steps c → Kept image steps c
unfolding after
kept image old fresh c steps begins runs =
    let passed = start_passed image (called_meets begins) in
    let size = whole_image image old passed in
    let first = (called_meets begins).accepts passed in
    let r = ran image runs (record { machine = started image; journal = empty }) (run_agrees image size []) first.1 first.3 in
    let same : ◌≡◌ {A = Both} (run image (calls_of steps)) (record { machine = view c; journal = (run image (calls_of steps)).journal }) =
    ap (λ (m : Machine). record { machine = m; journal = (run image (calls_of steps)).journal }) (sym r.machine) in
    record {
      same_machine = r.machine;
      formed = r.formed;
      as_defined = r.defined;
      accounted = r.accounts;
      conserved = subst (Conserved image) same (demand_3.conserved image size (calls_of steps));
      next_call = subst NextCall same (demand_3.next_call image size (calls_of steps));
    }

-- The fourteen contracts, whole.
pub all_promised : contracts.AllPromised
all_promised =
    record {
      start_in_place = whole.start_in_place;
      read_in_place = whole.read_in_place;
      write_in_place = whole.write_in_place;
      advance_in_place = whole.advance_in_place;
      take_in_place = whole.take_in_place;
      deliver_in_place = whole.deliver_in_place;
      start_by_value = whole.start_by_value;
      read_by_value = whole.read_by_value;
      write_by_value = whole.write_by_value;
      advance_by_value = whole.advance_by_value;
      take_by_value = whole.take_by_value;
      deliver_by_value = whole.deliver_by_value;
      sum_in_place = whole.sum_in_place;
      sum_by_value = whole.sum_by_value;
    }

pub program_demand_3 : ProgramDemand3
program_demand_3 =
    record {
      promised = all_promised;
      holds = kept;
    }
