-- Laws of the calls that lead from a chip to another.
-- Assumes nothing.
use Prim.Native.Nat.{ℕ, ◌+◌, ◌<◌, ◌≤◌}
use mathlib.Core.List.{List, [], ◌∷◌, ◌++◌, map}
use mathlib.Core.Path.{◌≡◌, sym, ap, ◌∙◌, subst}
use native.Mathlib.Numerals.{add-one}
use lib.ListN.{length, get_or, drop, drop_of_length-le}
use lib.Seq.{drop-cons}
use Rattle.machine.specs.Refusals.{Call, host_write}
use Rattle.state.specs.Meets.{Meets}
use Rattle.state.specs.declared.Chip.{Chip}
use Rattle.program_steps.specs.Leads.{LeadsBy, none, next}

-- Calls, then others.
pub leads_then : {c d e : Chip} {xs ys : List Call} → LeadsBy xs c d → LeadsBy ys d e → LeadsBy (xs ++ ys) c e
leads_then none rest = rest
leads_then (next meets first) rest = next meets (leads_then first rest)

-- The chip that the calls lead to is handed on as another value.
pub leads_to : {c d e : Chip} {xs : List Call} → LeadsBy xs c d → e ≡ d → LeadsBy xs c e
leads_to {c} {xs = xs} leads same = subst (LeadsBy xs c) (sym same) leads

-- Calls, then one more, whose chip is handed on.
pub leads_last :
    {c d e r : Chip} {xs : List Call} {call : Call} {answer : ℕ} {buffer : List ℕ} →
    LeadsBy xs c d → Meets d call e answer buffer → r ≡ e → LeadsBy (xs ++ call ∷ []) c r
leads_last leads meets same = leads_to (leads_then leads (next meets none)) same

-- The bytes from an index on, one by one into FIFOData.
abbrev pub FeedsFrom : List ℕ → ℕ → Chip → Chip → Type 0
FeedsFrom bytes i c e = LeadsBy (map (host_write 0x02) (drop i bytes)) c e

-- The byte at the index, then those after it.
pub feed_turn :
    (bytes : List ℕ) (i : ℕ) {c d e : Chip} {answer : ℕ} {buffer : List ℕ} →
    i < length bytes → Meets c (host_write 0x02 (get_or bytes i 0)) d answer buffer → FeedsFrom bytes (i + 1) d e → FeedsFrom bytes i c e
feed_turn bytes i {c} {d} {e} more meets rest =
    let from : List ℕ → Type 0 = λ (bs : List ℕ). LeadsBy (map (host_write 0x02) bs) c e in
    subst from (ap (λ (n : ℕ). get_or bytes i 0 ∷ drop n bytes) (add-one i) ∙ sym (drop-cons bytes i 0 more)) (next meets rest)

-- No byte is left.
pub feed_end : (bytes : List ℕ) (i : ℕ) (c : Chip) → length bytes ≤ i → FeedsFrom bytes i c c
feed_end bytes i c over = subst (λ (bs : List ℕ). LeadsBy (map (host_write 0x02) bs) c c) (sym (drop_of_length-le bytes over)) none
