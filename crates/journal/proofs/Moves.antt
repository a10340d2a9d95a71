-- One law for each way that a byte moves: entries that lead from one held list to another keep the bytes in their order and each in its turn.
-- Assumes nothing.
use mathlib.Core.Path.{◌≡◌, refl, sym, ap, ◌∙◌, subst}
use mathlib.Core.Bool.{Bool, true, false, cond}
use mathlib.Core.List.{List, [], ◌∷◌, ◌++◌, append_assoc, append-nil, map}
use Prim.Native.Nat.{ℕ, ◌+◌, ◌-◌, ◌<◌, ◌≤◌}
use native.Mathlib.Nat.{add-zero}
use native.Mathlib.Omega.{arith}
use lib.Dec.{ltb}
use lib.ListN.{length, length-append}
use borrow.Author.Tests.{ltb-true, ltb-false}
use Rattle.journal.specs.Entries as e
use Rattle.journal.specs.Entries.{Entry, bytes_in, bytes_out, collect, turn, count_after, InTurn, Latest, latest_from, Memory, memory_from}
use Rattle.journal.specs.Journal.{Journal, entered, offer, offer_all, leave_from, leave, leave_all, Use, address, number, key, checksum, memory, counted, leave_as, leave_all_as, based}
use Rattle.journal.proofs.Folds.{collect_append, count_from, count_append, turn_append, latest_append, memory_append}

-- Entries lead from a held list to another.
pub record Moves (before : List ℕ) (xs : List Entry) (after : List ℕ) : Type 0 where
  pub order : before ++ collect bytes_in xs ≡ collect bytes_out xs ++ after
  pub turns : InTurn (length before) xs
  pub count : count_from (length before) xs ≡ length after

pub moves_none : (h : List ℕ) → Moves h [] h
unfolding collect InTurn count_from
moves_none h = record { order = append-nil h; turns = tt; count = refl }

pub moves_both : {h k l : List ℕ} {xs ys : List Entry} → Moves h xs k → Moves k ys l → Moves h (xs ++ ys) l
moves_both {h} {k} {l} {xs} {ys} a b =
    record {
      order =
          ap (λ (z : List ℕ). h ++ z) (collect_append bytes_in xs ys)
          ∙ sym (append_assoc h (collect bytes_in xs) (collect bytes_in ys))
          ∙ ap (λ (z : List ℕ). z ++ collect bytes_in ys) a.order
          ∙ append_assoc (collect bytes_out xs) k (collect bytes_in ys)
          ∙ ap (λ (z : List ℕ). collect bytes_out xs ++ z) b.order
          ∙ sym (append_assoc (collect bytes_out xs) (collect bytes_out ys) l)
          ∙ sym (ap (λ (z : List ℕ). z ++ l) (collect_append bytes_out xs ys));
      turns = turn_append (length h) xs ys a.turns (subst (λ (n : ℕ). InTurn n ys) (sym a.count) b.turns);
      count = count_append (length h) xs ys ∙ ap (λ (n : ℕ). count_from n ys) a.count ∙ b.count;
    }

-- An entry by which one byte leaves, and one that moves none.
pub record Leaving (x : ℕ → Entry) : Type 0 where
  pub none_in : (b : ℕ) → bytes_in (x b) ≡ []
  pub one_out : (b : ℕ) → bytes_out (x b) ≡ b ∷ []
  pub in_turn : (n b : ℕ) → 1 ≤ n → turn n (x b)

pub record Marking (x : Entry) : Type 0 where
  pub none_in : bytes_in x ≡ []
  pub none_out : bytes_out x ≡ []
  pub in_turn : (n : ℕ) → turn n x

pub moves_leave : (x : ℕ → Entry) → Leaving x → (b : ℕ) (h : List ℕ) → Moves (b ∷ h) (x b ∷ []) h
unfolding collect InTurn count_from
moves_leave x l b h =
    record {
      order = simp (l.none_in b, l.one_out b) (ap (λ (z : List ℕ). b ∷ z) (append-nil h));
      turns = (l.in_turn _ b (omega arith), tt);
      count = simp (l.none_in b, l.one_out b) (omega arith);
    }

pub moves_mark : (x : Entry) → Marking x → (h : List ℕ) → Moves h (x ∷ []) h
unfolding collect InTurn count_from
moves_mark x l h =
    record {
      order = simp (l.none_in, l.none_out, append-nil);
      turns = (l.in_turn _, tt);
      count = simp (l.none_in, l.none_out) (omega arith);
    }

pub moves_in : (b : ℕ) (h : List ℕ) → length h < 64 → Moves h (e.taken_in b ∷ []) (h ++ b ∷ [])
unfolding collect InTurn count_from
moves_in b h room = record { order = refl; turns = (room, tt); count = simp length-append (omega arith) }

pub moves_away : (b : ℕ) (h : List ℕ) → 64 ≤ length h → Moves h (e.turned_away b ∷ []) h
unfolding collect InTurn count_from
moves_away b h full = record { order = append-nil h; turns = (full, tt); count = omega arith }

pub moves_all : (x : ℕ → Entry) → Leaving x → (h : List ℕ) → Moves h (map x h) []
moves_all x l [] = moves_none []
moves_all x l (b ∷ h) = moves_both (moves_leave x l b h) (moves_all x l h)

-- Entries that say nothing of a checksum or of memory.
pub record Quiet (xs : List Entry) : Type 0 where
  pub no_checksum_lem : (l : Latest) → latest_from l xs ≡ l
  pub no_memory : (r : Memory) → memory_from r xs ≡ r

pub quiet_none : Quiet []
unfolding latest_from memory_from
quiet_none = record { no_checksum_lem = λ l. refl; no_memory = λ r. refl }

pub quiet_both : {xs ys : List Entry} → Quiet xs → Quiet ys → Quiet (xs ++ ys)
quiet_both {xs} {ys} a b =
    record {
      no_checksum_lem = λ l. latest_append l xs ys ∙ ap (λ (z : Latest). latest_from z ys) (a.no_checksum_lem l) ∙ b.no_checksum_lem l;
      no_memory = λ r. memory_append r xs ys ∙ ap (λ (z : Memory). memory_from z ys) (a.no_memory r) ∙ b.no_memory r;
    }

-- A journal that went on: its entries grew by xs, which lead from its held list to the new one.
pub record Grows (j : Journal) (xs : List Entry) (k : Journal) : Type 0 where
  pub added : k.entries ≡ j.entries ++ xs
  pub moved : Moves j.held xs k.held

pub grows_none : (j : Journal) → Grows j [] j
grows_none j = record { added = sym (append-nil j.entries); moved = moves_none j.held }

pub grows_both : {j k l : Journal} {xs ys : List Entry} → Grows j xs k → Grows k ys l → Grows j (xs ++ ys) l
grows_both {j} {k} {l} {xs} {ys} a b =
    record {
      added = b.added ∙ ap (λ (z : List Entry). z ++ ys) a.added ∙ append_assoc j.entries xs ys;
      moved = moves_both a.moved b.moved;
    }

-- And where it is quiet, with the WriteE2's address and count as they were.
pub record Quietly (j k : Journal) : Type 0 where
  pub entries : List Entry
  pub grows : Grows j entries k
  pub quiet : Quiet entries
  pub same_base : k.base ≡ j.base
  pub same_count : k.count ≡ j.count

pub quietly_none : (j : Journal) → Quietly j j
quietly_none j = record { entries = []; grows = grows_none j; quiet = quiet_none; same_base = refl; same_count = refl }

pub quietly_both : {j k l : Journal} → Quietly j k → Quietly k l → Quietly j l
quietly_both a b =
    record {
      entries = a.entries ++ b.entries;
      grows = grows_both a.grows b.grows;
      quiet = quiet_both a.quiet b.quiet;
      same_base = b.same_base ∙ a.same_base;
      same_count = b.same_count ∙ a.same_count;
    }

-- One quiet entry.
quietly_one : {j k : Journal} (x : Entry) → Grows j (x ∷ []) k → Quiet (x ∷ []) → k.base ≡ j.base → k.count ≡ j.count → Quietly j k
quietly_one x g q b c = record { entries = x ∷ []; grows = g; quiet = q; same_base = b; same_count = c }

offer_quiet : (b : ℕ) → Quiet (e.taken_in b ∷ [])
unfolding latest_from memory_from
offer_quiet b = record { no_checksum_lem = λ l. refl; no_memory = λ r. refl }

away_quiet : (b : ℕ) → Quiet (e.turned_away b ∷ [])
unfolding latest_from memory_from
away_quiet b = record { no_checksum_lem = λ l. refl; no_memory = λ r. refl }

pub quietly_offer : (b : ℕ) (j : Journal) → Quietly j (offer b j)
unfolding offer
quietly_offer b j = go (ltb (length j.held) 64) refl
  where
    go : (t : Bool) → ltb (length j.held) 64 ≡ t →
        Quietly j (cond t (record { entries = j.entries ++ e.taken_in b ∷ []; held = j.held ++ b ∷ []; base = j.base; count = j.count }) (entered (e.turned_away b) j))
    go true is = quietly_one (e.taken_in b) (record { added = refl; moved = moves_in b j.held (ltb-true (length j.held) 64 is) }) (offer_quiet b) refl refl
    go false is = quietly_one (e.turned_away b) (record { added = refl; moved = moves_away b j.held (ltb-false (length j.held) 64 is) }) (away_quiet b) refl refl

pub quietly_offers : (bs : List ℕ) (j : Journal) → Quietly j (offer_all bs j)
unfolding offer_all
quietly_offers [] j = quietly_none j
quietly_offers (b ∷ bs) j = quietly_both (quietly_offer b j) (quietly_offers bs (offer b j))

-- The first held byte leaves, by an entry that is quiet.
pub quietly_leave : (x : ℕ → Entry) → Leaving x → ((b : ℕ) → Quiet (x b ∷ [])) → (j : Journal) → Quietly j (leave x j)
unfolding leave
quietly_leave x l q j = go j.held refl
  where
    go : (h : List ℕ) → j.held ≡ h → Quietly j (leave_from h x j)
    go [] is = quietly_none j
    go (b ∷ h) is =
        quietly_one (x b) (record { added = refl; moved = subst (λ (z : List ℕ). Moves z (x b ∷ []) h) (sym is) (moves_leave x l b h) }) (q b) refl refl

-- All held bytes leave, and the event is entered.
pub grows_all : (x : ℕ → Entry) (y : Entry) → Leaving x → Marking y → (j : Journal) → Grows j (map x j.held ++ y ∷ []) (leave_all x y j)
unfolding leave_all
grows_all x y l m j =
    record { added = append_assoc j.entries (map x j.held) (y ∷ []); moved = moves_both (moves_all x l j.held) (moves_mark y m []) }

all_quiet : (x : ℕ → Entry) → ((b : ℕ) → Quiet (x b ∷ [])) → (h : List ℕ) → Quiet (map x h)
all_quiet x q [] = quiet_none
all_quiet x q (b ∷ h) = quiet_both (q b) (all_quiet x q h)

pub quietly_all : (x : ℕ → Entry) (y : Entry) → Leaving x → Marking y → ((b : ℕ) → Quiet (x b ∷ [])) → Quiet (y ∷ []) → (j : Journal) → Quietly j (leave_all x y j)
unfolding leave_all
quietly_all x y l m q r j =
    record { entries = map x j.held ++ y ∷ []; grows = grows_all x y l m j; quiet = quiet_both (all_quiet x q j.held) r; same_base = refl; same_count = refl }
