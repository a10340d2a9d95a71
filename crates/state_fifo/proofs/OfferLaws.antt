-- Laws of bytes that are offered one after the other: those before the i-th have been, with how many of them were lost.
-- Assumes nothing.
use Rattle.std.proofs.Common.{◌≡◌, ℕ, ◌+◌, ◌<◌, ◌≤◌, List, [], ◌∷◌, ◌++◌, length, get_or, take, sym, refl, ap, ◌∙◌, add-one, arith, take_all, take-suc}
use Rattle.machine.specs.State.{Machine}
use Rattle.machine.specs.Fifo.{offered, offered_all, lost_at, lost_of}

-- One more behind others.
pub offered_behind : (bs : List ℕ) (b : ℕ) (m : Machine) → offered b (offered_all bs m) ≡ offered_all (bs ++ (b ∷ [])) m
unfolding offered_all
offered_behind [] b m = refl
offered_behind (x ∷ bs) b m = offered_behind bs b (offered x m)

pub lost_behind : (bs : List ℕ) (b : ℕ) (m : Machine) → lost_of bs m + lost_at (offered_all bs m) ≡ lost_of (bs ++ (b ∷ [])) m
unfolding offered_all lost_of
lost_behind [] b m = omega arith
lost_behind (x ∷ bs) b m = omega (arith, lost_behind bs b (offered x m))

-- As many as the first i and one more.
one_further : (bs : List ℕ) (i : ℕ) → i < length bs → take i bs ++ (get_or bs i 0 ∷ []) ≡ take (i + 1) bs
one_further bs i more = sym (take-suc bs i 0 more) ∙ ap (λ (n : ℕ). take n bs) (sym (add-one i))

-- The i-th is offered.
pub offered_more : (bs : List ℕ) (i : ℕ) (m : Machine) → i < length bs → offered (get_or bs i 0) (offered_all (take i bs) m) ≡ offered_all (take (i + 1) bs) m
offered_more bs i m more = offered_behind (take i bs) (get_or bs i 0) m ∙ ap (λ (l : List ℕ). offered_all l m) (one_further bs i more)

pub lost_more : (bs : List ℕ) (i : ℕ) (m : Machine) → i < length bs → lost_of (take i bs) m + lost_at (offered_all (take i bs) m) ≡ lost_of (take (i + 1) bs) m
lost_more bs i m more = lost_behind (take i bs) (get_or bs i 0) m ∙ ap (λ (l : List ℕ). lost_of l m) (one_further bs i more)

-- All have been.
pub offered_each : (bs : List ℕ) (i : ℕ) (m : Machine) → length bs ≤ i → offered_all (take i bs) m ≡ offered_all bs m
offered_each bs i m end = ap (λ (l : List ℕ). offered_all l m) (take_all i bs end)

pub lost_each : (bs : List ℕ) (i : ℕ) (m : Machine) → length bs ≤ i → lost_of (take i bs) m ≡ lost_of bs m
lost_each bs i m end = ap (λ (l : List ℕ). lost_of l m) (take_all i bs end)
