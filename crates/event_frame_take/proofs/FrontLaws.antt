-- Laws of a buffer: its elements are bytes, and bytes are put at its front, with more behind them.
-- Assumes nothing.
use Prim.Native.Nat.{ℕ, ◌+◌, ◌%◌, ◌<◌, ◌≤◌, min}
use native.Mathlib.Numerals.{add-one}
use native.Mathlib.Omega.{arith}
use mathlib.Core.Path.{◌≡◌, sym, ap, ◌∙◌}
use mathlib.Core.List.{List, [], ◌∷◌, ◌++◌}
use lib.ListN.{length, get_or, take, drop, set, length-append}
use lib.Seq.{length-take-le, length_front, take_at, drop-append-add, drop-drop, sets, sets-eq}
use Rattle.state.specs.View.{held_from, held_of}
use Rattle.state.specs.Turns.{Counts}
use Rattle.state.proofs.RingLaws.{held_length, held_last, count_length}
use Rattle.event_frame_take.specs.Front.{at_front, Put}

-- Bytes are stored in a buffer, one after the other, from an index on: they are behind those before it.
pub put_behind : (buffer vs : List ℕ) (n : ℕ) → n + length vs ≤ length buffer → Put (take n buffer ++ vs) buffer (n + length vs) (sets buffer n vs)
put_behind buffer vs n room =
    let whole : n + length vs ≡ length (take n buffer ++ vs) =
    sym (length-append (take n buffer) vs ∙ ap (λ (k : ℕ). k + length vs) (length-take-le n buffer (omega arith))) in
    record { counted = whole; fills = sets-eq vs buffer n room ∙ ap (λ (k : ℕ). (take n buffer ++ vs) ++ drop k buffer) whole }

module _ (bytes buffer : List ℕ) where
  -- A buffer is as long as before.
  as_long : length bytes ≤ length buffer → length (at_front bytes buffer) ≡ length buffer
  as_long room = length_front buffer bytes (length bytes) (sym (length-take-le (length bytes) buffer room))

  -- Bytes with more behind them, over the bytes alone.
  front_over : (more : List ℕ) → at_front (bytes ++ more) (at_front bytes buffer) ≡ at_front (bytes ++ more) buffer
  front_over more =
      ap (λ (l : List ℕ). (bytes ++ more) ++ l)
      (ap (λ (k : ℕ). drop k (at_front bytes buffer)) (length-append bytes more)
      ∙ drop-append-add bytes (drop (length bytes) buffer) (length more)
      ∙ drop-drop (length more) (length bytes) buffer
      ∙ ap (λ (k : ℕ). drop k buffer) (sym (length-append bytes more)))

  -- What is made of the bytes at the front is put behind them.
  pub put_over : (f : List ℕ → List ℕ) (now : List ℕ) (n r : ℕ) (filled : List ℕ) → Put bytes buffer n now →
      Put (take n now ++ f (take n now)) now r filled → Put (bytes ++ f bytes) buffer r filled
  put_over f now n r filled p q =
      let first : take n now ≡ bytes = ap (take n) p.fills ∙ take_at bytes (drop (length bytes) buffer) n (sym p.counted) in
      let whole : take n now ++ f (take n now) ≡ bytes ++ f bytes = ap (λ (l : List ℕ). l ++ f l) first in
      record {
        counted = q.counted ∙ ap length whole;
        fills = q.fills ∙ ap (λ (l : List ℕ). at_front l now) whole ∙ ap (at_front (bytes ++ f bytes)) p.fills ∙ front_over (f bytes);
      }

-- One more of the bytes that a ring holds goes behind those at the front.
pub held_turn : (slots buffer now : List ℕ) (p i : ℕ) → i < length buffer → now ≡ at_front (held_from slots p i) buffer →
    set now i (get_or slots ((p + i) % 64) 0) ≡ at_front (held_from slots p (i + 1)) buffer
held_turn slots buffer now p i room is =
    let b = get_or slots ((p + i) % 64) 0 in
    let held = held_from slots p i in
    let count = held_length slots p i in
    (put_over held buffer (λ l. b ∷ []) now i (i + 1) (set now i b) (record { counted = sym count; fills = is })
    (put_behind now (b ∷ []) i (omega (arith, ap length is, as_long held buffer (omega (arith, count)))))).fills
    ∙ ap (λ (l : List ℕ). at_front l buffer) (sym (ap (held_from slots p) (add-one i) ∙ held_last slots p i))

-- The first 64 of the bytes that a ring holds are all, where it holds no more.
pub all_put : {read write n : ℕ} → Counts read write n → (slots buffer now : List ℕ) (count : ℕ) → count ≡ min n 64 →
    now ≡ at_front (held_from slots read count) buffer → length (held_of read write slots) ≤ 64 → Put (held_of read write slots) buffer count now
all_put {read} {write} {n} p slots buffer now count least is few =
    let all : count ≡ n = omega (arith, count_length p slots) in
    record {
      counted = all ∙ count_length p slots;
      fills = is ∙ ap (λ (k : ℕ). at_front (held_from slots read k) buffer) (all ∙ p.counted);
    }
