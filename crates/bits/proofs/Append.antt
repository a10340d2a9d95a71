-- Two lists, each made of two parts.
-- Assumes nothing.
use mathlib.Core.Path.{◌≡◌, sym, ap, ◌∙◌}
use mathlib.Core.List.{List, ◌++◌}
use Prim.Native.Nat.{ℕ}
use lib.ListN.{length, take, drop}
use lib.Seq.{take_at, drop_at}

-- Equal lists whose first parts are as long as each other have equal parts.
pub append_split : (a b c d : List ℕ) → length a ≡ length c → a ++ b ≡ c ++ d → (a ≡ c) × (b ≡ d)
append_split a b c d size is = (
  sym (take_at a b (length c) size) ∙ ap (take (length c)) is ∙ take_at c d (length c) (λ k. length c),
  sym (drop_at a b (length c) size) ∙ ap (drop (length c)) is ∙ drop_at c d (length c) (λ k. length c),
)
