-- Laws of a frame's parity values and of the order of its tests.
-- Assumes nothing.
use Rattle.std.proofs.Common.{ℕ, ◌≡◌, refl, sym, ap, ◌∙◌, Bool, true, false, ◌&&◌, List, [], ◌∷◌, length, eqb, leb}
use Rattle.std.specs.List.{list_all}
use mathlib.Core.Bool.{and_comm}
use Rattle.machine.specs.Refusals.{all_bits, frame_formed}

-- Every value is 0 or 1.
each_bit : (ps : List ℕ) → list_all (λ p. leb p 1) ps ≡ all_bits ps
unfolding all_bits
each_bit [] = refl
each_bit (p ∷ ps) = ap (λ (t : Bool). leb p 1 && t) (each_bit ps)

-- Of a frame's five tests, that of the parity values may be made last, where the others hold.
pub values_last : (bytes parities : List ℕ) (last_bits : ℕ) (t : Bool) →
    (((leb 1 (length bytes) && leb (length bytes) 64) && eqb (length parities) (length bytes)) && leb last_bits 7) ≡ t →
    (t && list_all (λ p. leb p 1) parities) ≡ frame_formed bytes parities last_bits
values_last bytes parities last_bits t is =
    ap (λ (h : Bool). h && list_all (λ p. leb p 1) parities) (sym is)
    ∙ ap (λ (h : Bool). (((leb 1 (length bytes) && leb (length bytes) 64) && eqb (length parities) (length bytes)) && leb last_bits 7) && h) (each_bit parities)
    ∙ go (leb 1 (length bytes)) (leb (length bytes) 64) (eqb (length parities) (length bytes)) (leb last_bits 7) (all_bits parities)
  where
    go : (a b c d e : Bool) → ((((a && b) && c) && d) && e) ≡ (a && (b && (c && (e && d))))
    go true true true d e = and_comm d e
    go true true false d e = refl
    go true false c d e = refl
    go false b c d e = refl
