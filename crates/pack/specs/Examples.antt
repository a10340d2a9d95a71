-- Packs by examples: the bytes of small ones, and each refusal (manual 11.6 to 11.9).
-- Assumes nothing.
use Rattle.std.specs.Prelude.{ℕ, ◌*◌, ◌≡◌, List, [], ◌∷◌, ◌++◌, take, drop, replicate}
use Rattle.bits.specs.Text.{ascii}
use Rattle.pack.specs.Layout.{four_bytes, packed}
use Rattle.pack.specs.Outcome.{done, refused}
use Rattle.pack.specs.Write.{profiles_of, writing}
use Rattle.pack.specs.Read.{reading}
use Rattle.pack.specs.Find.{finding}

-- Two profiles: the names are 7Fh sixteen times and 80h sixteen times.
abbrev pub name7f : List ℕ
name7f = replicate 16 0x7F

abbrev pub name80 : List ℕ
name80 = replicate 16 0x80

abbrev pub body1 : List ℕ
body1 = replicate 32 1

abbrev pub body2 : List ℕ
body2 = replicate 32 2

abbrev pub pack_of_two : List ℕ
pack_of_two = packed (profiles_of 16 2 (name7f ++ name80) (body1 ++ body2))

-- The same two, with the bodies in the other order and the offsets to match.
abbrev pub swapped : List ℕ
swapped = body2 ++ (body1 ++ (name7f ++ (four_bytes 32 ++ (name80 ++ (four_bytes 0 ++ drop 104 pack_of_two)))))

pub record PackExamples : Type 0 where
  -- the bytes: no profile; of two, from byte 80 on, the first body's offset and the second name; and the trailer of two
  pub empty_pack : writing [] [] 12 ≡ done (0 ∷ 0 ∷ 0 ∷ 0 ∷ 0 ∷ 0 ∷ 0 ∷ 0 ∷ 0x52 ∷ 0x43 ∷ 0x35 ∷ 0x33 ∷ [])
  pub second_name : take 20 (drop 80 pack_of_two) ≡ 0 ∷ 0 ∷ 0 ∷ 0 ∷ name80
  pub trailer_of_two : drop 104 pack_of_two ≡ 64 ∷ 0 ∷ 0 ∷ 0 ∷ 2 ∷ 0 ∷ 0 ∷ 0 ∷ ascii "RC53"
  -- the writer's refusals in their order: the first three have no room either, and the 257 names are equal; 7Fh comes before 80h
  pub no_multiples : writing (replicate 17 0) (replicate 34 0) 0 ≡ refused 16
  pub too_many : writing (replicate (16 * 257) 0) (replicate (32 * 257) 0) 0 ≡ refused 17
  pub equal_names : writing (name7f ++ name7f) (body1 ++ body2) 0 ≡ refused 18
  pub byte_short : writing (name7f ++ name80) (body1 ++ body2) 115 ≡ refused 19
  pub enough : writing (name7f ++ name80) (body1 ++ body2) 116 ≡ done pack_of_two
  -- what is no pack: another mark, a byte behind the mark, bodies in another order
  pub other_mark : reading (replicate 8 0 ++ ascii "RC54") ≡ refused 14
  pub byte_behind : reading (pack_of_two ++ (0 ∷ [])) ≡ refused 14
  pub swapped_bodies : reading swapped ≡ refused 14
  -- the second name has the second body; in what is no pack it is not looked for; fifteen bytes of a name are not the name
  pub second_found : finding pack_of_two name80 ≡ done 1
  pub not_looked_for : finding (pack_of_two ++ (0 ∷ [])) name80 ≡ refused 14
  pub part_of_name : finding pack_of_two (take 15 name80) ≡ refused 15
