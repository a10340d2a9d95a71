-- Packs by examples, computed from the definitions.
-- Assumes nothing.
use mathlib.Core.Path.{refl}
use Rattle.pack_order.specs.Order.{compared}
use Rattle.pack.specs.Layout.{four_bytes, bodies, index, trailer, packed}
use Rattle.pack.specs.Write.{profiles_of, ascending, writing}
use Rattle.pack.specs.Read.{count_in, profiles_in, is_pack, reading}
use Rattle.pack.specs.Find.{place_from, finding}
use Rattle.pack.specs.Examples.{PackExamples}

pub pack_examples : PackExamples
unfolding compared four_bytes bodies index trailer packed profiles_of ascending writing count_in profiles_in is_pack reading place_from finding
pack_examples =
    record {
      empty_pack = refl;
      second_name = refl;
      trailer_of_two = refl;
      no_multiples = refl;
      too_many = refl;
      equal_names = refl;
      byte_short = refl;
      enough = refl;
      other_mark = refl;
      byte_behind = refl;
      swapped_bodies = refl;
      second_found = refl;
      not_looked_for = refl;
      part_of_name = refl;
    }
