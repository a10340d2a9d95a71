-- `pack_read::is_pack` meets its contract. Assumes nothing.
use borrow.Author.Rules.{rules}
use mathlib.Core.Path.{◌≡◌, sym, ap, ◌∙◌}
use mathlib.Core.List.{List}
use Prim.Native.Nat.{ℕ, ◌+◌, ◌-◌, ◌*◌, ◌/◌}
use native.Mathlib.Omega.{arith}
use lib.ListN.{length, take, drop, length-drop}
use lib.Seq.{length-take-le, take_all}
use Rattle.pack_order.specs.Order.{same}
use Rattle.pack.specs.Layout.{trailer}
use Rattle.pack.specs.Write.{profiles_of, ascending}
use Rattle.pack.specs.Read.{count_in}
use Rattle.pack.proofs.Count.{count_small}
use Rattle.pack_read.specs.Offsets.{offsets_from}
use Rattle.pack_read.proofs.Judged.{entries_of, other_size, bad_trailer, bad_offsets, by_names}
use Rattle.pack_read.proofs.is_pack.Goals as goal

-- The part of the bytes behind the index that was lent is all of them.
trailer_told : (bytes : List ℕ) {n : ℕ} → n ≡ count_in bytes →
    same (drop (52 * count_in bytes) bytes) (trailer (count_in bytes)) ≡ same (take (length bytes - 52 * n) (drop (52 * n) bytes)) (trailer n)
trailer_told bytes {n} count =
    ap (λ (k : ℕ). same (drop (52 * k) bytes) (trailer k)) (sym count)
    ∙ ap (λ (l : List ℕ). same l (trailer n)) (sym (take_all (length bytes - 52 * n) (drop (52 * n) bytes) (simp length-drop (omega arith))))

-- The part of the bytes that was lent is the entries.
entries_told : {B : Type 0} (bytes : List ℕ) {n : ℕ} → n ≡ count_in bytes → (f : ℕ → List ℕ → B) →
    f (count_in bytes) (entries_of (count_in bytes) bytes) ≡ f n (take (52 * n - 32 * n) (drop (32 * n) bytes))
entries_told bytes {n} count f =
    let size : 20 * n ≡ 52 * n - 32 * n = omega arith in
    ap (λ (k : ℕ). f k (entries_of k bytes)) (sym count) ∙ ap (λ (k : ℕ). f n (take k (drop (32 * n) bytes))) size

pub overflow_mul-index : goal.overflow_mul-index
overflow_mul-index c =
    let few = count_small c.args.pack.now in
    let count = c.count-number.ensures in
    search rules

pub overflow_mul-trailer : goal.overflow_mul-trailer
overflow_mul-trailer c =
    let few = count_small c.args.pack.now in
    let count = c.count-number.ensures in
    search rules

pub overflow_add-trailer : goal.overflow_add-trailer
overflow_add-trailer c =
    let few = count_small c.args.pack.now in
    let count = c.count-number.ensures in
    search rules

pub returns-then-pack-trailer : goal.returns-then-pack-trailer
returns-then-pack-trailer c =
    let pack = c.args.pack.now in
    sym (other_size pack (λ size. c.if-pack-trailer.true (size ∙ ap (λ (k : ℕ). 52 * k + 12) (sym c.count-number.ensures))))

pub overflow_cast-number : goal.overflow_cast-number
overflow_cast-number c =
    let few = count_small c.args.pack.now in
    let count = c.count-number.ensures in
    search rules

pub is_trailer-requires : goal.is_trailer-requires
is_trailer-requires c =
    let pack = c.args.pack.now in
    let few = count_small pack in
    let count = c.count-number.ensures in
    let start = 52 * c.count-number.result in
    (length-take-le (length pack - start) (drop start pack) (simp length-drop (omega arith)) ∙ omega arith, omega arith)

pub returns-then-not-is_trailer : goal.returns-then-not-is_trailer
returns-then-not-is_trailer c =
    let pack = c.args.pack.now in
    let count = c.count-number.ensures in
    let size = c.if-pack-trailer.false ∙ ap (λ (k : ℕ). 52 * k + 12) count in
    sym (bad_trailer pack size (trailer_told pack count ∙ sym c.is_trailer.ensures ∙ c.if-not-is_trailer.true))

pub has_offsets-requires : goal.has_offsets-requires
has_offsets-requires c =
    let pack = c.args.pack.now in
    let few = count_small pack in
    let count = c.count-number.ensures in
    let n = c.count-number.result in
    (length-take-le (52 * n - 32 * n) (drop (32 * n) pack) (simp length-drop (omega arith)) ∙ omega arith, omega arith)

pub returns-then-not-has_offsets : goal.returns-then-not-has_offsets
returns-then-not-has_offsets c =
    let pack = c.args.pack.now in
    let count = c.count-number.ensures in
    let size = c.if-pack-trailer.false ∙ ap (λ (k : ℕ). 52 * k + 12) count in
    sym (bad_offsets pack size (entries_told pack count (λ (n : ℕ) (entries : List ℕ). offsets_from 0 n entries) ∙ sym c.has_offsets.ensures ∙ c.if-not-has_offsets.true))

pub returns : goal.returns
returns c =
    let pack = c.args.pack.now in
    let count = c.count-number.ensures in
    let size = c.if-pack-trailer.false ∙ ap (λ (k : ℕ). 52 * k + 12) count in
    let entries = entries_of (count_in pack) pack in
    let entries_size = length-take-le (20 * count_in pack) (drop (32 * count_in pack) pack) (simp length-drop (omega arith)) in
    let number : (length entries + 4) / 20 ≡ count_in pack = omega arith in
    c.ascends.ensures pack
    ∙ sym (entries_told pack count (λ (n : ℕ) (l : List ℕ). ascending (profiles_of 20 ((length l + 4) / 20) l pack)))
    ∙ ap (λ (k : ℕ). ascending (profiles_of 20 k entries pack)) number
    ∙ sym (by_names pack size
    (trailer_told pack count ∙ sym c.is_trailer.ensures ∙ c.if-not-is_trailer.false)
    (entries_told pack count (λ (n : ℕ) (entries : List ℕ). offsets_from 0 n entries) ∙ sym c.has_offsets.ensures ∙ c.if-not-has_offsets.false))
