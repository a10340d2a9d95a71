-- `crc_table::entry` meets its contract: the checker computes the rule at every byte and compares it with the arm's constant. One law answers for
-- all 256 arms, in place of a need for each.
-- Assumes nothing.
use mathlib.Core.Path.{◌≡◌, ◌∙◌, ap}
use mathlib.Core.List.{List}
use Prim.Native.Nat.{ℕ}
use native.Mathlib.Omega.{arith}
use lib.Bits.{bit_xor, xor_lt, xor_zero_r}
use borrow.Fn.Any.{want_q}
use borrow.Fn.Function.{init}
use borrow.Fn.Kinds.{Dens, GoodsP}
use borrow.Fn.Plain.{t_fn_plain}
use contract.Lifetimes.{Lfts, Shares}
use Rattle.bits.proofs.ConstantArms.{answered}
use Rattle.std.specs.Int.Bits.{xor_assoc}
use Rattle.crc_table.specs.ShiftRegister.{after_bit, after_bits, taps16}
use Rattle.crc_table.proofs.entry.Lts as lts
use Rattle.crc_table.proofs.entry.Reads as reads
use Rattle.crc_table.proofs.entry.Statement.{statement}
use Rattle.crc_table.proofs.entry.Tie as tie

-- Bit 7 flipped twice.
flipped_back : (byte : ℕ) → bit_xor (bit_xor byte 128) 128 ≡ byte
flipped_back byte = xor_assoc byte 128 128 ∙ xor_zero_r byte

-- What is asked before the function runs, by the kit's rules: nothing of `byte ^ 128`, and of each arm its constant. An arm that returns owes the
-- contract, and of the two locals nothing.
asked : (κs : Lfts 0) (qs : Shares 0) (a : Dens κs lts.ps) → GoodsP κs lts.ps a → reads.Pre κs a → List ℕ
    → lts.Φ reads.Pre reads.Post (want_q 0 lts.ps lts.r lts.xs lts.m κs qs a (reads.Post κs a)) (init 0 lts.ps lts.r lts.xs lts.m κs qs a)
unfolding after_bits after_bit
asked κs qs a good pre bs =
    let byte = a.0 in (
      tt,
      answered (λ r. (Unit {0} × Unit {0}) × (r ≡ after_bits taps16 8 byte)) (λ key. after_bits taps16 8 (bit_xor key 128)) (bit_xor byte 128)
          ((tt, tt), ap (after_bits taps16 8) (flipped_back byte)) 255 0 (Unit {0}) (λ none. omega arith) (xor_lt 8 byte 128 good.0.1 (omega arith)),
    )

pub entry_spec : {M : Type 1} → statement M
entry_spec {M} =
    tie.close {M = M} λ 𝓤 𝓛 𝓣. t_fn_plain 𝓛 𝓣 0 lts.ps lts.r lts.xs lts.m lts.hs lts.body (λ κs qs bs. lts.Φ reads.Pre reads.Post)
    (λ κs qs bs bd. lts.typed reads.Pre reads.Post κs qs 𝓛 𝓣 bs bd) reads.Pre reads.Post asked
