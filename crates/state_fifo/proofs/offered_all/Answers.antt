-- `state_fifo::offered_all` meets its contract: the bytes before an index have been offered. Assumes nothing.
use Rattle.std.proofs.Common.{ℕ, ◌+◌, take, refl, ap, ◌∙◌, arith, rules}
use Rattle.machine.specs.Fifo.{offered_all, lost_at, lost_of}
use Rattle.state.specs.View.{view, with_numbers, with_state, with_slots}
use Rattle.state.specs.Parts.{numbers_state_slots}
use Rattle.state.specs.declared.Chip.{Chip}
use Rattle.state.proofs.TurnLaws.{stays, then, becomes, here}
use Rattle.state_fifo.proofs.OfferLaws.{offered_more, offered_each, lost_more, lost_each}
use Rattle.state_fifo.proofs.offered_all.Goals as goal

pub loop-byte-init : goal.loop-byte-init
unfolding offered_all lost_of
loop-byte-init c = (search rules, λ sizes. (stays c.args.chip.now sizes, refl), refl, λ chip sizes. (stays (numbers_state_slots c.args.chip.now chip) sizes, refl))

pub loop-byte-preserved : goal.loop-byte-preserved
loop-byte-preserved c =
    let old = c.args.chip.now in
    let bytes = c.args.bytes.now in
    let i = c.loop-byte.byte-index in (
      omega (arith, c.offered.ensures.small, c.loop-byte.invariant.0),
      λ sizes.
          let (first, before) = c.loop-byte.invariant.1 sizes in
          let (second, one) = c.offered.ensures.turns first.sizes in (
            becomes (offered_all (take (i + 1) bytes)) (then first second) (offered_more bytes i (view old) c.loop-byte-test.true),
            ap (λ (n : ℕ). n + c.offered.result) before
                ∙ ap (λ (n : ℕ). lost_of (take i bytes) (view old) + n) (one ∙ ap lost_at first.machine)
                ∙ lost_more bytes i (view old) c.loop-byte-test.true,
          ),
      let next = c.offered.new.chip in
          c.offered.ensures.rest ∙ ap (λ (d : Chip). with_numbers next.numbers (with_state next.state (with_slots next.slots d))) c.loop-byte.invariant.2,
      λ chip sizes.
          let lent = numbers_state_slots old chip in
          let (first, before) = c.loop-byte.invariant.3 chip sizes in
          let (next, one) = c.offered.ensures.others (numbers_state_slots c.loop-byte.chip chip) first.sizes in
          let second = here (ap (λ (d : Chip). numbers_state_slots d chip) c.offered.ensures.rest) next in (
            becomes (offered_all (take (i + 1) bytes)) (then first second) (offered_more bytes i (view lent) c.loop-byte-test.true),
            ap (λ (n : ℕ). n + c.offered.result) before
                ∙ ap (λ (n : ℕ). lost_of (take i bytes) (view lent) + n) (one ∙ ap lost_at first.machine)
                ∙ lost_more bytes i (view lent) c.loop-byte-test.true,
          ),
    )

pub returns-clause-turns : goal.returns-clause-turns
returns-clause-turns c sizes =
    let old = c.args.chip.now in
    let bytes = c.args.bytes.now in
    let i = c.loop-byte.byte-index in
    let (turned, lost) = c.loop-byte.invariant.1 sizes in (
      becomes (offered_all bytes) turned (offered_each bytes i (view old) c.loop-byte-test.false),
      lost ∙ lost_each bytes i (view old) c.loop-byte-test.false,
    )

pub returns-clause-others : goal.returns-clause-others
returns-clause-others c chip sizes =
    let old = numbers_state_slots c.args.chip.now chip in
    let bytes = c.args.bytes.now in
    let i = c.loop-byte.byte-index in
    let (turned, lost) = c.loop-byte.invariant.3 chip sizes in (
      becomes (offered_all bytes) turned (offered_each bytes i (view old) c.loop-byte-test.false),
      lost ∙ lost_each bytes i (view old) c.loop-byte-test.false,
    )
