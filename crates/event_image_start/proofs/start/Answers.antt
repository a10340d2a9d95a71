-- `event_image_start::start` meets its contract, by the image's length and by whose it is. Assumes nothing.
use Rattle.std.specs.Prelude.{Option, is_some, IfSome}
use Rattle.std.proofs.Common.{◌≡◌, ℕ, true, false, List, [], replicate, refl, sym, ap, subst, ◌∙◌, eq-eqb, ne_eqb, arith}
use Rattle.edition.specs.Edition.{of_either, edition_of, number_of}
use Rattle.edition.specs.declared.Edition.{Edition}
use Rattle.machine.specs.Memory.{bytes_from, over_registers}
use Rattle.machine.specs.Refusals.{start}
use Rattle.machine.proofs.WellFormed.Kept.{well_formedness}
use Rattle.state.specs.Meets.{Meets, Whole}
use Rattle.state.specs.declared.Chip.{Chip}
use Rattle.state.proofs.ByteLaws.{known_bytes}
use Rattle.state.proofs.MeetLaws.{refused, accepted_as, start_refusal}
use Rattle.register_load.specs.Wrapped.{wrapped_from}
use Rattle.register_load.proofs.LoadLaws.{unwrapped}
use Rattle.event_image_start.proofs.StartLaws.{fresh, fresh_done}
use Rattle.event_image_start.proofs.start.Goals as goal

pub returns-then-image-ne-IMAGE_LENGTH : goal.returns-then-image-ne-IMAGE_LENGTH
returns-then-image-ne-IMAGE_LENGTH c whole =
    let old = c.args.chip.now in
    let image = c.args.image.now in
    refused old (start image) 1 (start_refusal old image false (of_either image) (ne_eqb _ _ c.if-image-ne-IMAGE_LENGTH.true) refl) whole

pub returns-in_default : goal.returns-in_default
returns-in_default c whole =
    let old = c.args.chip.now in
    let image = c.args.image.now in
    let neither : of_either image ≡ false = sym c.of.ensures.either ∙ ap is_some c.in_default.is in
    refused old (start image) 21 (start_refusal old image true false (eq-eqb _ _ c.if-image-ne-IMAGE_LENGTH.false) neither) whole

pub returns : goal.returns
returns c whole =
    let old = c.args.chip.now in
    let image = c.args.image.now in
    let edition = c.in-Some.edition in
    let size = c.if-image-ne-IMAGE_LENGTH.false in
    let either : of_either image ≡ true = sym c.of.ensures.either ∙ ap is_some c.in-Some.is in
    let own = subst (λ (r : Option Edition). IfSome r (λ e. e ≡ edition_of image)) c.in-Some.is c.of.ensures.edition in
    let registers : List ℕ → List ℕ = over_registers 0 (replicate 32 0) in
    let loaded : c.load_registers.new.chip ≡ fresh (number_of edition) (registers (bytes_from image 0x10 32)) image =
    c.load_registers.ensures
    ∙ ap (λ (l : List ℕ). fresh c.from.result (registers (wrapped_from l 0x10 32)) l) (c.store_image.ensures whole.sizes.eeprom_count)
    ∙ ap (λ (l : List ℕ). fresh c.from.result (registers l) image) (unwrapped image 0x10 32 size (omega arith))
    ∙ ap (λ (number : ℕ). fresh number (registers (bytes_from image 0x10 32)) image) c.from.ensures in
    subst (λ (next : Chip). Meets old (start image) next 0 [] × Whole next) (sym loaded)
    (accepted_as old (start image) _ 0 [] (start_refusal old image true true (eq-eqb _ _ size) either) (fresh_done old edition image own size)
    (well_formedness.starts image (known_bytes image c.type_inv.image) size either))
