-- `profile_choice::passes` meets its contract, by the edition that the image is of. Assumes nothing.
use Rattle.std.proofs.Common.{◌&&◌, ◌∙◌}
use Rattle.edition.specs.Edition.{fixed_bits, edition_of}
use Rattle.profile.specs.Answer.{is_pass}
use Rattle.profile.specs.Check.{judged}
use Rattle.profile_choice.specs.Choice.{start_up_profile, passing}
use Rattle.profile_choice.proofs.passes.Goals as goal

pub returns-in-Some : goal.returns-in-Some
unfolding passing
returns-in-Some c =
    let is = c.in-Some.ensures in
    c.passes_as.ensures ∙ (λ i. is.either i && is_pass (judged (fixed_bits (is.edition i)) (start_up_profile c.args.image.now)))

pub returns-in-None : goal.returns-in-None
unfolding passing
returns-in-None c =
    let image = c.args.image.now in λ i. c.in-None.ensures.either i && is_pass (judged (fixed_bits (edition_of image)) (start_up_profile image))
