use Rattle.std.proofs.Common.{◌≡◌, ◌+◌, ◌∙◌, ap, arith, sym}
use Rattle.backup_images.specs.Segments.{images_in, regions_reset, weights}
use Rattle.backup_images.proofs.Groups.{made_anew}
use Rattle.backup_images.proofs.images.Images.make_anew.Goals as goal

pub invariant_of-self : goal.invariant_of-self
invariant_of-self c =
    let weight : c.in_ok-weight.weight ≡ 0 + weights c.in_ok-segments.segments.items = c.in_ok-weight.ensures ∙ ap (λ s. 0 + weights s) c.as_slice-2.ensures.value in
    (omega (arith, weight), sym (ap images_in c.in_ok-segments.ensures ∙ ap (λ p. images_in (regions_reset p)) c.as_slice.ensures.value ∙ made_anew c.args.pages.items c.requires))
