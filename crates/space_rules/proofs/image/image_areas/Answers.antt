use Rattle.std.proofs.Common.{refl, rules}
use Rattle.space_rules.proofs.Adding.{image_fits}
use Rattle.space_rules.proofs.image.image_areas.Goals as goal

pub unreachable-requires : goal.unreachable-requires
unreachable-requires c = image_fits c.segments.result.now c.union.result c.in_ok-areas.areas (search rules) (search rules) (λ i. record { 0 = c.union.ensures tt i }) c.in_ok-areas.ensures (c.in-Err.ensures.too_many.0 refl)
