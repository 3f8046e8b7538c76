use Rattle.std.proofs.Common.{◌≡◌, ◌-◌, ◌<◌, ◌∙◌, List, ap, arith, length, sym}
use Rattle.std.proofs.lemmas.List.{length-take-le}
use Rattle.std.specs.List.{insert}
use Rattle.cache_tags.specs.Lists.{released}
use Rattle.cache_tags.specs.Sets.{SetLines}
use Rattle.cache_tags.specs.declared.set.Held.{Held}
use Rattle.cache_tags.proofs.Ways.{release-set}
use Rattle.cache_tags.proofs.set.Set.release.Goals as goal

pub returns : goal.returns
returns c =
    let n : length c.args.self.now.lines ≡ c.self.inside.live = ap (λ (s : SetLines). length s.lines) (sym c.self.view_is) ∙ length-take-le c.self.inside.live c.self.inside.entries.items c.self.invariant.0 in
    let less : c.args.place < c.self.inside.live = omega (arith, n, c.requires) in
    release-set c.self.inside.entries.items c.insert_within.new.entries.items c.self.inside.live (c.self.inside.live - 1) c.args.place c.remove-held.result c.self.invariant.0 (omega (arith, less)) less c.remove-held.ensures.value
    (c.insert_within.ensures ∙ ap (λ (es : List Held). insert es (c.self.inside.live - 1) c.remove-held.result) c.remove-held.ensures.items)
    ∙ ap (released c.args.place) c.self.view_is
