use Rattle.std.proofs.Common.{◌≡◌, ◌<◌, ◌∷◌, ◌∙◌, List, ap, arith, length, sym}
use Rattle.std.proofs.lemmas.List.{length-take-le}
use Rattle.cache_tags.specs.Lists.{brought}
use Rattle.cache_tags.specs.Sets.{SetLines}
use Rattle.cache_tags.specs.declared.set.Held.{Held}
use Rattle.cache_tags.proofs.Ways.{bring-set}
use Rattle.cache_tags.proofs.set.Set.bring.Goals as goal

pub returns : goal.returns
returns c =
    let n : length c.args.self.now.lines ≡ c.self.inside.live = ap (λ (s : SetLines). length s.lines) (sym c.self.view_is) ∙ length-take-le c.self.inside.live c.self.inside.entries.items c.self.invariant.0 in
    let less : c.args.place < c.self.inside.live = omega (arith, n, c.requires) in
    bring-set c.self.inside.entries.items c.insert_within.new.entries.items c.self.inside.live c.args.place c.remove-held.result c.self.invariant.0 less c.remove-held.ensures.value
    (c.insert_within.ensures ∙ ap (λ (es : List Held). c.remove-held.result ∷ es) c.remove-held.ensures.items)
    ∙ ap (brought c.args.place) c.self.view_is
