use Rattle.std.proofs.Common.{subst, sym}
use Rattle.cache_tags.specs.CacheRule.{Tally}
use Rattle.line_cache.proofs.AtHand.{fetches}
use Rattle.line_cache.specs.Cached.{Cached}
use Rattle.line_cache.specs.Counting.{tally_of}
use Rattle.line_cache.specs.Hand.{IsFetch}
use Rattle.line_cache.proofs.cache.LineCache.fetch_at_hand.Goals as goal

pub returns-in-Some : goal.returns-in-Some
returns-in-Some c =
    let new : Tally → Cached = λ counts. record { tags = c.self.inside.tags; lines = c.self.inside.lines.items; counts = counts } in
    subst (λ (old : Cached). IsFetch c.args.pid c.args.addr c.word.result old (new (tally_of c.hit.new.counts))) c.self.view_is
    (subst (λ (counts : Tally). IsFetch c.args.pid c.args.addr c.word.result (new (tally_of c.self.inside.counts)) (new counts)) (sym c.hit.ensures)
    (fetches c.self.inside.hand c.self.inside.tags c.self.inside.lines.items (tally_of c.self.inside.counts) c.args.pid c.args.addr c.in-Some.off c.word.result c.index.result.now c.self.invariant c.in-Some.ensures c.index.ensures c.word.ensures))
