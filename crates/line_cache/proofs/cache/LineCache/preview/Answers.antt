use Rattle.std.proofs.Common.{◌<◌, ap, length, subst, sym, ℕ}
use Rattle.cache_tags.specs.declared.tags.Touch.{Touch}
use Rattle.line_cache.proofs.Fitting.{touch-fits}
use Rattle.line_cache.specs.Cached.{Cached, slot_of_touch}
use Rattle.line_cache.proofs.cache.LineCache.preview.Goals as goal

pub returns-clause-within : goal.returns-clause-within
returns-clause-within c =
    subst (λ (n : ℕ). slot_of_touch c.preview.result < n) (ap (λ (v : Cached). length v.lines) c.self.view_is)
    (subst (λ (t : Touch). slot_of_touch t < length c.self.inside.lines.items) (sym c.preview.ensures)
    (touch-fits (length c.self.inside.lines.items) c.args.pid c.args.line c.self.inside.tags c.self.invariant.fits))
