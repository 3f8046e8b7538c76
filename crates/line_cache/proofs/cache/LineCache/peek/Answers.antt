use Rattle.std.proofs.Common.{◌<◌, ap, length, subst, ℕ}
use Rattle.std.specs.Option.{IfSome}
use Rattle.line_cache.proofs.Fitting.{some-fits}
use Rattle.line_cache.specs.Cached.{Cached}
use Rattle.line_cache.proofs.cache.LineCache.peek.Goals as goal

pub returns-clause-within : goal.returns-clause-within
returns-clause-within c =
    subst (λ (n : ℕ). IfSome c.peek.result (λ slot. slot < n)) (ap (λ (v : Cached). length v.lines) c.self.view_is)
    (some-fits (length c.self.inside.lines.items) c.args.pid c.args.line c.self.inside.tags c.peek.result c.self.invariant.fits c.peek.ensures)
