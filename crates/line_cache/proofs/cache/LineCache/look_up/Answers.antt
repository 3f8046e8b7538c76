use Rattle.std.proofs.Common.{length}
use Rattle.line_cache.proofs.Fitting.{slot-fits}
use Rattle.line_cache.proofs.cache.LineCache.look_up.Goals as goal

pub returns-in-Some-clause-within : goal.returns-in-Some-clause-within
returns-in-Some-clause-within c = slot-fits (length c.self.inside.lines.items) c.args.pid c.args.line c.self.inside.tags c.in-Some.slot c.self.invariant.fits c.in-Some.ensures.there
