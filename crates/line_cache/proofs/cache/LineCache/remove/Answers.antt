use Rattle.std.proofs.Common.{arith, length, subst, sym}
use Rattle.cache_tags.specs.Sets.{Tagged}
use Rattle.line_cache.proofs.Fitting.{removed-fits}
use Rattle.line_cache.specs.Fits.{SetsFit}
use Rattle.line_cache.proofs.cache.LineCache.remove.Goals as goal

pub invariant_of-self : goal.invariant_of-self
invariant_of-self c = record {
  fits =
      subst (λ (t : Tagged). SetsFit (length c.self.inside.lines.items) t.sets) (sym c.remove.ensures)
      (removed-fits (length c.self.inside.lines.items) c.args.pid c.args.line c.self.inside.tags c.self.invariant.fits);
  hand = λ some. absurd (omega (arith, some));
}
