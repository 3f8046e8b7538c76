use Rattle.std.proofs.Common.{arith, length, subst, sym}
use Rattle.cache_tags.specs.Sets.{Tagged}
use Rattle.line_cache.proofs.Fitting.{looked-fits, slot-fits}
use Rattle.line_cache.specs.Fits.{SetsFit}
use Rattle.line_cache.proofs.cache.LineCache.look_up_older.Goals as goal

pub invariant_of-self-2 : goal.invariant_of-self-2
invariant_of-self-2 c = record {
  fits =
      subst (λ (t : Tagged). SetsFit (length c.self.inside.lines.items) t.sets) (sym c.in_ok-slot.ensures.after)
      (looked-fits (length c.self.inside.lines.items) c.args.pid c.args.line c.self.inside.tags c.self.invariant.fits);
  hand = λ some. absurd (omega (arith, some));
}

pub returns-clause-within : goal.returns-clause-within
returns-clause-within c = slot-fits (length c.self.inside.lines.items) c.args.pid c.args.line c.self.inside.tags c.in_ok-slot.slot c.self.invariant.fits (sym c.in_ok-slot.ensures.answer)
