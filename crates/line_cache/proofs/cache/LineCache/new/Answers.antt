use Rattle.std.proofs.Common.{◌≡◌, ◌*◌, ◌<◌, arith, length, rules, subst, sym}
use Rattle.cache_tags.specs.Sets.{Tagged}
use Rattle.line_cache.proofs.Fitting.{empty-fits}
use Rattle.line_cache.specs.Fits.{SetsFit}
use Rattle.line_cache.proofs.cache.LineCache.new.Goals as goal

pub invariant_of-result : goal.invariant_of-result
invariant_of-result c =
    let some : 0 < c.args.sets = search rules in
    let n : length c.in_ok-lines.lines.items ≡ c.args.sets * c.args.ways = search rules in
    record {
      fits =
          subst (λ (t : Tagged). SetsFit (length c.in_ok-lines.lines.items) t.sets) (sym c.in_ok-tags.ensures)
          (empty-fits (length c.in_ok-lines.lines.items) c.args.sets c.args.ways some c.requires.some (omega (arith, n)));
      hand = λ some. absurd (omega (arith, some));
    }
