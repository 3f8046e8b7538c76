use Rattle.std.proofs.Common.{ap, length}
use Rattle.lego_base.specs.Keys.{is_page_of}
use Rattle.page_store.proofs.Freed.{none_those, past_end}
use Rattle.page_store.proofs.store.region_span.Goals as goal

pub returns-then-region-clause-those : goal.returns-then-region-clause-those
returns-then-region-clause-those c =
    none_those (is_page_of c.args.pid.0 c.args.region.0) c.args.spots.now c.requires.fit (λ p n fits. past_end c.args.pid.0 c.args.region.0 p n fits c.if-region.true)

pub returns-then-region-clause-count : goal.returns-then-region-clause-count
returns-then-region-clause-count c = ap length (returns-then-region-clause-those c)
