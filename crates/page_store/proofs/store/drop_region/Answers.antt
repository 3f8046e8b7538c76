use Rattle.lego_base.specs.Keys.{is_page_of}
use Rattle.page_store.proofs.Freed.{none_goes, past_end}
use Rattle.page_store.proofs.store.drop_region.Goals as goal

pub returns-then-region-clause-pages : goal.returns-then-region-clause-pages
returns-then-region-clause-pages c =
    none_goes c.args.frames.now.slots (is_page_of c.args.pid.0 c.args.region.0) c.args.spots.now.items c.requires.tied.fit (λ p n fits. past_end c.args.pid.0 c.args.region.0 p n fits c.if-region.true)
