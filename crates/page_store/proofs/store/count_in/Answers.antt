use Rattle.std.proofs.Common.{◌∙◌, ap, length, sym}
use Rattle.lego_base.specs.Keys.{is_page_of, those}
use Rattle.page_store.proofs.Places.{length-images, those-images}
use Rattle.page_store.specs.Spots.{spot_key}
use Rattle.page_store.proofs.store.count_in.Goals as goal

pub returns-clause-count : goal.returns-clause-count
returns-clause-count c =
    sym c.region_span-start.ensures.count
    ∙ (sym (length-images c.args.frames.now.slots (those spot_key (is_page_of c.args.pid.0 c.args.region.0) c.args.spots.now))
    ∙ ap length (sym (those-images c.args.frames.now.slots (is_page_of c.args.pid.0 c.args.region.0) c.args.spots.now)))
