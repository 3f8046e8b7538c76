use Rattle.std.proofs.Common.{sym}
use Rattle.space_rules.proofs.Adding.{load_more, load_fits}
use Rattle.space_rules.proofs.image.load_areas.Goals as goal

pub map_pages-requires-clause-few : goal.map_pages-requires-clause-few
map_pages-requires-clause-few c = load_fits c.args.segments.now c.loop-segment.segment-index c.segment-item.result c.loop-segment.areas c.loop-segment-test.true c.requires.few c.requires.bounded (sym c.segment-item.is) c.loop-segment.invariant

pub loop-segment-preserved : goal.loop-segment-preserved
loop-segment-preserved c = load_more c.args.segments.now c.loop-segment.segment-index c.segment-item.result c.loop-segment.areas c.map_pages.new.areas c.loop-segment-test.true (sym c.segment-item.is) c.loop-segment.invariant c.map_pages.ensures
