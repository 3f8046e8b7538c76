use Rattle.std.proofs.Common.{◌∙◌, List, ap}
use Rattle.lego_base.specs.declared.ids.LineNo.{LineNo}
use Rattle.std.specs.Prelude.{Option}
use Rattle.cache_tags.specs.Tags.{least_in, lower}
use Rattle.cache_tags.specs.declared.set.Held.{Held}
use Rattle.cache_tags.proofs.Lowest.{set_step, sets_end}
use Rattle.cache_tags.proofs.least.of_sets.Goals as goal

pub loop-set-preserved : goal.loop-set-preserved
loop-set-preserved c =
    set_step c.args.pid c.args.from c.args.to c.loop-set.least c.lower-least.result _ c.args.sets.now c.loop-set.set-index c.set-item.result c.loop-set-test.true c.set-item.is
    (c.lower-least.ensures ∙ ap (λ (o : Option LineNo). lower c.loop-set.least o) (c.of_lines.ensures ∙ ap (λ (ls : List Held). least_in c.args.pid c.args.from c.args.to ls) c.lines.ensures))
    c.loop-set.invariant

pub returns : goal.returns
returns c = sets_end c.args.pid c.args.from c.args.to c.loop-set.least _ c.args.sets.now c.loop-set.set-index c.loop-set-test.false c.loop-set.invariant
