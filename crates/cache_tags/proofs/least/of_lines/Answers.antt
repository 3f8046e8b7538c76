use Rattle.std.proofs.Common.{◌∙◌, ap}
use Rattle.lego_base.specs.declared.ids.LineNo.{LineNo}
use Rattle.std.specs.Prelude.{Option}
use Rattle.cache_tags.specs.Tags.{lower}
use Rattle.cache_tags.proofs.Lowest.{line_step, lines_end}
use Rattle.cache_tags.proofs.least.of_lines.Goals as goal

pub loop-held-preserved : goal.loop-held-preserved
loop-held-preserved c = line_step c.args.pid c.args.from c.args.to c.loop-held.least c.lower-least.result _ c.args.lines.now c.loop-held.held-index _ c.loop-held-test.true (c.lower-least.ensures ∙ ap (λ (o : Option LineNo). lower c.loop-held.least o) c.line_in.ensures) c.loop-held.invariant

pub returns : goal.returns
returns c = lines_end c.args.pid c.args.from c.args.to c.loop-held.least _ c.args.lines.now c.loop-held.held-index c.loop-held-test.false c.loop-held.invariant
