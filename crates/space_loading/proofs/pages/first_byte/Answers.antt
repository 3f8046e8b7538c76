use Rattle.std.proofs.Common.{sym, ◌∙◌, ap, List, drop}
use Rattle.elf_image.specs.declared.image.Segment.{Segment}
use Rattle.space_rules.specs.Pages.{first_byte}
use Rattle.space_loading.proofs.Parts.{first_same}
use Rattle.space_loading.proofs.Stepping.{drop_step}
use Rattle.space_loading.proofs.pages.first_byte.Goals as goal

pub loop-i-preserved : goal.loop-i-preserved
loop-i-preserved c =
    c.loop-i.invariant
    ∙ first_same c.index-segments-i.result (drop c.loop-i.i c.args.segments.now) c.args.page c.part-start.result.0 c.part-start.result.1 c.part-start.ensures.start c.part-start.ensures.end c.if-start-end.false
    ∙ ap (λ (segments : List Segment). first_byte segments c.args.page) (sym (drop_step c.args.segments.now c.loop-i.i c.index-segments-i.result c.loop-i-test.true c.loop-i.auto.i (sym c.index-segments-i.is)))
