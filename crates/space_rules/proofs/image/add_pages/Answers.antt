use Rattle.std.proofs.Common.{refl, ◌∙◌, ap, Option}
use Rattle.lego_base.specs.declared.perms.Perms.{Perms}
use Rattle.space_rules.specs.Mapped.{union}
use Rattle.space_rules.proofs.Adding.{page_more, page_fits}
use Rattle.space_rules.proofs.image.add_pages.Goals as goal

pub unreachable-requires : goal.unreachable-requires
unreachable-requires c =
    page_fits c.args.first c.loop-page.page c.args.count c.args.perms c.with_more-all.result c.args.areas.now c.loop-page.areas c.loop-page-test.true c.loop-page.invariant
    (c.with_more-all.ensures ∙ ap (λ (perms : Option Perms). union perms c.args.perms) c.perms_at.ensures)
    c.requires.few (c.in-Err.ensures.too_many.0 refl)

pub loop-page-preserved : goal.loop-page-preserved
loop-page-preserved c =
    page_more c.args.first c.loop-page.page c.args.perms c.with_more-all.result c.args.areas.now c.loop-page.areas c.put.new.self c.loop-page.invariant
    (c.with_more-all.ensures ∙ ap (λ (perms : Option Perms). union perms c.args.perms) c.perms_at.ensures)
    c.in-Ok.ensures.ok
