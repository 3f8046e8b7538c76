use Rattle.std.proofs.Common.{sym, ◌∙◌, arith}
use Rattle.std.proofs.lemmas.Bool.{cond-true, cond-false, le-leb, lt-leb}
use Rattle.area_list.proofs.Lengths.{no_area}
use Rattle.area_list.proofs.Gaps.{gap-none, gap-empty, gap-before, gap-behind}
use Rattle.area_list.proofs.search.lowest_gap.Goals as goal
use Rattle.area_list.proofs.search.lowest_gap.Goals.{then-first-gt-PAGES_END-via-then-first-gt-PAGES_END, then-first-gt-PAGES_END-via-else-first-gt-PAGES_END+then-pages-first}

pub returns-then-first-gt-PAGES_END : goal.returns-then-first-gt-PAGES_END
returns-then-first-gt-PAGES_END c =
    sym (gap-none c.args.runs.now c.args.first c.args.pages c.requires
    (elim c.then-first-gt-PAGES_END.branch [ then-first-gt-PAGES_END-via-then-first-gt-PAGES_END w ↦ omega arith | then-first-gt-PAGES_END-via-else-first-gt-PAGES_END+then-pages-first w ↦ omega arith ]))

pub returns-then-pages-eq0 : goal.returns-then-pages-eq0
returns-then-pages-eq0 c = sym (gap-empty c.args.runs.now c.args.first c.args.pages c.if-pages-eq0.true c.if-first-gt-PAGES_END.false)

pub returns-then-at-pages : goal.returns-then-at-pages
returns-then-at-pages c = sym (gap-before c.args.runs.now c.loop-run.run-index no_area c.loop-run.at c.args.first c.args.pages c.loop-run-test.true c.if-pages-eq0.false c.loop-run.invariant.rest c.if-at-pages.true)

pub returns-then-at-pages-le-PAGES_END : goal.returns-then-at-pages-le-PAGES_END
returns-then-at-pages-le-PAGES_END c = sym (gap-behind c.args.runs.now c.loop-run.run-index c.loop-run.at c.args.first c.args.pages c.loop-run-test.false c.if-pages-eq0.false c.loop-run.invariant.rest ∙ cond-true _ _ _ (le-leb _ _ c.if-at-pages-le-PAGES_END.true))

pub returns-else-at-pages-le-PAGES_END : goal.returns-else-at-pages-le-PAGES_END
returns-else-at-pages-le-PAGES_END c = sym (gap-behind c.args.runs.now c.loop-run.run-index c.loop-run.at c.args.first c.args.pages c.loop-run-test.false c.if-pages-eq0.false c.loop-run.invariant.rest ∙ cond-false _ _ _ (lt-leb _ _ c.if-at-pages-le-PAGES_END.false))
