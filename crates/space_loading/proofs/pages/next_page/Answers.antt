use Rattle.std.proofs.Common.{◌≡◌, ℕ, ◌/◌, ◌^◌, ◌<◌, ◌≤◌, sym, ◌∙◌, ap, List, drop}
use Rattle.elf_image.specs.declared.image.Segment.{Segment}
use Rattle.space_rules.specs.Pages.{filled_pages, pages_in}
use Rattle.space_rules.proofs.Adding.{each}
use Rattle.space_loading.specs.Pages.{earlier, next_page, HasPart}
use Rattle.space_loading.proofs.Parts.{next_part, part_low}
use Rattle.space_loading.proofs.Rising.{next_above, next_all, pages_rise}
use Rattle.space_loading.proofs.Stepping.{drop_none, drop_step, if_some}
use Rattle.space_loading.proofs.pages.next_page.Goals as goal

pub loop-i-preserved : goal.loop-i-preserved
loop-i-preserved c =
    let s = c.index-segments-i.result in
    let rest = drop c.loop-i.i c.args.segments.now in
    c.earlier-next.ensures
    ∙ (λ i. earlier (c.next_page_of.ensures i) (c.loop-i.invariant i))
    ∙ sym (next_all c.args.from (s.vaddr / 4096) (pages_in s) (filled_pages rest) (pages_rise rest))
    ∙ ap (λ (segments : List Segment). next_page c.args.from (filled_pages segments)) (sym (drop_step c.args.segments.now c.loop-i.i s c.loop-i-test.true c.loop-i.auto.i (sym c.index-segments-i.is)))

pub returns-clause-part : goal.returns-clause-part
returns-clause-part c =
    let is : c.loop-i.next ≡ next_page c.args.from (filled_pages c.args.segments.now) = c.loop-i.invariant ∙ ap (λ (segments : List Segment). next_page c.args.from (filled_pages segments)) (drop_none c.args.segments.now c.loop-i.i c.loop-i-test.false) in
    if_some (HasPart c.args.segments.now) c.loop-i.next (λ page e. next_part c.args.segments.now c.args.from page (sym is ∙ e))

pub returns-clause-above : goal.returns-clause-above
returns-clause-above c =
    let is : c.loop-i.next ≡ next_page c.args.from (filled_pages c.args.segments.now) = c.loop-i.invariant ∙ ap (λ (segments : List Segment). next_page c.args.from (filled_pages segments)) (drop_none c.args.segments.now c.loop-i.i c.loop-i-test.false) in
    if_some (λ (page : ℕ). c.args.from ≤ page) c.loop-i.next (λ page e. next_above c.args.from page (filled_pages c.args.segments.now) (sym is ∙ e))

pub returns-clause-low : goal.returns-clause-low
returns-clause-low c =
    let is : c.loop-i.next ≡ next_page c.args.from (filled_pages c.args.segments.now) = c.loop-i.invariant ∙ ap (λ (segments : List Segment). next_page c.args.from (filled_pages segments)) (drop_none c.args.segments.now c.loop-i.i c.loop-i-test.false) in
    if_some (λ (page : ℕ). page < 2 ^ 26) c.loop-i.next (λ page e. part_low c.args.segments.now page (each c.args.segments.now c.requires) (next_part c.args.segments.now c.args.from page (sym is ∙ e)))
