use Rattle.space_loading.proofs.Parts.{load_below, load_next}
use Rattle.space_loading.proofs.pages.next_page_of.Goals as goal

pub returns-then-last-from : goal.returns-then-last-from
returns-then-last-from c = load_below c.args.segment.now c.args.from c.len.result c.if-is_empty.ensures c.len.ensures c.if-last-from.true

pub returns : goal.returns
returns c = load_next c.args.segment.now c.args.from c.len.result c.max.result c.if-is_empty.ensures c.len.ensures c.if-last-from.false c.max.ensures
