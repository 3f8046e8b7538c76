use Rattle.std.proofs.Common.{◌∙◌, List, ap, arith, length, map, sym}
use Rattle.std.proofs.lemmas.Bool.{le-ltb, lt-ltb}
use Rattle.lego_base.specs.Keys.{find, is_page_of, key_at, put_all}
use Rattle.lego_msg.specs.Maps.{for_child, page_key, pages_of}
use Rattle.page_store.proofs.Copied.{differ, length-copied, none_left, other_page, those_without}
use Rattle.page_store.proofs.Formed.{are_pages}
use Rattle.page_store.proofs.Places.{length-images}
use Rattle.page_store.proofs.Replaced.{parts_of}
use Rattle.page_store.specs.Spots.{images}
use Rattle.page_store.specs.Store.{copied}
use Rattle.page_store.specs.declared.spot.Spot.{Spot}
use Rattle.page_store.proofs.copying.copy_region.Goals as goal

pub returns-then-count_in-most-clause-full : goal.returns-then-count_in-most-clause-full
returns-then-count_in-most-clause-full c =
    let pages = images c.args.frames.now.slots c.args.spots.now.items in
    let form = are_pages c.args.frames.now.slots c.args.parent.0 c.args.region.0 c.args.spots.now.items c.requires.tied.rises c.requires.tied.held in
    let long = length-copied c.args.parent c.args.child c.args.region pages form in
    let childs = c.count_in.ensures.count ∙ ap (λ (l : List Spot). length (pages_of c.args.child.0 c.args.region.0 (images c.args.frames.now.slots l))) c.as_slice.ensures.value in
    let parents = c.count_in-2.ensures.count ∙ ap (λ (l : List Spot). length (pages_of c.args.parent.0 c.args.region.0 (images c.args.frames.now.slots l))) c.as_slice-2.ensures.value in
    let all = length-images c.args.frames.now.slots c.args.spots.now.items in
    let few = c.requires.few in
    let len = c.len.ensures in
    let more = c.if-count_in-most.true in
    let fewer = c.count_in.ensures.few in
    sym (lt-ltb c.args.most (length (copied c.args.parent c.args.child c.args.region pages)) (omega (arith, long, childs, parents, all, few, len, more, fewer)))

pub copy_each-requires-clause-none : goal.copy_each-requires-clause-none
copy_each-requires-clause-none c n is =
    let pages = images c.args.frames.now.slots c.args.spots.now.items in
    ap (find page_key (key_at c.args.child.0 n)) c.drop_region.ensures.pages ∙ none_left c.args.child.0 c.args.region.0 n pages is

pub copy_each-requires-clause-room : goal.copy_each-requires-clause-room
copy_each-requires-clause-room c =
    let pages = images c.args.frames.now.slots c.args.spots.now.items in
    let parts = parts_of page_key (is_page_of c.args.child.0 c.args.region.0) pages in
    let same = those_without page_key (is_page_of c.args.parent.0 c.args.region.0) (is_page_of c.args.child.0 c.args.region.0) pages (λ k here. other_page c.args.parent.0 c.args.region.0 c.args.child.0 c.args.region.0 k (λ e f. differ c.args.parent.0 c.args.child.0 c.requires.apart e) here) in
    let mine = ap length (ap (pages_of c.args.parent.0 c.args.region.0) c.drop_region.ensures.pages ∙ same) in
    let left = ap length c.drop_region.ensures.pages in
    let childs = c.count_in.ensures.count ∙ ap (λ (l : List Spot). length (pages_of c.args.child.0 c.args.region.0 (images c.args.frames.now.slots l))) c.as_slice.ensures.value in
    let parents = c.count_in-2.ensures.count ∙ ap (λ (l : List Spot). length (pages_of c.args.parent.0 c.args.region.0 (images c.args.frames.now.slots l))) c.as_slice-2.ensures.value in
    let all = length-images c.args.frames.now.slots c.args.spots.now.items in
    let few = c.requires.few in
    let len = c.len.ensures in
    let room = c.if-count_in-most.false in
    let fewer = c.count_in.ensures.few in
    omega (arith, parts, mine, left, childs, parents, all, few, len, room, fewer)

pub returns-clause-ok : goal.returns-clause-ok
returns-clause-ok c =
    let pages = images c.args.frames.now.slots c.args.spots.now.items in
    let same = those_without page_key (is_page_of c.args.parent.0 c.args.region.0) (is_page_of c.args.child.0 c.args.region.0) pages (λ k here. other_page c.args.parent.0 c.args.region.0 c.args.child.0 c.args.region.0 k (λ e f. differ c.args.parent.0 c.args.child.0 c.requires.apart e) here) in
    let mine = ap (pages_of c.args.parent.0 c.args.region.0) c.drop_region.ensures.pages ∙ same in
    c.copy_each.ensures.pages ∙ (λ i. put_all page_key (map (for_child c.args.child) (mine i)) (c.drop_region.ensures.pages i))

pub returns-clause-full : goal.returns-clause-full
returns-clause-full c =
    let pages = images c.args.frames.now.slots c.args.spots.now.items in
    let few = c.copy_each.ensures.few in
    let all = length-images c.copy_each.new.frames.slots c.copy_each.new.spots.items in
    let is = ap length (returns-clause-ok c) in
    sym (le-ltb c.args.most (length (copied c.args.parent c.args.child c.args.region pages)) (omega (arith, few, all, is)))
