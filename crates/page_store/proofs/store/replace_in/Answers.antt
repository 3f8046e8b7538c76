use Rattle.std.proofs.Common.{◌∙◌, List, ap, arith, length, sym}
use Rattle.std.proofs.lemmas.Bool.{lt-ltb}
use Rattle.lego_base.specs.Keys.{put_all}
use Rattle.lego_base.specs.declared.records.PageImage.{PageImage}
use Rattle.lego_msg.specs.Maps.{page_key, pages_of, with_pages}
use Rattle.page_store.proofs.Places.{length-images}
use Rattle.page_store.proofs.Replaced.{all_whole, length-with_pages}
use Rattle.page_store.specs.Spots.{images}
use Rattle.page_store.specs.declared.spot.Spot.{Spot}
use Rattle.page_store.proofs.store.replace_in.Goals as goal

pub returns-then-pages-most-clause-full : goal.returns-then-pages-most-clause-full
returns-then-pages-most-clause-full c =
    let pages = images c.args.frames.now.slots c.args.spots.now.items in
    let long = length-with_pages c.args.pid.0 c.args.region.0 c.args.pages.now pages c.requires.pages in
    let count = c.count_in.ensures.count ∙ ap (λ (l : List Spot). length (pages_of c.args.pid.0 c.args.region.0 (images c.args.frames.now.slots l))) c.as_slice.ensures.value in
    let all = length-images c.args.frames.now.slots c.args.spots.now.items in
    let few = c.requires.few in
    let len = c.len.ensures in
    let more = c.if-pages-most.true in
    let fewer = c.count_in.ensures.few in
    sym (lt-ltb c.args.most (length (with_pages c.args.pid.0 c.args.region.0 c.args.pages.now pages)) (omega (arith, long, count, all, few, len, more, fewer)))

pub put_each-requires-clause-whole : goal.put_each-requires-clause-whole
put_each-requires-clause-whole c = all_whole c.args.pid.0 c.args.region.0 c.args.pages.now c.requires.pages.1

pub put_each-requires-clause-room : goal.put_each-requires-clause-room
put_each-requires-clause-room c =
    let pages = images c.args.frames.now.slots c.args.spots.now.items in
    let long = length-with_pages c.args.pid.0 c.args.region.0 c.args.pages.now pages c.requires.pages in
    let count = c.count_in.ensures.count ∙ ap (λ (l : List Spot). length (pages_of c.args.pid.0 c.args.region.0 (images c.args.frames.now.slots l))) c.as_slice.ensures.value in
    let all = length-images c.args.frames.now.slots c.args.spots.now.items in
    let few = c.requires.few in
    let len = c.len.ensures in
    let room = c.if-pages-most.false in
    let is = ap (λ (l : List PageImage). length (put_all page_key c.args.pages.now l)) c.drop_region.ensures.pages in
    omega (arith, long, count, all, few, len, room, is)
