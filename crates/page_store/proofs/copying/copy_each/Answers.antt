use Rattle.std.proofs.Common.{◌+◌, ◌∷◌, ◌∙◌, List, ap, arith, drop, length, map, refl, subst, sym}
use Rattle.std.proofs.lemmas.List.{length-map}
use Rattle.lego_base.specs.Keys.{is_page_of, key_at, put_all}
use Rattle.lego_base.specs.declared.records.PageImage.{PageImage}
use Rattle.lego_msg.specs.Form.{EachOnce}
use Rattle.lego_msg.specs.Maps.{for_child, page_key, pages_of}
use Rattle.page_store.proofs.Copied.{are_copies, copies_absent, copy_out, held_at, next_copy, place_absent, place_within, still_absent, those_put}
use Rattle.page_store.proofs.Formed.{are_pages}
use Rattle.page_store.proofs.Places.{length-images}
use Rattle.page_store.proofs.Replaced.{AreAbsent}
use Rattle.page_store.specs.Spots.{image, images}
use Rattle.page_store.specs.declared.spot.Spot.{Spot}
use Rattle.page_store.proofs.copying.copy_each.Goals as goal

pub loop-index-init : goal.loop-index-init
loop-index-init c =
    let before = images c.args.frames.now.slots c.args.spots.now.items in
    let there = pages_of c.args.parent.0 c.args.region.0 before in
    let form = are_pages c.args.frames.now.slots c.args.parent.0 c.args.region.0 c.args.spots.now.items c.requires.tied.rises c.requires.tied.held in
    let room = c.requires.room in
    let all = length-images c.args.frames.now.slots c.args.spots.now.items in
    let long = length-map there (for_child c.args.child) in
    record {
      same = refl;
      count = c.count_in-count.ensures.count ∙ ap (λ (l : List Spot). length (pages_of c.args.parent.0 c.args.region.0 (images c.args.frames.now.slots l))) c.as_slice.ensures.value;
      rest = refl;
      once = (are_copies c.args.parent.0 c.args.region.0 c.args.child there form).0;
      absent = copies_absent c.args.parent.0 c.args.region.0 c.args.child there before form.1 c.requires.none;
      room = omega (arith, room, all, long);
      tied = c.requires.tied;
      spots = omega arith;
      frames = refl;
    }

pub spot_in-spot-requires-clause-within : goal.spot_in-spot-requires-clause-within
spot_in-spot-requires-clause-within c =
    let there = pages_of c.args.parent.0 c.args.region.0 (images c.args.frames.now.slots c.args.spots.now.items) in
    let less = c.loop-index-test.true in
    let count = c.loop-index.invariant.count in
    place_within c.loop-index.frames.slots c.loop-index.spots.items c.as_slice-in-loop-index.result.now c.args.parent.0 c.args.region.0 c.loop-index.index there c.as_slice-in-loop-index.ensures.value c.loop-index.invariant.same (omega (arith, less, count))

pub copy_one-requires-clause-held : goal.copy_one-requires-clause-held
copy_one-requires-clause-held c =
    let there = pages_of c.args.parent.0 c.args.region.0 (images c.args.frames.now.slots c.args.spots.now.items) in
    let less = c.loop-index-test.true in
    let count = c.loop-index.invariant.count in
    let within = place_within c.loop-index.frames.slots c.loop-index.spots.items c.as_slice-in-loop-index.result.now c.args.parent.0 c.args.region.0 c.loop-index.index there c.as_slice-in-loop-index.ensures.value c.loop-index.invariant.same (omega (arith, less, count)) in
    held_at c.loop-index.frames.slots c.loop-index.spots.items c.as_slice-in-loop-index.result.now c.args.parent.0 c.args.region.0 c.loop-index.index c.spot_in-spot.result c.as_slice-in-loop-index.ensures.value c.loop-index.invariant.tied.held within c.spot_in-spot.ensures

pub copy_one-requires-clause-absent : goal.copy_one-requires-clause-absent
copy_one-requires-clause-absent c =
    let there = pages_of c.args.parent.0 c.args.region.0 (images c.args.frames.now.slots c.args.spots.now.items) in
    let now = images c.loop-index.frames.slots c.loop-index.spots.items in
    let less = c.loop-index-test.true in
    let count = c.loop-index.invariant.count in
    let split = next_copy c.loop-index.frames.slots c.loop-index.spots.items c.as_slice-in-loop-index.result.now c.args.parent.0 c.args.region.0 c.loop-index.index c.args.child c.spot_in-spot.result there c.as_slice-in-loop-index.ensures.value c.loop-index.invariant.same (omega (arith, less, count)) c.spot_in-spot.ensures in
    let absent = subst (λ (l : List PageImage). AreAbsent page_key l now) split c.loop-index.invariant.absent in
    place_absent c.loop-index.frames.slots c.loop-index.spots.items (key_at c.args.child.0 c.spot_in-spot.result.vpn.0) absent.0

pub loop-index-preserved : goal.loop-index-preserved
loop-index-preserved c =
    let there = pages_of c.args.parent.0 c.args.region.0 (images c.args.frames.now.slots c.args.spots.now.items) in
    let now = images c.loop-index.frames.slots c.loop-index.spots.items in
    let copy : PageImage = for_child c.args.child (image c.loop-index.frames.slots c.spot_in-spot.result) in
    let left = drop (c.loop-index.index + 1) (map (for_child c.args.child) there) in
    let less = c.loop-index-test.true in
    let count = c.loop-index.invariant.count in
    let split = next_copy c.loop-index.frames.slots c.loop-index.spots.items c.as_slice-in-loop-index.result.now c.args.parent.0 c.args.region.0 c.loop-index.index c.args.child c.spot_in-spot.result there c.as_slice-in-loop-index.ensures.value c.loop-index.invariant.same (omega (arith, less, count)) c.spot_in-spot.ensures in
    let once : EachOnce page_key (copy ∷ left) = subst (EachOnce page_key) split c.loop-index.invariant.once in
    let absent : AreAbsent page_key (copy ∷ left) now = subst (λ (l : List PageImage). AreAbsent page_key l now) split c.loop-index.invariant.absent in
    let long = ap length split in
    let room = c.loop-index.invariant.room in
    let longer = c.copy_one.ensures.length in
    let spots = c.loop-index.invariant.spots in
    let more = c.copy_one.ensures.spots in
    record {
      same =
          ap (pages_of c.args.parent.0 c.args.region.0) c.copy_one.ensures.pages
          ∙ (those_put page_key (is_page_of c.args.parent.0 c.args.region.0) copy now (copy_out c.args.parent.0 c.args.region.0 c.args.child c.spot_in-spot.result.vpn.0 c.requires.apart)
          ∙ c.loop-index.invariant.same);
      count = c.loop-index.invariant.count;
      rest = ap (put_all page_key left) c.copy_one.ensures.pages ∙ (ap (λ (l : List PageImage). put_all page_key l now) (sym split) ∙ c.loop-index.invariant.rest);
      once = once.1;
      absent = subst (AreAbsent page_key left) (sym c.copy_one.ensures.pages) (still_absent page_key copy left now once.0 absent.1);
      room = omega (arith, long, room, longer);
      tied = c.copy_one.ensures.tied;
      spots = omega (arith, spots, more);
      frames = c.copy_one.ensures.frames ∙ c.loop-index.invariant.frames;
    }
