use Rattle.std.proofs.Common.{◌≡◌, ◌+◌, ◌≤◌, drop, length, map}
use Rattle.std.specs.Prelude.{vec_capacity}
use Rattle.lego_base.specs.Keys.{put_all}
use Rattle.lego_msg.specs.Form.{EachOnce}
use Rattle.lego_msg.specs.Maps.{for_child, page_key, pages_of}
use Rattle.page_store.proofs.Replaced.{AreAbsent}
use Rattle.page_store.specs.Spots.{IsTied, images}
use Rattle.page_store.proofs.copying.copy_each.Given as goal

-- the parent's pages are as they were; the copies that are left, none of which is there, make of the pages what all made of them
abbrev pub invariant-loop-index : goal.invariant-loop-index
invariant-loop-index l = record {
  same : pages_of l.parent.0 l.region.0 (images l.frames.slots l.spots.items) ≡ pages_of l.parent.0 l.region.0 (images l.initial.frames.slots l.initial.spots.items);
  count : l.count ≡ length (pages_of l.parent.0 l.region.0 (images l.initial.frames.slots l.initial.spots.items));
  rest : put_all page_key (drop l.index (map (for_child l.child) (pages_of l.parent.0 l.region.0 (images l.initial.frames.slots l.initial.spots.items)))) (images l.frames.slots l.spots.items)
      ≡ put_all page_key (map (for_child l.child) (pages_of l.parent.0 l.region.0 (images l.initial.frames.slots l.initial.spots.items))) (images l.initial.frames.slots l.initial.spots.items);
  once : EachOnce page_key (drop l.index (map (for_child l.child) (pages_of l.parent.0 l.region.0 (images l.initial.frames.slots l.initial.spots.items))));
  absent : AreAbsent page_key (drop l.index (map (for_child l.child) (pages_of l.parent.0 l.region.0 (images l.initial.frames.slots l.initial.spots.items)))) (images l.frames.slots l.spots.items);
  room : length (drop l.index (map (for_child l.child) (pages_of l.parent.0 l.region.0 (images l.initial.frames.slots l.initial.spots.items)))) + length l.spots.items ≤ l.most;
  tied : IsTied l.spots.items l.frames.slots;
  spots : vec_capacity l.initial.spots ≤ vec_capacity l.spots;
  frames : l.frames.capacity ≡ l.initial.frames.capacity;
}
