use Rattle.std.proofs.Common.{◌≡◌, ◌≤◌, drop, length}
use Rattle.std.specs.List.{AllByRecursion}
use Rattle.std.specs.Prelude.{vec_capacity}
use Rattle.lego_base.specs.Keys.{put_all}
use Rattle.lego_msg.specs.Maps.{page_key}
use Rattle.page_store.specs.Spots.{IsTied, images}
use Rattle.page_store.proofs.store.put_each.Given as goal

abbrev pub invariant-loop-page : goal.invariant-loop-page
invariant-loop-page l = record {
  pages : put_all page_key (drop l.page-index l.pages) (images l.frames.slots l.spots.items) ≡ put_all page_key l.initial.pages (images l.initial.frames.slots l.initial.spots.items);
  whole : AllByRecursion (λ p. length p.bytes ≡ 4096) (drop l.page-index l.pages);
  tied : IsTied l.spots.items l.frames.slots;
  few : length l.spots.items ≤ l.most;
  spots : vec_capacity l.initial.spots ≤ vec_capacity l.spots;
  frames : l.frames.capacity ≡ l.initial.frames.capacity;
}
