use Rattle.std.proofs.Common.{◌≡◌}
use Rattle.std.specs.Vec.Iter.{into_iter_items}
use Rattle.lego_base.specs.Keys.{Rises}
use Rattle.lego_msg.specs.Maps.{areas_key, with_all_areas}
use Rattle.mem_monitor.proofs.area_lists.set_each.Given as goal

abbrev pub invariant-loop-list : goal.invariant-loop-list
invariant-loop-list l =
    (goal.iterator-loop-list).can_next l.list-iterator
    × (goal.iterator-loop-list).is_finite l.list-iterator
    × Rises areas_key l.lists.items
    × (with_all_areas (into_iter_items l.list-iterator) l.lists.items ≡ with_all_areas l.fn.new l.initial.lists.items)
