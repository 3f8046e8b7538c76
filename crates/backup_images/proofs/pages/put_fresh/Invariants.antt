use Rattle.std.proofs.Common.{◌≡◌, ◌+◌, ◌≤◌, length}
use Rattle.std.specs.Prelude.{vec_capacity}
use Rattle.std.specs.Vec.Iter.{into_iter_items}
use Rattle.lego_base.specs.Keys.{Rises, put_all}
use Rattle.lego_msg.specs.Maps.{page_key}
use Rattle.backup_images.proofs.pages.put_fresh.Given as goal

abbrev pub invariant-loop-page : goal.invariant-loop-page
invariant-loop-page l =
    (goal.iterator-loop-page).can_next l.page-iterator
    × (goal.iterator-loop-page).is_finite l.page-iterator
    × Rises page_key l.pages.items
    × (length l.pages.items + length (into_iter_items l.page-iterator) ≤ vec_capacity l.pages)
    × (put_all page_key (into_iter_items l.page-iterator) l.pages.items ≡ put_all page_key l.fn.fresh.items l.initial.pages.items)
