use Rattle.std.proofs.Common.{◌≡◌, drop}
use Rattle.space_rules.specs.Pages.{filled_pages}
use Rattle.space_loading.specs.Pages.{next_page}
use Rattle.space_loading.proofs.pages.next_page.Given as goal

-- the next page of the loads from here on
abbrev pub invariant-loop-i : goal.invariant-loop-i
invariant-loop-i l = l.next ≡ next_page l.from (filled_pages (drop l.i l.segments))
