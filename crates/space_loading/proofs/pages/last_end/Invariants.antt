use Rattle.std.proofs.Common.{◌≡◌, drop}
use Rattle.space_rules.specs.Pages.{last_end}
use Rattle.space_loading.proofs.pages.last_end.Given as goal

-- the last byte's end of the loads from here on
abbrev pub invariant-loop-i : goal.invariant-loop-i
invariant-loop-i l = l.last ≡ last_end (drop l.i l.segments) l.page
