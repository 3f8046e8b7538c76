use Rattle.std.proofs.Common.{◌≡◌, drop}
use Rattle.space_rules.specs.Pages.{first_byte}
use Rattle.space_loading.proofs.pages.first_byte.Given as goal

-- the first byte of the loads from here on
abbrev pub invariant-loop-i : goal.invariant-loop-i
invariant-loop-i l = l.first ≡ first_byte (drop l.i l.segments) l.page
