use Rattle.std.proofs.Common.{◌≡◌, ◌-◌, [], drop}
use Rattle.lego_base.specs.Space.{bytes_at}
use Rattle.space_rules.specs.Pages.{loaded}
use Rattle.space_loading.proofs.pages.loaded_between.Given as goal

-- the bytes of the loads from here on
abbrev pub invariant-loop-i : goal.invariant-loop-i
invariant-loop-i l = l.bytes.items ≡ bytes_at (record { areas = []; byte = loaded (drop l.i l.segments) }) l.first (l.end - l.first)
