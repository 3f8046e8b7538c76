use Rattle.std.proofs.Common.{◌≡◌, drop}
use Rattle.lego_base.specs.Keys.{Rises, put_all}
use Rattle.lego_msg.specs.Maps.{home_key}
use Rattle.region_home.proofs.home.put_each.Given as goal

abbrev pub invariant-loop-entry : goal.invariant-loop-entry
invariant-loop-entry l =
    Rises home_key l.entries.items
    × (put_all home_key (drop l.entry-index l.new) l.entries.items ≡ put_all home_key l.initial.new l.initial.entries.items)
