use Rattle.std.proofs.Common.{◌≡◌, drop}
use Rattle.lego_base.specs.Keys.{Rises, put_all}
use Rattle.lego_msg.specs.Maps.{home_key}
use Rattle.placement.proofs.entries.with_all.Given as goal

-- what is left makes the whole of what is there
abbrev pub invariant-loop-entry : goal.invariant-loop-entry
invariant-loop-entry l = record {
  rest : put_all home_key (drop l.entry-index l.new) l.all.items ≡ put_all home_key l.new l.owners;
  rises : Rises home_key l.all.items;
}
