use Rattle.std.proofs.Common.{◌≡◌, drop}
use Rattle.lego_base.specs.Keys.{Rises, put_all}
use Rattle.lego_msg.specs.Maps.{home_key}
use Rattle.placement.specs.Owners.{handed_on}
use Rattle.placement.proofs.entries.inherited_in.Given as goal

-- what is left of the parent's entries makes the whole of what is there
abbrev pub invariant-loop-entry : goal.invariant-loop-entry
invariant-loop-entry l = record {
  rest : put_all home_key (handed_on l.parent l.child (drop l.entry-index l.owners)) l.all.items ≡ put_all home_key (handed_on l.parent l.child l.owners) l.owners;
  rises : Rises home_key l.all.items;
}
