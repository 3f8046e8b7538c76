use Rattle.std.proofs.Common.{◌∙◌, ap}
use Rattle.placement.specs.Owners.{Owned, mapped}
use Rattle.cluster.proofs.Telling.{same_memories}
use Rattle.cluster.proofs.cluster.Cluster.place_unowned.Goals as goal

pub invariant_of-self-in-Ok : goal.invariant_of-self-in-Ok
invariant_of-self-in-Ok c = record {
  rests = c.self.invariant.rests;
  count = λ none. ap (λ (t : Owned). t.memories) c.in-Ok.ensures.ok ∙ same_memories (mapped c.args.pid c.args.regions.now c.self.inside.engine.table.owners) c.self.inside.engine.table ∙ c.self.invariant.count none;
}
