use Rattle.std.proofs.Common.{◌∙◌, ap}
use Rattle.placement.specs.Owners.{Owned}
use Rattle.cluster.proofs.cluster.Cluster.inherit.Goals as goal

pub invariant_of-self-in-Ok : goal.invariant_of-self-in-Ok
invariant_of-self-in-Ok c = record {
  rests = c.self.invariant.rests;
  count = λ none. ap (λ (t : Owned). t.memories) c.in-Ok.ensures.ok ∙ c.self.invariant.count none;
}
