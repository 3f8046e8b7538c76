use Rattle.cluster.proofs.Turns.{calm_at}
use Rattle.cluster.proofs.cluster.Cluster.into_parts.Goals as goal

pub returns-clause-goes_on : goal.returns-clause-goes_on
returns-clause-goes_on c = record {
  calm = λ none g. calm_at c.self.inside.engine c.self.inside.halt (c.self.invariant.rests none) g;
  count = λ none. c.self.invariant.count none;
}
