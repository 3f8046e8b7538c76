use Rattle.std.proofs.Common.{refl}
use Rattle.cluster.proofs.cluster.Cluster.from_parts.Goals as goal

pub invariant_of-result : goal.invariant_of-result
invariant_of-result c = record {
  rests = λ none. (c.new.ensures, c.requires.calm none, refl, refl);
  count = λ none. c.requires.count none;
}
