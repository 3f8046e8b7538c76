use Rattle.std.proofs.Common.{◌∙◌, [], None, subst, sym}
use Rattle.lego_rest.proofs.Resting.{start-rests}
use Rattle.lego_rest.specs.Rest.{AtRest}
use Rattle.protocol_engine.specs.Beyond.{beginning}
use Rattle.cluster.proofs.Wholes.{same_track}
use Rattle.cluster.proofs.cluster.Cluster.boot.Goals as goal

pub returns-clause-start : goal.returns-clause-start
returns-clause-start c = λ due. same_track c.in_ok-engine.engine None (beginning c.args.shape.now.blocks due) c.in_ok-engine.ensures.rests ∙ c.in_ok-engine.ensures.starts due

pub returns-clause-stands : goal.returns-clause-stands
returns-clause-stands c = λ fits. subst AtRest (sym (same_track c.in_ok-engine.engine None (beginning c.args.shape.now.blocks []) c.in_ok-engine.ensures.rests ∙ c.in_ok-engine.ensures.starts [])) (start-rests c.args.shape.now [] fits)
