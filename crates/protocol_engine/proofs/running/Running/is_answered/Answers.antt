use Rattle.std.proofs.Common.{◌∙◌, ap}
use Rattle.lego_msg.specs.Track.{all_answered}
use Rattle.lego_msg.specs.declared.operation.Open.{Open}
use Rattle.protocol_engine.proofs.Flags.{all_told}
use Rattle.protocol_engine.proofs.running.Running.is_answered.Goals as goal

pub returns : goal.returns
returns c = c.complete.ensures ∙ (all_told c.self.inside.op.targets c.self.inside.answers.items c.self.invariant ∙ ap (λ (o : Open). all_answered o.targets o.answers) c.self.view_is)
