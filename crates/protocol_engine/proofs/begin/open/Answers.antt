use Rattle.std.proofs.Common.{◌<◌, length, subst, sym}
use Rattle.lego_msg.specs.declared.operation.Open.{Open}
use Rattle.protocol_engine.proofs.Coming.{some_message}
use Rattle.protocol_engine.proofs.begin.open.Goals as goal

pub take_unsent-message-requires : goal.take_unsent-message-requires
take_unsent-message-requires c =
    subst (λ (o : Open). 0 < length o.unsent) (sym c.in_ok-running.ensures) (some_message c.args.memories c.args.by c.args.number c.args.operation)
