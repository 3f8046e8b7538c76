-- What an issuer sends.
use Rattle.std.specs.Prelude.{List}
use Rattle.lego_msg.specs.Operations.{Ask, asks_of, messages_of}
use Rattle.lego_msg.specs.declared.message.Message.{Message}
use Rattle.lego_msg.specs.declared.operation.Operation.{Operation}
use Rattle.cluster_ops.specs.declared.issuer.Issuer.{Issuer}

abbrev pub sent_by : Issuer → List Ask → List Message
sent_by issuer asks = messages_of issuer.by issuer.number asks

-- the first messages of an operation
abbrev pub first_of : Issuer → Operation → List Message
first_of issuer operation = sent_by issuer (asks_of issuer.memories operation)
