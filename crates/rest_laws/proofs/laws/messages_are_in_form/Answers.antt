use Rattle.rest_laws.proofs.Formed.{messages-are-in-form}
use Rattle.rest_laws.proofs.laws.messages_are_in_form.Goals as goal

pub returns : goal.returns
returns c = messages-are-in-form
