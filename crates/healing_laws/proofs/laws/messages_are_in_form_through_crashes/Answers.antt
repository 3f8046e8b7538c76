use Rattle.healing_laws.proofs.Forms.{messages-stay-in-form}
use Rattle.healing_laws.proofs.laws.messages_are_in_form_through_crashes.Goals as goal

pub returns : goal.returns
returns c = messages-stay-in-form
