use Rattle.healing_laws.proofs.Forms.{lists-keep-messages-in-form}
use Rattle.healing_laws.proofs.laws.lists_keep_messages_in_form.Goals as goal

pub returns : goal.returns
returns c = lists-keep-messages-in-form
