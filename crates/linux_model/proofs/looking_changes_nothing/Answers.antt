use Rattle.linux_model.proofs.Looking.{looking_is_still}
use Rattle.linux_model.proofs.looking_changes_nothing.Goals as goal

pub returns : goal.returns
returns c = looking_is_still
