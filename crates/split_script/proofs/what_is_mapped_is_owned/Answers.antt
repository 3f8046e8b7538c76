use Rattle.split_script.proofs.Mapped.{mapped_is_owned}
use Rattle.split_script.proofs.what_is_mapped_is_owned.Goals as goal

pub returns : goal.returns
returns c = mapped_is_owned
