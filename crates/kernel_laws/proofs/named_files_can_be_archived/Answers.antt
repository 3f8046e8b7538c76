use Rattle.kernel_laws.proofs.Runs.{can_be_archived}
use Rattle.kernel_laws.proofs.named_files_can_be_archived.Goals as goal

pub returns : goal.returns
returns c = can_be_archived
