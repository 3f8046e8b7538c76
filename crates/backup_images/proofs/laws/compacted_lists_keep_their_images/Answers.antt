use Rattle.backup_images.proofs.Weights.{keeps}
use Rattle.backup_images.proofs.laws.compacted_lists_keep_their_images.Goals as goal

pub returns : goal.returns
returns c = keeps
