use Rattle.backup_images.proofs.Weights.{light}
use Rattle.backup_images.proofs.laws.compacted_lists_are_light.Goals as goal

pub returns : goal.returns
returns c = light
