use Rattle.backup_images.proofs.Twice.{twice}
use Rattle.backup_images.proofs.laws.a_batch_applied_twice_gives_the_images_of_once.Goals as goal

pub returns : goal.returns
returns c = twice
