use Rattle.elf_image.proofs.Sharing.{each_pair}
use Rattle.elf_image.proofs.laws.apart_is_each_pair.Goals as goal

pub returns : goal.returns
returns c = each_pair
