use Rattle.elf_image.proofs.Bounds.{bounded}
use Rattle.elf_image.proofs.laws.accepted_is_bounded.Goals as goal

pub returns : goal.returns
returns c = bounded
