use Rattle.elf_image.proofs.Faults.{short_first}
use Rattle.elf_image.proofs.laws.short_is_refused.Goals as goal

pub returns : goal.returns
returns c = short_first
