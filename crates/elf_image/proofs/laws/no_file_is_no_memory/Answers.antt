use Rattle.elf_image.proofs.Faults.{never_no_memory}
use Rattle.elf_image.proofs.laws.no_file_is_no_memory.Goals as goal

pub returns : goal.returns
returns c = never_no_memory
