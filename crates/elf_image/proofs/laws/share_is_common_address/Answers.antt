use Rattle.elf_image.proofs.Sharing.{common_address}
use Rattle.elf_image.proofs.laws.share_is_common_address.Goals as goal

pub returns : goal.returns
returns c = common_address
