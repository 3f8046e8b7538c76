use Rattle.kernel_laws.proofs.Placed.{instructions_place}
use Rattle.kernel_laws.proofs.instructions_change_registers_and_space_alone.Goals as goal

pub returns : goal.returns
returns c = instructions_place
