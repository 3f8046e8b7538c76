use Rattle.healing_laws.proofs.Causing.{frames-are-the-machines}
use Rattle.healing_laws.proofs.laws.frames_are_the_machines.Goals as goal

pub returns : goal.returns
returns c = frames-are-the-machines
