use Rattle.sys_process.proofs.Following.{end_follows}
use Rattle.sys_process.proofs.laws.an_end_follows_its_effects.Goals as goal

pub returns : goal.returns
returns c = end_follows
