use Rattle.sys_space.proofs.Free.{gap_tells, no_gap_tells}
use Rattle.sys_space.proofs.pages.is_free.Goals as goal

pub returns-in-Some : goal.returns-in-Some
returns-in-Some c = gap_tells c.args.areas.now c.args.first.0 c.args.pages _ c.requires c.in-Some.ensures.lowest

pub returns-in-None : goal.returns-in-None
returns-in-None c = no_gap_tells c.args.areas.now c.args.first.0 c.args.pages c.requires c.in-None.ensures.lowest
