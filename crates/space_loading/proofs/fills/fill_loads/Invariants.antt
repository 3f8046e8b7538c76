use Rattle.std.proofs.Common.{◌-◌, ◌^◌}
use Rattle.space_loading.proofs.Filling.{Filling}
use Rattle.space_loading.proofs.fills.fill_loads.Given as goal

abbrev pub invariant-loop-page : goal.invariant-loop-page
invariant-loop-page g l = Filling g.M.Machine.held g.M.Machine.does l.fn.machine l.machine l.pid.0 l.segments l.from

abbrev pub decreases-loop-page : goal.decreases-loop-page
decreases-loop-page g l = 2 ^ 26 - l.from
