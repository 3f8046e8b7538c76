use Rattle.std.proofs.Common.{◌≡◌, drop}
use Rattle.ex_memory.proofs.Joining.{Going}
use Rattle.ex_memory.proofs.areas.joined.Given as goal

-- what is left, joined to what there is, makes the whole
abbrev pub invariant-loop-run : goal.invariant-loop-run
invariant-loop-run l = Going l.areas (drop l.run-index l.runs) l.runs
