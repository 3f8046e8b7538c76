use Rattle.std.proofs.Common.{◌≡◌, ◌-◌, ◌++◌}
use Rattle.lego_msg.specs.Operations.{each_from, receivers}
use Rattle.lego_msg.specs.declared.body.Body.{Body}
use Rattle.cluster_ops.proofs.target_places.everyone.Given as goal

-- what is there with the memories that are left is the whole
abbrev pub invariant-loop-number : goal.invariant-loop-number
invariant-loop-number l = (each last : Body) → l.places ++ receivers (each_from (l.memories - l.number) l.number each last) ≡ receivers (each_from l.memories 0 each last)
