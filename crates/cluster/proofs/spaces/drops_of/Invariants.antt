use Rattle.std.proofs.Common.{◌≡◌, ◌-◌, ◌++◌, ◌∷◌, []}
use Rattle.lego_msg.specs.declared.operation.Operation.TheVariants.{Drops}
use Rattle.cluster.specs.Dropping.{drains_from, drops_of}
use Rattle.cluster.proofs.spaces.drops_of.Given as goal

-- what is there with the memories that are left is the whole
abbrev pub invariant-loop-number : goal.invariant-loop-number
invariant-loop-number l = l.operations.items ++ drains_from (l.memories - l.number) l.number (Drops l.pid ∷ []) ≡ drops_of l.memories l.pid
