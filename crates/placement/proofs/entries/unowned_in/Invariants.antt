use Rattle.std.proofs.Common.{◌≡◌, ◌+◌, ◌++◌, drop, length}
use Rattle.placement.specs.Owners.{entries_of, mapped}
use Rattle.placement.proofs.entries.unowned_in.Given as goal

-- what is there with the entries of the regions that are left is the whole
abbrev pub invariant-loop-region : goal.invariant-loop-region
invariant-loop-region l =
    l.new.items ++ entries_of l.placement (l.given + length l.new.items) (mapped l.pid (drop l.region-index l.regions) l.owners)
    ≡ entries_of l.placement l.given (mapped l.pid l.regions l.owners)
