use Rattle.std.proofs.Common.{◌-◌, ◌≤◌, length}
use Rattle.lego_base.specs.Keys.{key_at}
use Rattle.keyed_list.specs.Below.{count_below}
use Rattle.keyed_list.proofs.search.count_below.Given as goal

abbrev pub invariant-loop-low : goal.invariant-loop-low
invariant-loop-low g l =
    (l.low ≤ count_below g.T.Keyed.key (key_at l.pid.0 l.number) l.items)
    × (count_below g.T.Keyed.key (key_at l.pid.0 l.number) l.items ≤ l.high)
    × (l.high ≤ length l.items)

abbrev pub decreases-loop-low : goal.decreases-loop-low
decreases-loop-low g l = l.high - l.low
