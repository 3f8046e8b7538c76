use Rattle.std.proofs.Common.{◌≡◌, ◌-◌, ◌≤◌}
use Rattle.lego_base.specs.Space.{bytes_at}
use Rattle.flat_memory.specs.Spaces.{space_of}
use Rattle.flat_memory.proofs.space.FlatSpace.pages.Given as goal

abbrev pub invariant-loop-done : goal.invariant-loop-done
invariant-loop-done l = record {
  within : l.done ≤ l.len;
  copied : l.copy.items ≡ bytes_at (space_of l.self) l.addr l.done;
}

abbrev pub decreases-loop-done : goal.decreases-loop-done
decreases-loop-done l = l.len - l.done
