use Rattle.std.proofs.Common.{◌≡◌, ◌-◌, ◌≤◌, length, take}
use Rattle.lego_base.specs.Space.{with_bytes}
use Rattle.flat_memory.specs.Spaces.{space_of}
use Rattle.flat_memory.proofs.space.FlatSpace.fill.Given as goal

abbrev pub invariant-loop-done : goal.invariant-loop-done
invariant-loop-done l = record {
  within : l.done ≤ length l.bytes;
  filled : space_of l.self ≡ with_bytes (space_of l.fn.self) l.addr (take l.done l.bytes);
}

abbrev pub decreases-loop-done : goal.decreases-loop-done
decreases-loop-done l = length l.bytes - l.done
