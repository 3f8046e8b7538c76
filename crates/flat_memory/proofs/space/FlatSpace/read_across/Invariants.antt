use Rattle.std.proofs.Common.{◌≡◌, ◌+◌, ◌-◌, ◌^◌, ◌<◌}
use Rattle.lego_base.specs.Space.{bytes_at, number_of}
use Rattle.rv64_step.specs.Access.{bytes_in}
use Rattle.flat_memory.specs.Spaces.{space_of}
use Rattle.flat_memory.proofs.space.FlatSpace.read_across.Given as goal

abbrev pub invariant-loop-k : goal.invariant-loop-k
invariant-loop-k l = record {
  number : l.value ≡ number_of (bytes_at (space_of l.self) (l.addr + l.k) (bytes_in l.fn.width - l.k));
  fits : l.value < 256 ^ (bytes_in l.fn.width - l.k);
}
