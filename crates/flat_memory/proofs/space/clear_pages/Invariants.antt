use Rattle.std.proofs.Common.{◌≡◌, ◌-◌, ◌≤◌, length}
use Rattle.flat_memory.specs.Pieces.{start_in, byte_in, cleared, IsPieces}
use Rattle.flat_memory.proofs.space.clear_pages.Given as goal

abbrev pub invariant-loop-done : goal.invariant-loop-done
invariant-loop-done l = record {
  within : l.done ≤ l.pages;
  long : length l.bytes ≡ length l.fn.bytes;
  pieces : IsPieces (start_in l.starts) l.bytes;
  cleared : byte_in (start_in l.starts) l.bytes ≡ cleared l.first l.done (byte_in (start_in l.starts) l.fn.bytes);
}

abbrev pub decreases-loop-done : goal.decreases-loop-done
decreases-loop-done l = l.pages - l.done
