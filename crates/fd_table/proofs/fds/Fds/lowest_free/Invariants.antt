use Rattle.std.proofs.Common.{◌≡◌, ◌≤◌, drop}
use Rattle.kernel_objects.specs.Slots.{free_from, lowest_free}
use Rattle.fd_table.proofs.fds.Fds.lowest_free.Given as goal

abbrev pub invariant-loop-fd : goal.invariant-loop-fd
invariant-loop-fd l =
    (l.from ≤ l.fd) × (free_from l.from l.fd (drop l.fd l.self-inside.slots.items) ≡ lowest_free l.self-inside.slots.items l.from)
