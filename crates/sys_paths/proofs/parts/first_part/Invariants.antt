use Rattle.std.proofs.Common.{length, ◌≡◌, ◌+◌, ◌-◌, ◌≤◌, drop}
use Rattle.sys_paths.specs.Parts.{first_part}
use Rattle.sys_paths.proofs.parts.first_part.Given as goal

abbrev pub invariant-loop-len : goal.invariant-loop-len
invariant-loop-len l = (l.len ≤ length l.path) × (first_part l.path ≡ l.len + first_part (drop l.len l.path))

abbrev pub decreases-loop-len : goal.decreases-loop-len
decreases-loop-len l = length l.path - l.len
