use Rattle.std.proofs.Common.{◌≡◌, ◌++◌}
use Rattle.lego_base.specs.Space.{bytes_of}
use Rattle.guest_gen.proofs.file.put_number.Given as goal

abbrev pub invariant-loop-left : goal.invariant-loop-left
invariant-loop-left l = l.file.items ++ bytes_of l.left l.rest ≡ l.fn.file.items ++ bytes_of l.width l.number

abbrev pub decreases-loop-left : goal.decreases-loop-left
decreases-loop-left l = l.left
