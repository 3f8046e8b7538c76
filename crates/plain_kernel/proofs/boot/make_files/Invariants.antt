use Rattle.plain_kernel.proofs.Making.{Made}
use Rattle.plain_kernel.proofs.boot.make_files.Given as goal

abbrev pub invariant-loop-i : goal.invariant-loop-i
invariant-loop-i l = Made l.files l.i l.fn.machine l.machine
