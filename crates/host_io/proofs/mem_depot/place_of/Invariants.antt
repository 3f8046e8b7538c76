use Rattle.host_io.specs.Places.{NoneBefore}
use Rattle.host_io.proofs.mem_depot.place_of.Given as goal

abbrev pub invariant-loop-i : goal.invariant-loop-i
invariant-loop-i l = NoneBefore l.files l.name l.i
