use Rattle.std.proofs.Common.{[], List, refl, subst, sym}
use Rattle.lego_msg.specs.Track.{memory_count}
use Rattle.lego_msg.specs.declared.operation.Operation.{Operation}
use Rattle.cluster.specs.Sequences.{ReadNoLine}
use Rattle.cluster.specs.Unmapping.{listed_for, regions_met, unmaps_parts}
use Rattle.cluster.proofs.Progress.{lacks_in, starts}
use Rattle.cluster.proofs.Unmapping.{parts_lines}
use Rattle.cluster.proofs.cluster.Cluster.unmap_parts.Goals as goal

pub returns-in-Err : goal.returns-in-Err
returns-in-Err g c =
    let all : List Operation = unmaps_parts (memory_count c.args.self.now.shape) (listed_for c.args.old.now) c.args.first c.args.pages (regions_met c.args.self.now.table c.args.pid c.args.first c.args.pages) in
    lacks_in g.W.Watch.told g.W.Watch.faults c.args.watch.now c.args.watch.now c.args.self.now c.args.self.now c.args.by [] (starts g.W.Watch.told g.W.Watch.faults c.args.watch.now c.args.self.now c.args.by c.requires.none)
    c.out_of_memory.new.self all all refl c.out_of_memory.ensures

pub ask_all-requires-clause-lines : goal.ask_all-requires-clause-lines
ask_all-requires-clause-lines g c =
    subst ReadNoLine (sym c.in-Ok.ensures) (parts_lines (memory_count c.args.self.now.shape) (listed_for c.args.old.now) c.args.first c.args.pages (regions_met c.args.self.now.table c.args.pid c.args.first c.args.pages))
