use Rattle.std.proofs.Common.{◌≡◌, ◌++◌, length}
use Rattle.std.specs.Vec.Iter.{into_iter_items, into_iter_len}
use Rattle.lego_msg.specs.Plain.{Plain}
use Rattle.cluster.specs.Sequences.{AreGrantedAt, AreReplies, all_free}
use Rattle.cluster.proofs.Progress.{SoFar}
use Rattle.cluster.proofs.cluster.Cluster.ask_all.Given as goal

abbrev pub invariant-loop-operation : goal.invariant-loop-operation
invariant-loop-operation g l = (l.yielded ++ into_iter_items l.operation-iterator ≡ into_iter_items l.initial.operation-iterator)
    × SoFar l.fn.self.table g.W.Watch.told g.W.Watch.faults l.fn.watch l.watch l.fn.self l.self l.by (all_free l.yielded)
    × ((f : Plain) → AreGrantedAt l.fn.self f l.by l.yielded → AreReplies f l.yielded l.answers.items)
    × (into_iter_len l.operation-iterator ≡ length (into_iter_items l.operation-iterator))
