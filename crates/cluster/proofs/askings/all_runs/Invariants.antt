use Rattle.std.proofs.Common.{◌≡◌, ◌++◌, drop}
use Rattle.cluster.specs.Askings.{all_runs}
use Rattle.cluster.proofs.askings.all_runs.Given as goal

abbrev pub invariant-loop-answer : goal.invariant-loop-answer
invariant-loop-answer l = l.joined.items ++ all_runs (drop l.answer-index l.answers) ≡ all_runs l.answers
