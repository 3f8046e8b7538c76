use Rattle.std.proofs.Common.{◌≡◌, ◌++◌, drop}
use Rattle.cluster.specs.Blocks.{all_bytes}
use Rattle.cluster.proofs.blocks.all_bytes.Given as goal

abbrev pub invariant-loop-answer : goal.invariant-loop-answer
invariant-loop-answer l = l.joined.items ++ all_bytes (drop l.answer-index l.answers) ≡ all_bytes l.answers
