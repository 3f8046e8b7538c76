use Rattle.std.proofs.Common.{◌≡◌, drop}
use Rattle.cache_tags.specs.Tags.{least_in, lower}
use Rattle.cache_tags.proofs.least.of_lines.Given as goal

abbrev pub invariant-loop-held : goal.invariant-loop-held
invariant-loop-held l = lower l.least (least_in l.pid l.from l.to (drop l.held-index l.lines)) ≡ least_in l.pid l.from l.to l.lines
