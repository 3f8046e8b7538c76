use Rattle.std.proofs.Common.{◌≡◌, ◌+◌, ◌++◌}
use Rattle.guest_gen.specs.Jobs.{touches}
use Rattle.guest_gen.proofs.steps.put_stores.Given as goal

abbrev pub invariant-loop-left : goal.invariant-loop-left
invariant-loop-left l = record {
  steps : l.steps.items ++ touches l.page l.left l.value ≡ l.fn.steps.items ++ touches 0 l.pages l.value;
  count : l.page + l.left ≡ l.pages;
}

abbrev pub decreases-loop-left : goal.decreases-loop-left
decreases-loop-left l = l.left
