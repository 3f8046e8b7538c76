use Rattle.std.proofs.Common.{◌≡◌, ◌++◌}
use Rattle.guest_gen.specs.Draws.{after, draws}
use Rattle.guest_gen.proofs.draws.Draws.bytes.Given as goal

-- the bytes so far with those that are left are all of them
abbrev pub invariant-loop-left : goal.invariant-loop-left
invariant-loop-left l = record {
  values : l.bytes.items ++ draws l.left 256 l.self.state ≡ draws l.n 256 l.fn.self.state;
  state : after l.left l.self.state ≡ after l.n l.fn.self.state;
}

abbrev pub decreases-loop-left : goal.decreases-loop-left
decreases-loop-left l = l.left
