use Rattle.std.proofs.Common.{◌≡◌, ℕ, ◌+◌, drop, slice_index}
use Rattle.manager.specs.Counting.{refers, slots_with}
use Rattle.manager.proofs.descs.Descs.share_all.Given as goal

abbrev pub invariant-loop-fd : goal.invariant-loop-fd
invariant-loop-fd l = record {
  descs : l.self.descs ≡ l.initial.self.descs;
  refs : (n : ℕ) → slice_index l.self.refs n + slots_with (refers n) (drop l.fd l.fds) ≡ slice_index l.initial.self.refs n + slots_with (refers n) l.fds;
}
