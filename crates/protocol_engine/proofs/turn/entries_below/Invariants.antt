use Rattle.std.proofs.Common.{◌≡◌, ◌+◌, drop}
use Rattle.lego_msg.specs.Track.{entries_below}
use Rattle.protocol_engine.proofs.turn.entries_below.Given as goal

abbrev pub invariant-loop-entry : goal.invariant-loop-entry
invariant-loop-entry l = record {
  count : l.passed ≡ l.entry-index;
  left : l.passed + entries_below l.turn (drop l.entry-index l.crashes) ≡ entries_below l.turn l.crashes;
}
