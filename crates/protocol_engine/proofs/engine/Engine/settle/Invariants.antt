use Rattle.std.proofs.Common.{◌≡◌, ◌≤◌}
use Rattle.std.specs.Prelude.{IfSome}
use Rattle.lego_msg.specs.Went.{Went}
use Rattle.lego_waits.specs.Measure.{load}
use Rattle.protocol_engine.specs.Sound.{WasOpen}
use Rattle.protocol_engine.specs.Later.{NotBoth, called_by, called_in}
use Rattle.protocol_engine.specs.Tracks.{Beyond, SameMachine, bare, beyond_with, track_of}
use Rattle.protocol_engine.proofs.engine.Engine.settle.Given as goal

abbrev pub invariant-events : goal.invariant-events
invariant-events g l = record {
  went : (b : Beyond) → Went g.W.Watch.told g.W.Watch.faults l.fn.watch l.watch (track_of l.fn.self b) (track_of l.self (beyond_with l.done b));
  machine : SameMachine l.fn.self l.self;
  once : NotBoth l.done l.self.current;
  runs : called_in l.done l.self.current ≡ called_by l.fn.self.current;
  opened : (b : Beyond) → IfSome l.done (WasOpen (track_of l.fn.self b));
  lower : (b : Beyond) → load (track_of l.self b) ≤ load (track_of l.fn.self b);
}

abbrev pub decreases-events : goal.decreases-events
decreases-events g l = load (bare l.self)
