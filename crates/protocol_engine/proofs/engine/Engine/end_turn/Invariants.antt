use Rattle.std.proofs.Common.{◌≡◌, true}
use Rattle.lego_msg.specs.Marks.{is_turn_end}
use Rattle.lego_msg.specs.Went.{Went}
use Rattle.lego_waits.specs.Measure.{load}
use Rattle.protocol_engine.specs.Steps.{Rests}
use Rattle.protocol_engine.specs.Tracks.{Beyond, SameMachine, bare, track_of}
use Rattle.protocol_engine.proofs.engine.Engine.end_turn.Given as goal

abbrev pub invariant-crashes : goal.invariant-crashes
invariant-crashes g l = record {
  went : (b : Beyond) → is_turn_end b.due ≡ true → Went g.W.Watch.told g.W.Watch.faults l.fn.watch l.watch (track_of l.fn.self b) (track_of l.self b);
  machine : SameMachine l.fn.self l.self;
  rests : Rests l.self;
}

abbrev pub decreases-crashes : goal.decreases-crashes
decreases-crashes g l = load (bare l.self)
