use Rattle.op_track.proofs.Flags.{follow-events}
use Rattle.op_track.proofs.laws.flags_follow_the_events.Goals as goal

pub returns : goal.returns
returns c = follow-events
