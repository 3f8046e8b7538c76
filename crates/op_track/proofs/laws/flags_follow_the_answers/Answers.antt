use Rattle.op_track.proofs.Flags.{follow-answers}
use Rattle.op_track.proofs.laws.flags_follow_the_answers.Goals as goal

pub returns : goal.returns
returns c = follow-answers
