use Rattle.lego_msg.proofs.ShownLaws.{shown-then}
use Rattle.lego_msg.proofs.laws.shown_runs_are_joined.Goals as goal

pub returns : goal.returns
returns c = shown-then
