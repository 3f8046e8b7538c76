use Rattle.split_script.proofs.Showing.{shows_the_run}
use Rattle.split_script.proofs.the_script_shows_the_flat_run.Goals as goal

pub returns : goal.returns
returns c = shows_the_run
