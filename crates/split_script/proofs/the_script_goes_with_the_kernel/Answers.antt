use Rattle.split_script.proofs.Joins.{goes_with}
use Rattle.split_script.proofs.the_script_goes_with_the_kernel.Goals as goal

pub returns : goal.returns
returns c = goes_with
