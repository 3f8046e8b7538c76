use Rattle.split_script.proofs.Areas.{all_asked}
use Rattle.split_script.proofs.asked_areas_are_all.Goals as goal

pub returns : goal.returns
returns c = all_asked
