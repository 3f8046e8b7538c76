use Rattle.rest_laws.proofs.Lookup.{put-rises}
use Rattle.rest_laws.proofs.laws.lists_rise_with_one_more.Goals as goal

pub returns : goal.returns
returns c = put-rises
