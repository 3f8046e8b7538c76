use Rattle.cache_tags.proofs.Ends.{touched-is-there}
use Rattle.cache_tags.proofs.laws.a_touched_line_is_there.Goals as goal

pub returns : goal.returns
returns c = touched-is-there
