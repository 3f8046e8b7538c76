use Rattle.cache_tags.proofs.Ends.{removed-is-gone}
use Rattle.cache_tags.proofs.laws.a_removed_line_is_gone.Goals as goal

pub returns : goal.returns
returns c = removed-is-gone
