use Rattle.cache_tags.proofs.Counts.{lists-follow}
use Rattle.cache_tags.proofs.laws.lists_follow_the_rule.Goals as goal

pub returns : goal.returns
returns c = lists-follow
