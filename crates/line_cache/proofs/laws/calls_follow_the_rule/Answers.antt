use Rattle.line_cache.proofs.Following.{calls-follow}
use Rattle.line_cache.proofs.laws.calls_follow_the_rule.Goals as goal

pub returns : goal.returns
returns c = calls-follow
