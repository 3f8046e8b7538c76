use Rattle.space_rules.proofs.Strings.{laid_out}
use Rattle.space_rules.proofs.stack.lay_out.Goals as goal

pub returns : goal.returns
returns c = laid_out c.args.args.now c.args.env.now c.closed_size-args_size.result c.closed_size.result c.closed_size-args_size.ensures c.closed_size.ensures
