use Rattle.std.proofs.Common.{rules}
use Rattle.fd_table.proofs.fds.Fds.new.Goals as goal

pub returns : goal.returns
returns c = c.in_ok-slots.ensures.items_if_clones_equal (λ y h. search rules)
