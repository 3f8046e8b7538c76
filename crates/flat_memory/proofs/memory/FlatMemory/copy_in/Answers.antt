use Rattle.std.proofs.Common.{sym, subst}
use Rattle.flat_memory.specs.Access.{Copied}
use Rattle.flat_memory.proofs.memory.FlatMemory.copy_in.Goals as goal

pub returns-in_default-clause-copied : goal.returns-in_default-clause-copied
returns-in_default-clause-copied c =
    subst (λ space. Copied space c.args.addr c.args.len c.no_bytes.result) (sym c.in_default.ensures) (c.no_bytes.ensures.copied c.args.addr)
