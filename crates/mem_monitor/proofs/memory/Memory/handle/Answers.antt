use Rattle.mem_monitor.proofs.memory.Memory.handle.Goals as goal

pub returns-in-BlockIs : goal.returns-in-BlockIs
returns-in-BlockIs c = rw c.in-BlockIs.is (c.block_is.ensures c.args.m.from)
