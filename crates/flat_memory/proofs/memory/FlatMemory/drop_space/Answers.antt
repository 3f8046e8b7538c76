use Rattle.std.proofs.Common.{arith}
use Rattle.flat_memory.proofs.Spaces.{at-drop, none-drop}
use Rattle.flat_memory.proofs.memory.FlatMemory.drop_space.Goals as goal

pub returns-then-index-len : goal.returns-then-index-len
returns-then-index-len c = at-drop c.args.self.now.spaces.items c.args.pid.0 (omega (arith, c.args.self.now.spaces.ok.0))

pub returns-else-index-len : goal.returns-else-index-len
returns-else-index-len c = none-drop c.args.self.now.spaces.items c.args.pid.0 (omega (arith, c.args.self.now.spaces.ok.0))
