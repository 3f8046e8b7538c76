use Rattle.std.proofs.Common.{arith}
use Rattle.manager.proofs.Held.{held_le}
use Rattle.manager.proofs.descs.Descs.room.Goals as goal

pub overflow_sub-result : goal.overflow_sub-result
overflow_sub-result c = omega (arith, held_le c.self.inside.slots.items)
