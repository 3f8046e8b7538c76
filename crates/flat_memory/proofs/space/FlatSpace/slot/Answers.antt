use Rattle.std.proofs.Common.{◌≡◌, ◌<◌, get_or, sym, subst, arith}
use Rattle.flat_memory.specs.Pieces.{start_in}
use Rattle.flat_memory.specs.FastPath.{IsSlot}
use Rattle.flat_memory.proofs.space.FlatSpace.slot.Goals as goal

pub returns-clause-holds : goal.returns-clause-holds
returns-clause-holds c =
    let s = c.args.self.now in
    let i : c.slot_index.result < 1024 = omega (arith, c.slot_index.ensures) in
    let at : c.index.result.now ≡ get_or s.slots.items c.slot_index.result c.index.result.now = c.index.ensures in
    subst (IsSlot s.areas (start_in s.starts)) (sym at) (s.fast.holds c.slot_index.result c.index.result.now i)
