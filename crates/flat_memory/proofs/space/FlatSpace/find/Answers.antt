use Rattle.std.proofs.Common.{◌≡◌, ◌+◌, ◌/◌, ◌^◌, ◌<◌, get_or, sym, subst, arith}
use Rattle.flat_memory.specs.Pieces.{start_in}
use Rattle.flat_memory.specs.FastPath.{IsSlot}
use Rattle.flat_memory.proofs.FastPath.{found-places}
use Rattle.flat_memory.proofs.space.FlatSpace.find.Goals as goal

pub returns : goal.returns
returns c =
    let s = c.args.self.now in
    let i : c.slot_index.result < 1024 = omega (arith, c.slot_index.ensures) in
    let at : c.index.result.now ≡ get_or s.slots.items c.slot_index.result c.index.result.now = c.index.ensures in
    let is : IsSlot s.areas (start_in s.starts) c.index.result.now = subst (IsSlot s.areas (start_in s.starts)) (sym at) (s.fast.holds c.slot_index.result c.index.result.now i) in
    let ends : start_in s.starts (c.args.addr / 4096) + 4096 < 2 ^ 64 = omega (arith, s.pieces.ends (c.args.addr / 4096), s.bytes.ok.0, s.bytes.small) in
    found-places s.areas (start_in s.starts) c.index.result.now c.args.access c.args.addr c.args.width c.find.result c.ranges.addr.fits ends is c.find.ensures.found
