use Rattle.flat_memory.specs.Pieces.{start_in}
use Rattle.flat_memory.proofs.Clearing.{forgotten-in}
use Rattle.flat_memory.proofs.space.FlatSpace.set_areas.Goals as goal

pub invariant_of-self : goal.invariant_of-self
invariant_of-self c =
    let s = c.args.self.now in
    let start = start_in s.starts in
    record {
      pieces = s.pieces;
      fast = forgotten-in s.areas c.args.areas start start s.slots c.deref_mut.result.now c.forget.new.slots s.slots.ok.0 c.deref_mut.ensures.value c.forget.ensures s.fast;
    }
