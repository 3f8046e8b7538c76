use Rattle.std.proofs.Common.{◌≡◌, drop}
use Rattle.page_store.specs.Spots.{freed}
use Rattle.page_store.proofs.frames.free.Given as goal

abbrev pub invariant-loop-spot : goal.invariant-loop-spot
invariant-loop-spot l =
    (freed l.frames.slots (drop l.spot-index l.spots) ≡ freed l.initial.frames.slots l.initial.spots)
    × (l.frames.capacity ≡ l.initial.frames.capacity)
