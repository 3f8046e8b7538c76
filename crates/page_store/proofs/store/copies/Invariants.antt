use Rattle.std.proofs.Common.{◌≡◌, ◌++◌, drop}
use Rattle.page_store.specs.Spots.{AreHeld, images}
use Rattle.page_store.proofs.store.copies.Given as goal

abbrev pub invariant-loop-spot : goal.invariant-loop-spot
invariant-loop-spot l =
    (l.pages.items ++ images l.frames.slots (drop l.spot-index l.spots) ≡ images l.frames.slots l.spots)
    × AreHeld l.frames.slots (drop l.spot-index l.spots)
