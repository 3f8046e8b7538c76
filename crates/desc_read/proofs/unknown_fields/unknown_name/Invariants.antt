use Rattle.std.proofs.Common.{◌≡◌, map}
use Rattle.std.specs.Map.{keys_of}
use Rattle.desc_read.proofs.Unknown.{unknown_in}
use Rattle.desc_read.proofs.unknown_fields.unknown_name.Given as goal

abbrev pub invariant-loop-name : goal.invariant-loop-name
invariant-loop-name l =
    (goal.iterator-loop-name).can_next l.name-iterator
    × (goal.iterator-loop-name).is_finite l.name-iterator
    × (unknown_in (map (λ k. k.now) l.known) (keys_of l.members.entries) ≡ unknown_in (map (λ k. k.now) l.known) l.name-iterator)
