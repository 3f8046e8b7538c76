use Rattle.std.proofs.Common.{◌≡◌, [], map, drop, length}
use Rattle.desc_read.specs.Checks.{is_within, number}
use Rattle.desc_read.proofs.Lists.{finish, seen}
use Rattle.desc_read.proofs.object_reader.ObjectReader.numbers_of.Given as goal

abbrev pub invariant-loop-item : goal.invariant-loop-item
invariant-loop-item l =
    finish (is_within l.fn.count.0 l.fn.count.1 (length l.items)) [] (map (seen (number l.span.0 l.span.1)) l.items)
    ≡ finish l.fits l.numbers.items (map (seen (number l.span.0 l.span.1)) (drop l.item-index l.items))
