use Rattle.std.proofs.Common.{◌≡◌, [], map, drop, length}
use Rattle.desc_read.specs.declared.texts.TextRule.TheVariants.{Argument}
use Rattle.desc_read.specs.Checks.{is_within, text}
use Rattle.desc_read.proofs.Lists.{finish, seen}
use Rattle.desc_read.proofs.object_reader.ObjectReader.texts_of.Given as goal

abbrev pub invariant-loop-item : goal.invariant-loop-item
invariant-loop-item l =
    finish (is_within l.fn.count.0 l.fn.count.1 (length l.items)) [] (map (seen (text Argument)) l.items)
    ≡ finish l.fits l.texts.items (map (seen (text Argument)) (drop l.item-index l.items))
