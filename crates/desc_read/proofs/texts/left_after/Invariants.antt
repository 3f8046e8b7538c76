use Rattle.std.proofs.Common.{◌≡◌, ◌+◌, take}
use Rattle.desc_read.specs.Checks.{bytes_of}
use Rattle.desc_read.proofs.texts.left_after.Given as goal

abbrev pub invariant-loop-text : goal.invariant-loop-text
invariant-loop-text l = l.left + bytes_of (take l.text-index l.texts) ≡ l.room
