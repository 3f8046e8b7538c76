use Rattle.std.proofs.Common.{◌≡◌, max, drop}
use Rattle.elf_image.specs.Image.{highest_end}
use Rattle.elf_image.proofs.read.break_of.Given as goal

-- the highest end so far and those of the loads that are left give the highest of all
abbrev pub invariant-loop-load : goal.invariant-loop-load
invariant-loop-load l = max l.highest (highest_end (drop l.load-index l.loads)) ≡ highest_end l.loads
