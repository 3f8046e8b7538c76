use Rattle.std.proofs.Common.{◌≡◌, drop}
use Rattle.elf_image.specs.Image.{some_share}
use Rattle.elf_image.proofs.checks.some_share.Given as goal

-- the loads that are left decide
abbrev pub invariant-loop-i : goal.invariant-loop-i
invariant-loop-i l = some_share (drop l.i l.loads) ≡ some_share l.loads
