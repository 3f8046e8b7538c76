use Rattle.std.proofs.Common.{◌≡◌, ◌+◌, drop, length, sum_by}
use Rattle.lego_base.specs.declared.records.Patch.{Patch}
use Rattle.backup_images.proofs.weight.patches_weight.Given as goal

abbrev pub invariant-loop-patch : goal.invariant-loop-patch
invariant-loop-patch l = l.bytes + sum_by (λ (p : Patch). length p.bytes) (drop l.patch-index l.patches) ≡ sum_by (λ (p : Patch). length p.bytes) l.patches
