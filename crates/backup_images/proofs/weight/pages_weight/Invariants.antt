use Rattle.std.proofs.Common.{◌≡◌, ◌+◌, drop, length, sum_by}
use Rattle.lego_base.specs.declared.records.PageImage.{PageImage}
use Rattle.backup_images.proofs.weight.pages_weight.Given as goal

abbrev pub invariant-loop-page : goal.invariant-loop-page
invariant-loop-page l = l.bytes + sum_by (λ (p : PageImage). length p.bytes) (drop l.page-index l.pages) ≡ sum_by (λ (p : PageImage). length p.bytes) l.pages
