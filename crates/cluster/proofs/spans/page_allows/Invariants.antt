use Rattle.std.proofs.Common.{◌≡◌, drop}
use Rattle.lego_base.specs.Space.{perms_of}
use Rattle.cluster.proofs.spans.page_allows.Given as goal

abbrev pub invariant-loop-area : goal.invariant-loop-area
invariant-loop-area l = perms_of (drop l.area-index l.areas) l.page ≡ perms_of l.areas l.page
