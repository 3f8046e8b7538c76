use Rattle.std.proofs.Common.{◌≡◌}
use Rattle.space_rules.specs.Mapped.{with_pages}
use Rattle.space_rules.proofs.image.add_pages.Given as goal

-- the pages so far are mapped
abbrev pub invariant-loop-page : goal.invariant-loop-page
invariant-loop-page l = l.areas ≡ with_pages l.first l.page l.perms l.fn.areas
