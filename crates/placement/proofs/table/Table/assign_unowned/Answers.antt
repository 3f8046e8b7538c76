use Rattle.std.proofs.Common.{rules, ◌≡◌, subst}
use Rattle.placement.specs.Owners.{Owned, mapped, placed_all}
use Rattle.placement.proofs.Mapping.{mapped-none, mapped-some}
use Rattle.placement.proofs.table.Table.assign_unowned.Goals as goal

pub returns-then-is_empty-clause-ok : goal.returns-then-is_empty-clause-ok
returns-then-is_empty-clause-ok c =
    let o : Owned = record { memories = c.self.inside.memories; placement = c.self.inside.placement.items; given = c.self.inside.given; owners = c.self.inside.owners.items } in
    subst (λ (s : Owned). s ≡ placed_all (mapped c.args.pid c.args.regions.now s.owners) s) c.self.view_is
    (mapped-none c.args.pid c.args.regions.now o.owners c.in_ok-new.new.items o (search rules) (search rules))

pub returns-clause-ok : goal.returns-clause-ok
returns-clause-ok c =
    let o : Owned = record { memories = c.self.inside.memories; placement = c.self.inside.placement.items; given = c.self.inside.given; owners = c.self.inside.owners.items } in
    subst (λ (s : Owned). ◌≡◌ {A = Owned} (record o { given = c.in-Some.assigned; owners = c.in_ok-self-inside.field-0.items }) (placed_all (mapped c.args.pid c.args.regions.now s.owners) s)) c.self.view_is
    (mapped-some c.args.pid c.args.regions.now o.owners c.in_ok-new.new.items o (search rules) c.in-Some.assigned (search rules) c.in_ok-self-inside.field-0.items (search rules))
