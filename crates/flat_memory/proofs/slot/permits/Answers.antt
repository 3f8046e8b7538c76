use Rattle.std.proofs.Common.{◌≡◌, ◌⊎◌, inl, inr, rules, ◌∙◌, ap, sym, Some}
use Rattle.lego_base.specs.Space.{allows}
use Rattle.lego_base.specs.declared.perms.Perms.{Perms}
use Rattle.area_list.specs.Cover.{has_all}
use Rattle.area_list.proofs.Covers.{has-one}
use Rattle.flat_memory.specs.declared.slot.Use.{Use}
use Rattle.flat_memory.specs.declared.slot.Use.TheVariants.{Load, Store, Fetch}
use Rattle.flat_memory.specs.FastPath.{needed}
use Rattle.flat_memory.proofs.slot.permits.Goals as goal

one-of : (access : Use) (perms : Perms) → perms.0 ≡ needed access → (perms.0 ≡ 1) ⊎ ((perms.0 ≡ 2) ⊎ (perms.0 ≡ 4))
one-of Load perms e = inl e
one-of Store perms e = inr (inl e)
one-of Fetch perms e = inr (inr e)

pub returns-in-Some : goal.returns-in-Some
returns-in-Some c =
    let one : (c.needs.result.0 ≡ 1) ⊎ ((c.needs.result.0 ≡ 2) ⊎ (c.needs.result.0 ≡ 4)) = one-of c.args.access c.needs.result c.needs.ensures in
    let contains : c.contains.result ≡ has_all (Some c.in-Some.perms) c.needs.result = search rules in
    contains ∙ has-one (Some c.in-Some.perms) c.needs.result one ∙ ap (allows (Some c.in-Some.perms)) c.needs.ensures ∙ ap (λ p. allows p (needed c.args.access)) (sym c.in-Some.is)
