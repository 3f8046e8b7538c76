use Rattle.std.proofs.Common.{◌≡◌, ◌≤◌, ℕ, List, [], ◌∷◌, length, lit≤, subst, sym, rules}
use Rattle.std.specs.Prelude.{codes}
use Rattle.cases.proofs.Names.{short_names}
use Rattle.cases.proofs.reports.an_archive_has_its_files_by_name.Goals as goal

pub archive-requires-2-clause-names : goal.archive-requires-2-clause-names
archive-requires-2-clause-names g c =
    let out : c.in_ok-file.field-0.name ≡ codes "out" = search rules in
    short_names c.as_slice-6.result.now (c.in_ok-file.field-0 ∷ []) (search rules) (subst (λ (n : List ℕ). length n ≤ 65535) (sym out) (lit≤ tt), tt)
