use Rattle.std.proofs.Common.{◌≡◌, ◌≤◌, ℕ, List, [], ◌∷◌, length, lit≤, subst, sym, rules}
use Rattle.std.specs.Prelude.{codes}
use Rattle.cases.proofs.Names.{short_names, names_differ, apart, b_not_ab, b_not_a, ab_not_a}
use Rattle.cases.proofs.reports.files_in_another_order_come_by_name.Goals as goal

pub archive-requires-clause-apart : goal.archive-requires-clause-apart
archive-requires-clause-apart g c =
    let first = c.in_ok-file.field-0 in
    let second = c.in_ok-file-2.field-0 in
    let third = c.in_ok-file-3.field-0 in
    let b : first.name ≡ codes "b" = search rules in
    let ab : second.name ≡ codes "ab" = search rules in
    let a : third.name ≡ codes "a" = search rules in
    names_differ c.as_slice-7.result.now (first ∷ second ∷ third ∷ []) (search rules) (
      (apart first second (codes "b") (codes "ab") b ab b_not_ab, (apart first third (codes "b") (codes "a") b a b_not_a, tt)),
      ((apart second third (codes "ab") (codes "a") ab a ab_not_a, tt), (tt, tt)),
    )

pub archive-requires-clause-names : goal.archive-requires-clause-names
archive-requires-clause-names g c =
    let first = c.in_ok-file.field-0 in
    let second = c.in_ok-file-2.field-0 in
    let third = c.in_ok-file-3.field-0 in
    let b : first.name ≡ codes "b" = search rules in
    let ab : second.name ≡ codes "ab" = search rules in
    let a : third.name ≡ codes "a" = search rules in
    let P : List ℕ → Type 0 = λ n. length n ≤ 65535 in
    short_names c.as_slice-7.result.now (first ∷ second ∷ third ∷ []) (search rules) (subst P (sym b) (lit≤ tt), (subst P (sym ab) (lit≤ tt), (subst P (sym a) (lit≤ tt), tt)))
