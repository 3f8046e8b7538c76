use Rattle.std.proofs.Common.{◌≡◌, ◌∙◌, List, map, rules, subst}
use Rattle.lego_base.specs.declared.report.FileOut.{FileOut}
use Rattle.std.specs.Ordering.{is_lt}
use Rattle.std.specs.Prelude.{IsPermutation}
use Rattle.std.proofs.lemmas.List.{take_all}
use Rattle.std.proofs.lemmas.Cmp.{nat_list_cmp_total}
use Rattle.std.proofs.lemmas.List.Sorted.{IsPermutation-map, ranks_by, answers_always}
use Rattle.report_text.specs.Archive.{by_name}
use Rattle.report_text.proofs.Sorting.{order, ordered_of, ordered_map, sorted_unique}
use Rattle.report_text.proofs.ByName.{name, by_name_permutes, by_name_ordered}
use Rattle.report_text.proofs.archive_bytes.by_name.Goals as goal

pub returns : goal.returns
returns c =
    let sorted = c.sort_unstable_by.new.self.items in
    let whole : map (λ file. file.now) c.loop-file.sorted.items ≡ c.args.files.now = c.loop-file.invariant ∙ take_all c.loop-file.file-index c.args.files.now c.loop-file-test.false in
    let moved : IsPermutation c.args.files.now (map (λ file. file.now) sorted) = subst (λ (files : List FileOut). IsPermutation files (map (λ file. file.now) sorted)) whole (IsPermutation-map (λ file. file.now) c.loop-file.sorted.items sorted c.sort_unstable_by.ensures.permutation) in
    sorted_unique name c.args.files.now (map (λ file. file.now) sorted) (by_name c.args.files.now) c.requires moved (by_name_permutes c.args.files.now)
    (ordered_map name (λ file. file.now) sorted (ordered_of (λ file. file.now.name) sorted (c.sort_unstable_by.ensures.sorted (λ file other. is_lt (order file.now.name other.now.name)) (ranks_by nat_list_cmp_total (λ file. file.now.name)) (answers_always _ _ _ (λ f a r g h. search rules)))))
    (by_name_ordered c.args.files.now)
