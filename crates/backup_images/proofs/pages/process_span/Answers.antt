use Rattle.std.proofs.Common.{◌≡◌, ◌-◌, ◌≤◌, ◌∙◌, Bool, List, ap, drop, length, rules, subst, sym, take}
use Rattle.std.proofs.lemmas.List.{take_rest}
use Rattle.std.specs.List.Sorted.{IsPartitionedBy}
use Rattle.std.proofs.lemmas.List.Sorted.{IsPartitionPoint-from_clause}
use Rattle.lego_base.specs.Keys.{Key, is_below, is_of, key_at}
use Rattle.lego_base.specs.declared.records.PageImage.{PageImage}
use Rattle.lego_msg.specs.Maps.{page_key}
use Rattle.backup_images.proofs.Spans.{Begins, begins, count_is, count_while, early_first, is_span, picked_first, process_fits, rises_drop}
use Rattle.backup_images.proofs.pages.process_span.Goals as goal

pub returns : goal.returns
returns c =
    let pages = c.args.pages.now in
    let early : Key → Bool = λ k. is_below k (key_at c.args.pid.0 0) in
    let pick : Key → Bool = is_of c.args.pid.0 in
    let fit = process_fits c.args.pid.0 in
    let i = c.partition_point-start.result in
    let first : i ≡ count_while early pages =
    count_is early pages i c.partition_point-start.ensures.bound
    (IsPartitionPoint-from_clause (λ (p : PageImage). early (page_key p)) pages i c.partition_point-start.ensures.partitioned (early_first early pick fit pages c.requires) (λ a r f' h. search rules)) in
    let j = c.partition_point-len.result in
    let rest = drop i pages in
    let from : Begins early pick fit rest = subst (λ n. Begins early pick fit (drop n pages)) (sym first) (begins early pick fit pages) in
    let slice = take (length pages - i) (drop i pages) in
    let same : slice ≡ rest = take_rest pages i in
    let parts : IsPartitionedBy (λ (p : PageImage). pick (page_key p)) slice =
    subst (IsPartitionedBy (λ (p : PageImage). pick (page_key p))) (sym same) (picked_first early pick fit rest (rises_drop i pages c.requires) from) in
    let count : j ≡ count_while pick slice =
    count_is pick slice j c.partition_point-len.ensures.bound
    (IsPartitionPoint-from_clause (λ (p : PageImage). pick (page_key p)) slice j c.partition_point-len.ensures.partitioned parts (λ a r f' h. search rules)) in
    let most : j ≤ length rest = subst (λ (l : List PageImage). j ≤ length l) same c.partition_point-len.ensures.bound in
    is_span early pick fit pages i j c.requires first c.partition_point-start.ensures.bound (count ∙ ap (count_while pick) same) most
