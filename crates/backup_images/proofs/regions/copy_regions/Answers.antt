use Rattle.std.proofs.Common.{◌≡◌, ◌+◌, [], ◌∷◌, ◌++◌, ◌∙◌, ap, drop, get_or, map, subst, sym}
use Rattle.std.proofs.lemmas.List.{append_assoc, at_drop_more}
use Rattle.lego_base.specs.Keys.{Rises}
use Rattle.lego_msg.specs.Maps.{for_child, page_key, pages_of, with_pages}
use Rattle.backup_images.specs.Segments.{after_segment, copied, copied_region, images_after}
use Rattle.backup_images.specs.declared.segment.Seg.TheVariants.{Reset}
use Rattle.backup_images.proofs.Groups.{images_append, segment_rises}
use Rattle.backup_images.proofs.regions.copy_regions.Goals as goal

pub loop-region-preserved : goal.loop-region-preserved
loop-region-preserved c =
    let P = c.loop-region.pages.items in
    let S = c.loop-region.segments.items in
    let P0 = c.args.pages.now.items in
    let r = get_or c.args.regions.now c.loop-region.region-index (record { 0 = 0 }) in
    let rest = drop (c.loop-region.region-index + 1) c.args.regions.now in
    let images : c.in_ok-images.images.items ≡ map (for_child c.args.child) (pages_of c.args.parent.0 r.0 P) =
    c.in_ok-images.ensures ∙ ap (λ pages. map (for_child c.args.child) (pages_of c.args.parent.0 r.0 pages)) c.as_slice.ensures.value in
    let seg : Reset c.args.child r c.from_vec.result ≡ copied_region c.args.parent c.args.child P r = ap (Reset c.args.child r) (c.from_vec.ensures ∙ images) in
    let played : c.reset.new.pages.items ≡ after_segment P (copied_region c.args.parent c.args.child P r) =
    c.in_ok-reset.ensures ∙ ap (λ l. with_pages c.args.child.0 r.0 l P) (c.as_slice-in-loop-region.ensures.value ∙ images) in
    let pushed : c.push.new.self.items ≡ S ++ copied_region c.args.parent c.args.child P r ∷ [] = c.in_ok-push.ensures.items ∙ ap (λ s. S ++ s ∷ []) seg in (
      subst (Rises page_key) (sym played) (segment_rises (copied_region c.args.parent c.args.child P r) P c.loop-region.invariant.0),
      (λ i. pushed i ++ copied c.args.parent c.args.child rest (played i))
          ∙ append_assoc S (copied_region c.args.parent c.args.child P r ∷ []) (copied c.args.parent c.args.child rest (after_segment P (copied_region c.args.parent c.args.child P r)))
          ∙ ap (λ t. S ++ t) (sym (at_drop_more (λ rs. copied c.args.parent c.args.child rs P) c.args.regions.now c.loop-region.region-index (record { 0 = 0 }) c.loop-region-test.true))
          ∙ c.loop-region.invariant.1,
      played ∙ ap (λ X. after_segment X (copied_region c.args.parent c.args.child P r)) c.loop-region.invariant.2
          ∙ sym (images_append S (copied_region c.args.parent c.args.child P r ∷ []) P0) ∙ ap (λ s. images_after s P0) (sym pushed),
    )
