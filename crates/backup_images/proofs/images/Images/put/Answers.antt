use Rattle.std.proofs.Common.{◌≡◌, [], ◌∷◌, ◌++◌, ◌∙◌, ap, length, subst, sym}
use Rattle.lego_base.specs.Keys.{Rises, put_all}
use Rattle.lego_msg.specs.Maps.{page_key}
use Rattle.backup_images.specs.Segments.{after_segment, images_in, weights}
use Rattle.backup_images.proofs.Cuts.{all_images, all_weigh, light_list_is}
use Rattle.backup_images.proofs.Groups.{images_rise}
use Rattle.backup_images.proofs.images.Images.put.Goals as goal

pub put_fresh-requires-clause-rises : goal.put_fresh-requires-clause-rises
put_fresh-requires-clause-rises c =
    subst (Rises page_key) (sym (c.in_ok-reserve.ensures.items ∙ c.in_ok-pages.ensures ∙ c.as_slice.ensures.value ∙ c.self.invariant.1)) (images_rise c.self.inside.segments.items [] tt)

pub put_fresh-requires-2-clause-rises : goal.put_fresh-requires-2-clause-rises
put_fresh-requires-2-clause-rises c = subst (Rises page_key) (sym (c.in_ok-reserve-2.ensures.items ∙ c.self.invariant.1)) (images_rise c.self.inside.segments.items [] tt)

pub invariant_of-self-2 : goal.invariant_of-self-2
invariant_of-self-2 c =
    let old = c.args.self.now in
    let whole : c.push.new.self.items ≡ old ++ c.args.segment ∷ [] = c.in_ok-push.ensures.items ∙ ap (λ l. l ++ c.args.segment ∷ []) c.self.view_is in
    let images : c.put_fresh-2.new.pages.items ≡ after_segment (images_in old) c.args.segment =
    c.put_fresh-2.ensures ∙ ap (put_all page_key c.args.fresh.items) (c.in_ok-reserve-2.ensures.items ∙ c.self.invariant.1 ∙ ap images_in c.self.view_is) ∙ c.requires in (
      all_weigh old c.args.segment c.self.inside.weight c.in_ok-weight.weight (c.self.invariant.0 ∙ ap weights c.self.view_is) c.in_ok-weight.ensures ∙ ap weights (sym whole),
      images ∙ all_images old c.args.segment ∙ ap images_in (sym whole),
    )

pub returns-clause-ok : goal.returns-clause-ok
returns-clause-ok c =
    let old = c.args.self.now in
    let size = c.len.ensures ∙ c.self.inside.pages.ok.0 ∙ ap length (c.self.invariant.1 ∙ ap images_in c.self.view_is) in
    c.in_ok-push.ensures.items ∙ ap (λ l. l ++ c.args.segment ∷ []) c.self.view_is
    ∙ sym (light_list_is old c.args.segment c.args.fresh.items c.self.inside.weight c.in_ok-weight.weight c.len.result (c.self.invariant.0 ∙ ap weights c.self.view_is) c.in_ok-weight.ensures size c.requires
    (sym c.if-is_heavy.ensures))

pub returns-clause-images : goal.returns-clause-images
returns-clause-images c =
    ap images_in (c.in_ok-push.ensures.items ∙ ap (λ l. l ++ c.args.segment ∷ []) c.self.view_is) ∙ sym (all_images c.args.self.now c.args.segment)
