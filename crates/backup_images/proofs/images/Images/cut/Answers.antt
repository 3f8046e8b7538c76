use Rattle.std.proofs.Common.{◌≡◌, ◌++◌, [], ◌∷◌, ◌∙◌, List, ap, drop, false, length, subst, sym, take, true}
use Rattle.std.proofs.lemmas.Result.{on_ok_weaker}
use Rattle.lego_base.specs.Keys.{Rises}
use Rattle.lego_base.specs.declared.records.PageImage.{PageImage}
use Rattle.lego_msg.specs.Maps.{page_key}
use Rattle.backup_images.specs.Segments.{after_segment, images_in, regions_reset, weights}
use Rattle.backup_images.proofs.Cuts.{all_images, all_weigh, list_is}
use Rattle.backup_images.proofs.Groups.{images_rise, made_anew, segment_rises}
use Rattle.backup_images.proofs.images.Images.cut.Goals as goal

pub make_anew-requires : goal.make_anew-requires
make_anew-requires c =
    let images = images_in c.args.self.now in
    let cut : c.cut.new.pages.items ≡ after_segment images c.args.segment =
    c.cut.ensures ∙ ap (λ (l : List PageImage). take c.args.start l ++ drop c.args.end l) (c.in_ok-pages.ensures ∙ c.as_slice.ensures.value ∙ c.self.invariant.1 ∙ ap images_in c.self.view_is) ∙ sym c.requires.rest in
    subst (Rises page_key) (sym cut) (segment_rises c.args.segment images (images_rise c.args.self.now [] tt))

-- a list that becomes too heavy
pub returns-then-is_heavy-clause-ok : goal.returns-then-is_heavy-clause-ok
returns-then-is_heavy-clause-ok c =
    let old = c.args.self.now in
    let images = images_in old in
    let size = c.len.ensures ∙ c.self.inside.pages.ok.0 ∙ ap length (c.self.invariant.1 ∙ ap images_in c.self.view_is) in
    let becomes =
    list_is old c.args.segment c.self.inside.weight c.in_ok-weight.weight c.len.result c.args.start c.args.end true (c.self.invariant.0 ∙ ap weights c.self.view_is) c.in_ok-weight.ensures size
    c.requires.order c.requires.within c.requires.rest c.if-is_heavy.ensures in
    let cut : c.cut.new.pages.items ≡ after_segment images c.args.segment =
    c.cut.ensures ∙ ap (λ (l : List PageImage). take c.args.start l ++ drop c.args.end l) (c.in_ok-pages.ensures ∙ c.as_slice.ensures.value ∙ c.self.invariant.1 ∙ ap images_in c.self.view_is) ∙ sym c.requires.rest in
    on_ok_weaker c.make_anew.result (λ e. e ∙ ap regions_reset cut ∙ sym becomes) c.make_anew.ensures.ok

pub returns-then-is_heavy-clause-images : goal.returns-then-is_heavy-clause-images
returns-then-is_heavy-clause-images c =
    let images = images_in c.args.self.now in
    let cut : c.cut.new.pages.items ≡ after_segment images c.args.segment =
    c.cut.ensures ∙ ap (λ (l : List PageImage). take c.args.start l ++ drop c.args.end l) (c.in_ok-pages.ensures ∙ c.as_slice.ensures.value ∙ c.self.invariant.1 ∙ ap images_in c.self.view_is) ∙ sym c.requires.rest in
    let rise = segment_rises c.args.segment images (images_rise c.args.self.now [] tt) in
    on_ok_weaker c.make_anew.result (λ e. ap images_in (e ∙ ap regions_reset cut) ∙ made_anew (after_segment images c.args.segment) rise) c.make_anew.ensures.ok

-- one that doesn't
pub invariant_of-self-2 : goal.invariant_of-self-2
invariant_of-self-2 c =
    let old = c.args.self.now in
    let whole : c.push.new.self.items ≡ old ++ c.args.segment ∷ [] = c.in_ok-push.ensures.items ∙ ap (λ l. l ++ c.args.segment ∷ []) c.self.view_is in
    let cut : c.cut-2.new.pages.items ≡ after_segment (images_in old) c.args.segment =
    c.cut-2.ensures ∙ ap (λ (l : List PageImage). take c.args.start l ++ drop c.args.end l) (c.self.invariant.1 ∙ ap images_in c.self.view_is) ∙ sym c.requires.rest in (
      all_weigh old c.args.segment c.self.inside.weight c.in_ok-weight.weight (c.self.invariant.0 ∙ ap weights c.self.view_is) c.in_ok-weight.ensures ∙ ap weights (sym whole),
      cut ∙ all_images old c.args.segment ∙ ap images_in (sym whole),
    )

pub returns-clause-ok : goal.returns-clause-ok
returns-clause-ok c =
    let old = c.args.self.now in
    let size = c.len.ensures ∙ c.self.inside.pages.ok.0 ∙ ap length (c.self.invariant.1 ∙ ap images_in c.self.view_is) in
    let becomes =
    list_is old c.args.segment c.self.inside.weight c.in_ok-weight.weight c.len.result c.args.start c.args.end false (c.self.invariant.0 ∙ ap weights c.self.view_is) c.in_ok-weight.ensures size
    c.requires.order c.requires.within c.requires.rest c.if-is_heavy.ensures in
    c.in_ok-push.ensures.items ∙ ap (λ l. l ++ c.args.segment ∷ []) c.self.view_is ∙ sym becomes

pub returns-clause-images : goal.returns-clause-images
returns-clause-images c =
    ap images_in (c.in_ok-push.ensures.items ∙ ap (λ l. l ++ c.args.segment ∷ []) c.self.view_is) ∙ sym (all_images c.args.self.now c.args.segment)
