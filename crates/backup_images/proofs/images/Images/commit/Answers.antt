use Rattle.std.proofs.Common.{◌≡◌, ◌+◌, ◌++◌, ◌∙◌, [], ap, subst, sym}
use Rattle.std.proofs.lemmas.Result.{on_ok_weaker}
use Rattle.std.proofs.lemmas.List.Sums.{sum_by-append}
use Rattle.lego_base.specs.Keys.{Rises}
use Rattle.lego_msg.specs.Maps.{page_key}
use Rattle.backup_images.specs.Segments.{compacted, images_in, regions_reset, weight_of, weights}
use Rattle.backup_images.proofs.Groups.{compacted_is, images_append, images_rise, made_anew}
use Rattle.backup_images.proofs.images.Images.commit.Goals as goal
use Rattle.backup_images.proofs.images.Images.commit.Goals.{After-drop-segments-2, After-drop-segments-then-is_heavy, After-make_anew-arg-1}

pub make_anew-requires : goal.make_anew-requires
make_anew-requires c =
    subst (Rises page_key) (sym (c.requires ∙ sym (images_append c.args.self.now c.args.segments.items []))) (images_rise (c.args.self.now ++ c.args.segments.items) [] tt)

-- the images of the whole list, and what it becomes
heavy : (c : After-drop-segments-then-is_heavy) → compacted (c.args.self.now ++ c.args.segments.items) ≡ regions_reset c.args.pages.items
heavy c =
    let all = c.args.self.now ++ c.args.segments.items in
    let weight : c.in_ok-weight.weight ≡ weights all =
    c.in_ok-weight.ensures ∙ (λ i. c.self.invariant.0 i + weights (c.as_slice.ensures.value i)) ∙ ap (λ s. weights s + weights c.args.segments.items) c.self.view_is
    ∙ sym (sum_by-append weight_of c.args.self.now c.args.segments.items) in
    compacted_is all c.in_ok-weight.weight c.len.result c.args.pages.items _ weight (c.requires ∙ sym (images_append c.args.self.now c.args.segments.items [])) (c.len.ensures ∙ c.args.pages.ok.0) c.if-is_heavy.ensures

pub returns-then-is_heavy-clause-ok : goal.returns-then-is_heavy-clause-ok
returns-then-is_heavy-clause-ok c = on_ok_weaker c.make_anew.result (λ e. e ∙ sym (heavy c)) c.make_anew.ensures.ok

pub returns-then-is_heavy-clause-images : goal.returns-then-is_heavy-clause-images
returns-then-is_heavy-clause-images c =
    let rise = subst (Rises page_key) (sym (c.requires ∙ sym (images_append c.args.self.now c.args.segments.items []))) (images_rise (c.args.self.now ++ c.args.segments.items) [] tt) in
    on_ok_weaker c.make_anew.result (λ e. ap images_in e ∙ made_anew c.args.pages.items rise) c.make_anew.ensures.ok

-- a list that isn't too heavy
whole : (c : After-drop-segments-2) → c.append.new.self.items ≡ c.args.self.now ++ c.args.segments.items
whole c = c.in_ok-append.ensures.items ∙ ap (λ s. s ++ c.args.segments.items) c.self.view_is

images : (c : After-drop-segments-2) → c.args.pages.items ≡ images_in (c.args.self.now ++ c.args.segments.items)
images c = c.requires ∙ sym (images_append c.args.self.now c.args.segments.items [])

weighs : (c : After-drop-segments-2) → c.in_ok-weight.weight ≡ weights (c.args.self.now ++ c.args.segments.items)
weighs c =
    c.in_ok-weight.ensures ∙ (λ i. c.self.invariant.0 i + weights (c.as_slice.ensures.value i)) ∙ ap (λ s. weights s + weights c.args.segments.items) c.self.view_is
    ∙ sym (sum_by-append weight_of c.args.self.now c.args.segments.items)

pub invariant_of-self-2 : goal.invariant_of-self-2
invariant_of-self-2 c = (weighs c ∙ ap weights (sym (whole c)), images c ∙ ap images_in (sym (whole c)))

pub returns-clause-ok : goal.returns-clause-ok
returns-clause-ok c =
    whole c ∙ sym (compacted_is (c.args.self.now ++ c.args.segments.items) c.in_ok-weight.weight c.len.result c.args.pages.items _ (weighs c) (images c) (c.len.ensures ∙ c.args.pages.ok.0) c.if-is_heavy.ensures)

pub returns-clause-images : goal.returns-clause-images
returns-clause-images c = ap images_in (whole c) ∙ sym (images c)
