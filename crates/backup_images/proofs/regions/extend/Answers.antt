use Rattle.std.proofs.Common.{◌≡◌, [], ◌∷◌, ◌++◌, ◌∙◌, ap, cond, sym}
use Rattle.std.proofs.lemmas.List.{append_assoc}
use Rattle.backup_images.specs.Segments.{alone, extended, joined_to, with_image}
use Rattle.backup_images.proofs.Groups.{extended_last}
use Rattle.backup_images.proofs.regions.extend.Goals as goal

pub returns-then-belongs_to : goal.returns-then-belongs_to
returns-then-belongs_to c =
    let p = c.args.image in
    let front = c.pop.new.self.items in
    let last = c.in-Some.last in
    let split : extended c.args.segments.now.items p ≡ front ++ joined_to last p = ap (λ l. extended l p) c.in-Some.ensures.items ∙ extended_last front last p in
    let into : joined_to last p ≡ with_image last p ∷ [] = ap (λ b. cond b (with_image last p ∷ []) (last ∷ alone p ∷ [])) (sym c.if-belongs_to.ensures) in
    c.in_ok-push-2.ensures.items ∙ ap (λ s. front ++ s ∷ []) c.in_ok-with_image.ensures ∙ sym (split ∙ ap (λ t. front ++ t) into)

pub returns : goal.returns
returns c =
    let p = c.args.image in
    let front = c.pop.new.self.items in
    let last = c.in-Some.last in
    let split : extended c.args.segments.now.items p ≡ front ++ joined_to last p = ap (λ l. extended l p) c.in-Some.ensures.items ∙ extended_last front last p in
    let apart : joined_to last p ≡ last ∷ alone p ∷ [] = ap (λ b. cond b (with_image last p ∷ []) (last ∷ alone p ∷ [])) (sym c.if-belongs_to.ensures) in
    c.in_ok-push-4.ensures.items ∙ ap (λ l. l ++ c.in_ok-alone-2.field-0 ∷ []) c.in_ok-push-3.ensures.items ∙ ap (λ s. front ++ last ∷ [] ++ s ∷ []) c.in_ok-alone-2.ensures
    ∙ append_assoc front (last ∷ []) (alone p ∷ []) ∙ sym (split ∙ ap (λ t. front ++ t) apart)
