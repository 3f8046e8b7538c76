use Rattle.std.proofs.Common.{◌≡◌, ◌-◌, ◌∙◌, List, ap, arith, drop, length, subst, sym, take, ℕ}
use Rattle.lego_base.specs.Keys.{those, without}
use Rattle.keyed_list.specs.Below.{is_within}
use Rattle.keyed_list.specs.Places.{IsSpan}
use Rattle.page_store.proofs.Freed.{images_gone, tied_gone}
use Rattle.page_store.specs.Spots.{IsTied, freed, images, spot_key}
use Rattle.page_store.specs.declared.spot.Spot.{Spot}
use Rattle.page_store.proofs.store.drop_span.Goals as goal

spanned : (spots view : List Spot) (pid first last start end : ℕ) → view ≡ spots → IsSpan spot_key pid first last view start end → IsSpan spot_key pid first last spots start end
spanned spots view pid first last start end e span = subst (λ (l : List Spot). IsSpan spot_key pid first last l start end) e span

gone : (spots : List Spot) (pid first last start end : ℕ) → IsSpan spot_key pid first last spots start end → take (end - start) (drop start spots) ≡ those spot_key (is_within pid first last) spots
gone spots pid first last start end span =
    let count = span.count in
    let n : end - start ≡ length (those spot_key (is_within pid first last) spots) = omega (arith, count) in
    ap (λ (m : ℕ). take m (drop start spots)) n ∙ sym span.those_are

pub returns-clause-pages : goal.returns-clause-pages
returns-clause-pages c test says =
    let spots = c.args.spots.now.items in
    let span = spanned spots c.as_slice.result.now c.args.pid.0 c.args.first c.args.last c.span-start.result.0 c.span-start.result.1 c.as_slice.ensures.value c.span-start.ensures in
    let frames = c.free.ensures.slots ∙ ap (freed c.args.frames.now.slots) (ap (λ (l : List Spot). take (c.span-start.result.1 - c.span-start.result.0) (drop c.span-start.result.0 l)) c.deref.ensures.value ∙ gone spots c.args.pid.0 c.args.first c.args.last c.span-start.result.0 c.span-start.result.1 span) in
    let places = c.cut.ensures.items ∙ sym span.others in
    (λ i. images (frames i) (places i)) ∙ images_gone c.args.frames.now.slots spots c.args.pid.0 c.args.first c.args.last c.requires.tied test says

pub returns-clause-tied : goal.returns-clause-tied
returns-clause-tied c =
    let spots = c.args.spots.now.items in
    let span = spanned spots c.as_slice.result.now c.args.pid.0 c.args.first c.args.last c.span-start.result.0 c.span-start.result.1 c.as_slice.ensures.value c.span-start.ensures in
    let frames = c.free.ensures.slots ∙ ap (freed c.args.frames.now.slots) (ap (λ (l : List Spot). take (c.span-start.result.1 - c.span-start.result.0) (drop c.span-start.result.0 l)) c.deref.ensures.value ∙ gone spots c.args.pid.0 c.args.first c.args.last c.span-start.result.0 c.span-start.result.1 span) in
    let places = c.cut.ensures.items ∙ sym span.others in
    let P : List Spot → Type 0 = λ l. IsTied l c.free.new.frames.slots in
    subst P (sym places) (subst (λ f. IsTied (without spot_key (is_within c.args.pid.0 c.args.first c.args.last) spots) f) (sym frames) (tied_gone c.args.frames.now.slots spots c.args.pid.0 c.args.first c.args.last c.requires.tied))
