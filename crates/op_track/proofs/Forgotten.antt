-- Who has answered once the answers of a place are forgotten.
use Rattle.std.proofs.Common.{◌≡◌, ◌&&◌, ◌||◌, [], ◌∷◌, ◌∙◌, Bool, List, ap, cond, false, not, refl, true}
use Rattle.std.proofs.lemmas.Bool.{eqb-true}
use Rattle.lego_msg.specs.Places.{same_place}
use Rattle.lego_msg.specs.Track.{forget, has_answered}
use Rattle.lego_msg.specs.declared.operation.Answer.{Answer}
use Rattle.lego_msg.specs.declared.place.Place.{Place}
use Rattle.lego_msg.specs.declared.place.Place.TheVariants.{Manager, Memory, Processor, Storage}

-- places that are the same are equal
same_is : (a b : Place) → same_place a b ≡ true → a ≡ b
same_is (Processor a) (Processor b) e = λ i. Processor (record { 0 = eqb-true a.0 b.0 e i })
same_is (Processor a) (Memory b) e = cc e
same_is (Processor a) Storage e = cc e
same_is (Processor a) Manager e = cc e
same_is (Memory a) (Processor b) e = cc e
same_is (Memory a) (Memory b) e = λ i. Memory (record { 0 = eqb-true a.0 b.0 e i })
same_is (Memory a) Storage e = cc e
same_is (Memory a) Manager e = cc e
same_is Storage (Processor b) e = cc e
same_is Storage (Memory b) e = cc e
same_is Storage Storage e = refl
same_is Storage Manager e = cc e
same_is Manager (Processor b) e = cc e
same_is Manager (Memory b) e = cc e
same_is Manager Storage e = cc e
same_is Manager Manager e = refl

-- an answer of the place, and one of another place
forget_here : (x y rest kept : Bool) → y ≡ x → kept ≡ (not y && rest) → cond x kept true ≡ (not y && true)
forget_here true true rest kept same e = e
forget_here true false rest kept same e = cc same
forget_here false true rest kept same e = cc same
forget_here false false rest kept same e = refl

forget_there : (x y rest kept : Bool) → kept ≡ (not y && rest) → cond x kept kept ≡ (not y && rest)
forget_there true y rest kept e = e
forget_there false y rest kept e = e

forget_one : (p c : Place) (a : Answer) (rest kept : Bool) → kept ≡ (not (same_place p c) && rest) → cond (same_place a.place c) kept (same_place p a.place || kept) ≡ (not (same_place p c) && (same_place p a.place || rest))
forget_one p c a rest kept e = by (same_place p a.place) refl
  where
    by : (b : Bool) → same_place p a.place ≡ b → cond (same_place a.place c) kept (b || kept) ≡ (not (same_place p c) && (b || rest))
    by true here = forget_here (same_place a.place c) (same_place p c) rest kept (ap (λ (q : Place). same_place q c) (same_is p a.place here)) e
    by false other = forget_there (same_place a.place c) (same_place p c) rest kept e

answered_or : (p : Place) (a : Answer) (xs ys : List Answer) (b : Bool) → has_answered p (cond b xs (a ∷ ys)) ≡ cond b (has_answered p xs) (same_place p a.place || has_answered p ys)
answered_or p a xs ys true = refl
answered_or p a xs ys false = refl

none_left : (b : Bool) → false ≡ (not b && false)
none_left true = refl
none_left false = refl

pub has_answered-forget : (p c : Place) (answers : List Answer) → has_answered p (forget c answers) ≡ (not (same_place p c) && has_answered p answers)
has_answered-forget p c [] = none_left (same_place p c)
has_answered-forget p c (a ∷ answers) =
    answered_or p a (forget c answers) (forget c answers) (same_place a.place c)
    ∙ forget_one p c a (has_answered p answers) (has_answered p (forget c answers)) (has_answered-forget p c answers)
