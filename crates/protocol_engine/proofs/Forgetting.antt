-- The answers that stay where those of a place are forgotten: what a filter keeps.
use Rattle.std.proofs.Common.{◌≡◌, [], ◌∷◌, Bool, List, ap, cond, not, false, refl, true}
use Rattle.std.specs.List.{filter}
use Rattle.lego_msg.specs.Places.{same_place}
use Rattle.lego_msg.specs.Track.{forget}
use Rattle.lego_msg.specs.declared.operation.Answer.{Answer}
use Rattle.lego_msg.specs.declared.place.Place.{Place}

pub filter-forget : (place : Place) (answers : List Answer) → filter (λ (a : Answer). not (same_place a.place place)) answers ≡ forget place answers
filter-forget place [] = refl
filter-forget place (a ∷ answers) = by (same_place a.place place) (filter-forget place answers)
  where
    by : (b : Bool) → filter (λ (a : Answer). not (same_place a.place place)) answers ≡ forget place answers →
        cond (not b) (a ∷ filter (λ (a : Answer). not (same_place a.place place)) answers) (filter (λ (a : Answer). not (same_place a.place place)) answers) ≡ cond b (forget place answers) (a ∷ forget place answers)
    by true rest = rest
    by false rest = ap (λ (as_ : List Answer). a ∷ as_) rest
