-- What is pending once a place crashed: what a filter keeps.
use Rattle.std.proofs.Common.{◌≡◌, [], ◌∷◌, Bool, List, ap, cond, false, not, refl, true}
use Rattle.std.specs.List.{filter}
use Rattle.lego_msg.specs.Places.{lose}
use Rattle.lego_msg.specs.declared.message.Message.{Message}
use Rattle.lego_msg.specs.declared.place.Place.{Place}
use Rattle.net_fabric.specs.Net.{concerns_place}

pub filter-concerns : (place : Place) (pending : List Message) → filter (λ m. not (concerns_place place m)) pending ≡ lose place pending
filter-concerns place [] = refl
filter-concerns place (m ∷ pending) = by (concerns_place place m) (filter-concerns place pending)
  where
    by : (b : Bool) → filter (λ m. not (concerns_place place m)) pending ≡ lose place pending →
        cond (not b) (m ∷ filter (λ m. not (concerns_place place m)) pending) (filter (λ m. not (concerns_place place m)) pending) ≡ cond b (lose place pending) (m ∷ lose place pending)
    by true rest = rest
    by false rest = ap (λ (ms : List Message). m ∷ ms) rest
