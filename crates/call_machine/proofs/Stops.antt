-- What generic calls say where a machine stopped.
use Rattle.std.proofs.Common.{◌≡◌, ℕ, refl, sym, ◌∙◌, ap, subst, List, [], ◌++◌, append-nil}
use Rattle.linux_model.specs.Effects.{Effect}
use Rattle.linux_model.specs.Called.{Called, Gives, Becomes, Waits, Death, following}
use Rattle.linux_model.specs.Held.{Held, held_after_all}
use Rattle.call_machine.specs.Lawful.{Lawful}
use Rattle.call_machine.specs.Laws.{effects_of, StopsFollow}

-- the effects of what follows others
pub following_has : (es : List Effect) (rest : Called) → effects_of (following es rest) ≡ es ++ effects_of rest
following_has es (Gives effects value) = refl
following_has es (Becomes effects cpu) = refl
following_has es (Waits effects moved len) = refl
following_has es (Death effects status) = refl

module _ {X : Type 0} (held : X → Held) (does stops : X → X → List Effect → Type 0) (laws : Lawful held does stops) where
  did_stops : (a b : X) (es : List Effect) → does a b es → stops a b es
  did_stops a b es d = subst (stops a b) (append-nil es) (laws.stops_then a b b es [] d (laws.not_begun b))

  following_stops : (a b : X) (es : List Effect) (row rest : Called) → row ≡ following es rest → stops a b es → stops a b (effects_of row)
  following_stops a b es row rest is s = subst (stops a b) (sym (ap effects_of is ∙ following_has es rest)) (laws.stops_front a b es (effects_of rest) s)

  given_stops : (a b : X) (es more : List Effect) (row : Called) (value : ℕ) → row ≡ Gives (es ++ more) value → stops a b es → stops a b (effects_of row)
  given_stops a b es more row value is s = subst (stops a b) (sym (ap effects_of is)) (laws.stops_front a b es more s)

  stays : (a b : X) (es : List Effect) → does a b es → ((h : Held) → held_after_all es h ≡ h) → held b ≡ held a
  stays a b es d still = laws.holds a b es d ∙ still (held a)

  pub stops_follow : StopsFollow held does stops
  stops_follow = record { did = did_stops; following_row = following_stops; given_row = given_stops; still = stays }
