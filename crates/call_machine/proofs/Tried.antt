-- A question, and then a copy.
use Rattle.std.proofs.Common.{◌≡◌, ℕ, subst, List, [], ◌∷◌, Result, Ok, Err, OnOk}
use Rattle.linux_model.specs.Effects.{Effect, AsksSpan}
use Rattle.linux_model.specs.Held.{Held}
use Rattle.call_machine.specs.Effects.{copied_in}
use Rattle.call_machine.specs.Lawful.{Lawful}

module _ {X : Type 0} (held : X → Held) (does stops : X → X → List Effect → Type 0) (laws : Lawful held does stops) (pid at n : ℕ) (a b c : X) (asked : does a b (AsksSpan pid at n ∷ [])) where
  abbrev copies : X → List Effect
  copies x = copied_in ((held x).space pid) pid at n

  still : held b ≡ held a
  still = laws.holds a b (AsksSpan pid at n ∷ []) asked

  pub done : {A E : Type 0} (r : Result A E) → OnOk r (does b c (copies b)) → OnOk r (does a c (AsksSpan pid at n ∷ copies a))
  done (Ok bytes) d = laws.both a b c (AsksSpan pid at n ∷ []) (copies a) asked (subst (λ (h : Held). does b c (copied_in (h.space pid) pid at n)) still d)
  done (Err halt) d = d

  pub stopped : stops b c (copies b) → stops a c (AsksSpan pid at n ∷ copies a)
  stopped s = laws.stops_then a b c (AsksSpan pid at n ∷ []) (copies a) asked (subst (λ (h : Held). stops b c (copied_in (h.space pid) pid at n)) still s)
