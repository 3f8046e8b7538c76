-- What a watch tells, and how its count of faults moves.
use Rattle.std.specs.Prelude.{◌≡◌, ◌<◌, ◌≤◌, ◌++◌, ℕ, List, None, Option, Some}
use Rattle.lego_base.specs.Counts.{Calm}
use Rattle.lego_msg.specs.declared.event.Event.{Event}

-- what a watch tells grew by these events; one that doesn't tell still doesn't
abbrev pub Grew : Option (List Event) → List Event → Option (List Event) → Type 0
Grew None events new = new ≡ None
Grew (Some told) events new = new ≡ Some (told ++ events)

-- some first ones of these events, and the others
pub record FrontOf (events : List Event) : Type 0 where
  pub front : List Event
  pub rest : List Event
  pub whole : front ++ rest ≡ events

-- What showing these events, in order, does to what a watch tells and to its count: all of them are told where
-- the count did not rise, some first ones in any case, and none from the first fault on.
pub record Shown (told : Option (List Event)) (faults : ℕ) (told' : Option (List Event)) (faults' : ℕ) (events : List Event) : Type 0 where
  pub later : faults ≤ faults'
  pub all : Calm faults faults' → Grew told events told'
  pub some : (f : FrontOf events) × Grew told f.front told'
  pub none : 0 < faults → told' ≡ told

abbrev pub ShownTo : {W : Type 0} → (W → Option (List Event)) → (W → ℕ) → W → W → List Event → Type 0
ShownTo told faults old new events = Shown (told old) (faults old) (told new) (faults new) events
