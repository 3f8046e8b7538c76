-- What a reader may ask of machines, and what generic calls rest on.
use Rattle.std.specs.Prelude.{◌≡◌, ℕ, List, ◌++◌}
use Rattle.linux_model.specs.Effects.{Effect}
use Rattle.linux_model.specs.Called.{Called, Gives, Becomes, Waits, Death, following}
use Rattle.linux_model.specs.Held.{Held, held_after_all}

-- the effects of what a call comes to
abbrev pub effects_of : Called → List Effect
effects_of (Gives effects value) = effects
effects_of (Becomes effects cpu) = effects
effects_of (Waits effects moved len) = effects
effects_of (Death effects status) = effects

-- Effects that happened are a stop, too; and a stop within the first effects of a row is a stop of the row.
pub record StopsFollow {X : Type 0} (held : X → Held) (does stops : X → X → List Effect → Type 0) : Type 0 where
  pub did : (a b : X) (es : List Effect) → does a b es → stops a b es
  pub following_row : (a b : X) (es : List Effect) (row rest : Called) → row ≡ following es rest → stops a b es → stops a b (effects_of row)
  pub given_row : (a b : X) (es more : List Effect) (row : Called) (value : ℕ) → row ≡ Gives (es ++ more) value → stops a b es → stops a b (effects_of row)
  -- questions change nothing that is held
  pub still : (a b : X) (es : List Effect) → does a b es → ((h : Held) → held_after_all es h ≡ h) → held b ≡ held a
