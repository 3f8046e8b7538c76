-- What a call over a machine comes to.
use Rattle.std.specs.Prelude.{◌≡◌, ℕ, List}
use Rattle.linux_model.specs.State.{Kernel}
use Rattle.linux_model.specs.Effects.{Effect, applies}
use Rattle.linux_model.specs.Called.{Called, Gives}

-- The row of the call is these effects with their end, the machine did them between two of its states, and they make of the
-- kernel with what the call was lent the kernel with what it gave back.
pub record Ends {X : Type 0} (does : X → X → List Effect → Type 0) (old new : X) (row : Called) (before after : Kernel) (end : List Effect → Called) : Type 0 where
  pub effects : List Effect
  pub row_is : row ≡ end effects
  pub did : does old new effects
  pub becomes : applies effects before ≡ after

-- it answered
abbrev pub Answered : {X : Type 0} (does : X → X → List Effect → Type 0) → X → X → Called → Kernel → Kernel → ℕ → Type 0
Answered does old new row before after value = Ends does old new row before after (λ effects. Gives effects value)
