-- The flat run is the fold of its effects.
use Rattle.std.proofs.Common.{◌≡◌, ℕ, zero, suc, refl, ◌∙◌, ap}
use Rattle.linux_model.specs.State.{Kernel}
use Rattle.linux_model.specs.Effects.{applies}
use Rattle.linux_model.specs.Turns.{Schedule, turn, flat, flat_effects}
use Rattle.linux_model.proofs.Folds.{applies-append}

pub flat_is : (schedule : Schedule) (boot : Kernel) (n : ℕ) → applies (flat_effects schedule boot n) boot ≡ flat schedule boot n
unfolding flat flat_effects
flat_is schedule boot zero = refl
flat_is schedule boot (suc n) = applies-append (flat_effects schedule boot n) _ boot ∙ ap (applies (turn schedule (suc n) (flat schedule boot n))) (flat_is schedule boot n)
