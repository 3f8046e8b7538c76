-- Parts that move from the old to the new.
use Rattle.std.proofs.Common.{◌≡◌, ◌⊎◌, ◌∙◌, inl, inr, true}
use Rattle.lego_rest.proofs.Resting.{holds}
use Rattle.lego_rest.specs.Parts.{Cell}
use Rattle.rest_laws.specs.Moves.{HoldsMove, Moves, SetsMove}

pub sets-move : SetsMove
sets-move part part' old new sets = (moves, become)
  where
    moves : Moves part part' new
    moves c = by (sets c)
      where
        by : (part' c ≡ new c) ⊎ ((part' c ≡ part c) × (old c ≡ new c)) → (part' c ≡ part c) ⊎ (part' c ≡ new c)
        by (inl e) = inr e
        by (inr e) = inl e.0

    become : ((c : Cell) → (part c ≡ old c) ⊎ (part c ≡ new c)) → (c : Cell) → part' c ≡ new c
    become either c = by (sets c) (either c)
      where
        by : (part' c ≡ new c) ⊎ ((part' c ≡ part c) × (old c ≡ new c)) → (part c ≡ old c) ⊎ (part c ≡ new c) → part' c ≡ new c
        by (inl e) was = e
        by (inr e) (inl was) = e.0 ∙ was ∙ e.1
        by (inr e) (inr was) = e.0 ∙ was

pub holds-move : HoldsMove
holds-move due due' part part' old new moves later holds = record { either = either; told = told }
  where
    either : (c : Cell) → (part' c ≡ old c) ⊎ (part' c ≡ new c)
    either c = by (moves c) (holds.either c)
      where
        by : (part' c ≡ part c) ⊎ (part' c ≡ new c) → (part c ≡ old c) ⊎ (part c ≡ new c) → (part' c ≡ old c) ⊎ (part' c ≡ new c)
        by (inr e) was = inr e
        by (inl e) (inl was) = inl (e ∙ was)
        by (inl e) (inr was) = inr (e ∙ was)

    told : (c : Cell) → due' c ≡ true → part' c ≡ new c
    told c is = by (later c is) (moves c)
      where
        by : (due c ≡ true) ⊎ (part' c ≡ new c) → (part' c ≡ part c) ⊎ (part' c ≡ new c) → part' c ≡ new c
        by (inr e) moved = e
        by (inl before) (inr e) = e
        by (inl before) (inl e) = e ∙ holds.told c before
