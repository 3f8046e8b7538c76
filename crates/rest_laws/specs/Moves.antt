-- Laws of parts: how the cells that a component holds go from the old to the new.
use Rattle.std.specs.Prelude.{◌≡◌, ◌⊎◌, Bool, true}
use Rattle.lego_rest.specs.Parts.{Cell, Held, Holds}

-- each cell stays or becomes the new one
abbrev pub Moves : (part part' new : (c : Cell) → Held c) → Type 0
Moves part part' new = (c : Cell) → (part' c ≡ part c) ⊎ (part' c ≡ new c)

-- each cell becomes the new one, or stays where the old and the new agree: what a row of the message table does. A second
-- delivery does the same, so nothing more need be said of it.
abbrev pub Sets : (part part' old new : (c : Cell) → Held c) → Type 0
Sets part part' old new = (c : Cell) → (part' c ≡ new c) ⊎ ((part' c ≡ part c) × (old c ≡ new c))

-- what is set moves, and is the new one wherever each cell was the old or the new
abbrev pub SetsMove : Type 0
SetsMove = (part part' old new : (c : Cell) → Held c) → Sets part part' old new →
    Moves part part' new × (((c : Cell) → (part c ≡ old c) ⊎ (part c ≡ new c)) → (c : Cell) → part' c ≡ new c)

-- a part that moves holds old or new as before, and the new where it is due: where it was due before, or is the new now
abbrev pub HoldsMove : Type 0
HoldsMove = (due due' : Cell → Bool) (part part' old new : (c : Cell) → Held c) → Moves part part' new →
    ((c : Cell) → due' c ≡ true → (due c ≡ true) ⊎ (part' c ≡ new c)) → Holds due part old new → Holds due' part' old new
