-- What a reader may ask of healing.
use Rattle.std.specs.Prelude.{◌≡◌, [], ◌∷◌, ℕ, List, None, Option, Some, false, map}
use Rattle.lego_base.specs.declared.ids.Pid.{Pid}
use Rattle.lego_base.specs.declared.ids.RegionNo.{RegionNo}
use Rattle.lego_base.specs.declared.records.HomeEntry.{HomeEntry}
use Rattle.lego_msg.specs.Healing.{moves_of}
use Rattle.lego_msg.specs.Maps.{owned_by}
use Rattle.lego_msg.specs.Places.{guarded_by}
use Rattle.lego_msg.specs.declared.body.Body.{Body}
use Rattle.lego_msg.specs.declared.healing.Move.{Move}
use Rattle.heal_steps.specs.Healing.{Healing}
use Rattle.heal_steps.specs.Steps.{goes, message_of, moves_for, step_of}
use Rattle.heal_steps.specs.declared.heal.HealMove.{HealMove}
use Rattle.heal_steps.specs.declared.heal.HealMove.TheVariants.{Finished}

-- the regions of entries
abbrev pub space_in : HomeEntry → Pid × RegionNo
space_in e = (e.pid, e.region)

abbrev pub regions_of : ℕ → List HomeEntry → List (Pid × RegionNo)
regions_of memory owners = map space_in (owned_by memory owners)

-- With the regions that c owns and those of the memory whose secondary c is, the moves are those of c's healing.
abbrev pub MovesAreThoseOfHealing : Type 0
MovesAreThoseOfHealing = (n c : ℕ) (owners : List HomeEntry) →
    moves_for n c (regions_of c owners) (regions_of (guarded_by n c) owners) ≡ moves_of n c owners

-- what a healing does, given answers one after the other
abbrev pub steps_along : Healing → Option Body → List Body → List HealMove
steps_along h got [] = step_of h got ∷ []
steps_along h got (answer ∷ answers) = step_of h got ∷ steps_along (goes h got) (Some answer) answers

-- the messages of moves, each with the answer of the one before it, as far as there are answers; then it is finished
abbrev pub messages_along : List Move → Option Body → List Body → List HealMove
messages_along [] got answers = Finished ∷ []
messages_along (move ∷ moves) got [] = message_of move got ∷ []
messages_along (move ∷ moves) got (answer ∷ answers) = message_of move got ∷ messages_along moves (Some answer) answers

-- an answer for each of some moves, and for no more
abbrev pub AreAnswers : List Move → List Body → Type 0
AreAnswers moves [] = Unit {0}
AreAnswers [] (answer ∷ answers) = ⊥
AreAnswers (move ∷ moves) (answer ∷ answers) = AreAnswers moves answers

-- Given one answer after another, the messages go out in the order of the moves; then the healing is finished.
abbrev pub MovesGoOutInOrder : Type 0
MovesGoOutInOrder = (moves : List Move) (answers : List Body) → AreAnswers moves answers →
    steps_along (record { waits = false; moves = moves }) None answers ≡ messages_along moves None answers
