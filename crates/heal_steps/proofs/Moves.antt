-- Laws of healing.
use Rattle.std.proofs.Common.{◌≡◌, ◌++◌, [], ◌∷◌, ◌∙◌, ℕ, List, None, Some, ap, append_assoc, false, map, refl, true}
use Rattle.lego_base.specs.declared.ids.MemId.{MemId}
use Rattle.lego_base.specs.declared.ids.Pid.{Pid}
use Rattle.lego_base.specs.declared.ids.RegionNo.{RegionNo}
use Rattle.lego_base.specs.declared.records.HomeEntry.{HomeEntry}
use Rattle.lego_msg.specs.Healing.{images_anew, images_back}
use Rattle.lego_msg.specs.Maps.{owned_by}
use Rattle.lego_msg.specs.Operations.{ask}
use Rattle.lego_msg.specs.Places.{guarded_by, memory, secondary_of}
use Rattle.lego_msg.specs.declared.body.Body.{Body}
use Rattle.lego_msg.specs.declared.body.Body.TheVariants.{Drain, PullImages, PullMeta, PullPages}
use Rattle.lego_msg.specs.declared.healing.Move.{Move}
use Rattle.lego_msg.specs.declared.healing.Move.TheVariants.{Asks, HandsImages, HandsMeta, HandsPages}
use Rattle.lego_msg.specs.declared.place.Place.TheVariants.{Storage}
use Rattle.lego_msg.specs.declared.place.Role.TheVariants.{Main, Spare}
use Rattle.heal_steps.specs.Laws.{AreAnswers, MovesAreThoseOfHealing, MovesGoOutInOrder, messages_along, regions_of, space_in, steps_along}
use Rattle.heal_steps.specs.Steps.{entries_of, message_of}
use Rattle.heal_steps.specs.declared.heal.HealMove.{HealMove}

-- only regions matter, and not who is written down as their owner
back : (c : ℕ) (owner : MemId) (homes : List HomeEntry) → images_back c (entries_of owner (map space_in homes)) ≡ images_back c homes
back c owner [] = refl
back c owner (e ∷ homes) = ap (λ (ms : List Move). Asks Storage (PullImages e.pid e.region) ∷ HandsImages (memory c) e.pid e.region ∷ ms) (back c owner homes)

anew : (q : ℕ) (owner : MemId) (homes : List HomeEntry) → images_anew q (entries_of owner (map space_in homes)) ≡ images_anew q homes
anew q owner [] = refl
anew q owner (e ∷ homes) = ap (λ (ms : List Move). Asks (memory q) (PullPages e.pid e.region) ∷ HandsPages e.pid e.region ∷ ms) (anew q owner homes)

pub moves-are-those-of-healing : MovesAreThoseOfHealing
moves-are-those-of-healing n c owners =
    let between : List Move = Asks (memory (guarded_by n c)) (PullMeta (record { 0 = guarded_by n c }) Main) ∷ HandsMeta (memory c) Spare ∷ [] in
    let first : List Move → List Move = λ ms. Asks (memory (secondary_of n c)) Drain ∷ Asks (memory (secondary_of n c)) (PullMeta (record { 0 = c }) Spare) ∷ HandsMeta (memory c) Main ∷ ms in
    ap first
    ((λ i. back c (record { 0 = c }) (owned_by c owners) i ++ between ++ anew (guarded_by n c) (record { 0 = guarded_by n c }) (owned_by (guarded_by n c) owners) i)
    ∙ append_assoc (images_back c (owned_by c owners)) between (images_anew (guarded_by n c) (owned_by (guarded_by n c) owners)))

rest : (moves : List Move) (got : Body) (answers : List Body) → AreAnswers moves answers → steps_along (record { waits = true; moves = moves }) (Some got) answers ≡ messages_along moves (Some got) answers
rest [] got [] fit = refl
rest [] got (answer ∷ answers) fit = absurd fit
rest (move ∷ moves) got [] fit = refl
rest (move ∷ moves) got (answer ∷ answers) fit = ap (λ (ms : List HealMove). message_of move (Some got) ∷ ms) (rest moves answer answers fit)

pub moves-go-out-in-order : MovesGoOutInOrder
moves-go-out-in-order [] [] fit = refl
moves-go-out-in-order [] (answer ∷ answers) fit = absurd fit
moves-go-out-in-order (move ∷ moves) [] fit = refl
moves-go-out-in-order (move ∷ moves) (answer ∷ answers) fit = ap (λ (ms : List HealMove). message_of move None ∷ ms) (rest moves answer answers fit)
