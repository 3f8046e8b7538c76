-- Healing: what the manager does after the crash of a memory c, one message at a time, and each move's
-- answer is there before the next move begins. Let s be the secondary of c, and q the memory whose secondary
-- c is.
use Rattle.std.specs.Prelude.{[], ◌∷◌, ◌++◌, ℕ, List, Option, Some}
use Rattle.lego_base.specs.declared.records.HomeEntry.{HomeEntry}
use Rattle.lego_base.specs.declared.records.PageImage.{PageImage}
use Rattle.lego_base.specs.declared.records.SpaceAreas.{SpaceAreas}
use Rattle.lego_msg.specs.Maps.{owned_by}
use Rattle.lego_msg.specs.Operations.{Ask, ask}
use Rattle.lego_msg.specs.Places.{guarded_by, memory, secondary_of}
use Rattle.lego_msg.specs.declared.body.Body.{Body}
use Rattle.lego_msg.specs.declared.body.Body.TheVariants.{Drain, Images, Meta, PullImages, PullMeta, PullPages, PushImages, PushMeta, ResetImages}
use Rattle.lego_msg.specs.declared.healing.Move.{Move}
use Rattle.lego_msg.specs.declared.healing.Move.TheVariants.{Asks, HandsImages, HandsMeta, HandsPages}
use Rattle.lego_msg.specs.declared.place.Role.TheVariants.{Main, Spare}
use Rattle.lego_msg.specs.declared.place.Place.TheVariants as place

-- per region of c, rising: its images from storage to c
abbrev pub images_back : ℕ → List HomeEntry → List Move
images_back c [] = []
images_back c (e ∷ homes) = Asks place.Storage (PullImages e.pid e.region) ∷ HandsImages (memory c) e.pid e.region ∷ images_back c homes

-- per region of q, rising: its pages, which replace the images at storage
abbrev pub images_anew : ℕ → List HomeEntry → List Move
images_anew q [] = []
images_anew q (e ∷ homes) = Asks (memory q) (PullPages e.pid e.region) ∷ HandsPages e.pid e.region ∷ images_anew q homes

-- all moves, with n memories and the owners of all regions
abbrev pub moves_of : ℕ → ℕ → List HomeEntry → List Move
moves_of n c owners =
    Asks (memory (secondary_of n c)) Drain
    ∷ Asks (memory (secondary_of n c)) (PullMeta (record { 0 = c }) Spare)
    ∷ HandsMeta (memory c) Main
    ∷ images_back c (owned_by c owners)
    ++ Asks (memory (guarded_by n c)) (PullMeta (record { 0 = guarded_by n c }) Main)
    ∷ HandsMeta (memory c) Spare
    ∷ images_anew (guarded_by n c) (owned_by (guarded_by n c) owners)

abbrev pub homes_in : Option Body → List HomeEntry
homes_in (Some (Meta homes areas)) = homes
homes_in other = []

abbrev pub lists_in : Option Body → List SpaceAreas
lists_in (Some (Meta homes areas)) = areas
lists_in other = []

abbrev pub pages_in : Option Body → List PageImage
pages_in (Some (Images pages)) = pages
pages_in other = []

-- the message of a move, with the answer that the move before it got
abbrev pub ask_of : Move → Option Body → Ask
ask_of (Asks to body) got = ask to body
ask_of (HandsMeta to role) got = ask to (PushMeta role (homes_in got) (lists_in got))
ask_of (HandsImages to pid region) got = ask to (PushImages pid region (pages_in got))
ask_of (HandsPages pid region) got = ask place.Storage (ResetImages pid region (pages_in got))
