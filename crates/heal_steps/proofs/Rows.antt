-- Worked healings, by computation.
use Rattle.std.proofs.Common.{◌≡◌, [], ◌∷◌, None, Some, refl, true}
use Rattle.lego_base.specs.declared.ids.Pid.{Pid}
use Rattle.lego_base.specs.declared.ids.RegionNo.{RegionNo}
use Rattle.lego_msg.specs.Places.{memory}
use Rattle.lego_msg.specs.declared.body.Body.TheVariants.{Done, Drain, Drained, Images, PullMeta, PushImages, ResetImages}
use Rattle.lego_msg.specs.declared.healing.Move.TheVariants.{HandsImages, HandsPages}
use Rattle.lego_msg.specs.declared.place.Place.TheVariants.{Storage}
use Rattle.lego_msg.specs.declared.place.Role.TheVariants.{Spare}
use Rattle.heal_steps.specs.Steps.{begun, goes, step_of}
use Rattle.heal_steps.specs.declared.heal.HealMove.TheVariants.{Finished, Send, Wait}

abbrev pid : Pid
pid = record { 0 = 1 }

abbrev region : RegionNo
region = record { 0 = 5 }

-- memory 2 of 3 crashed: the first message is the drain at memory 0, its secondary
the_drain_is_first : step_of (begun 3 2 [] []) None ≡ Send (memory 0) Drain
the_drain_is_first = refl

-- then nothing goes out before its answer is there
an_answer_is_awaited : step_of (goes (begun 3 2 [] []) None) None ≡ Wait
an_answer_is_awaited = refl

-- then memory 0 is asked for what it keeps for memory 2
homes_come_next : step_of (goes (begun 3 2 [] []) None) (Some Drained) ≡ Send (memory 0) (PullMeta (record { 0 = 2 }) Spare)
homes_come_next = refl

-- images that storage gave go to the memory, and pages that memory 1 gave replace the images
images_go_to_the_memory : step_of (record { waits = true; moves = HandsImages (memory 2) pid region ∷ [] }) (Some (Images [])) ≡ Send (memory 2) (PushImages pid region [])
images_go_to_the_memory = refl

pages_go_to_storage : step_of (record { waits = true; moves = HandsPages pid region ∷ [] }) (Some (Images [])) ≡ Send Storage (ResetImages pid region [])
pages_go_to_storage = refl

-- once the last message is answered it is finished, and not before
finished_with_the_last_answer : step_of (record { waits = true; moves = [] }) (Some Done) ≡ Finished
finished_with_the_last_answer = refl

awaited_until_then : step_of (record { waits = true; moves = [] }) None ≡ Wait
awaited_until_then = refl
