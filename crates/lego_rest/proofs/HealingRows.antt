-- Worked moments of a healing, by computation.
use Rattle.std.proofs.Common.{◌≡◌, [], ◌∷◌, ℕ, List, None, Option, Some, ap, false, refl, slice_get, true}
use Rattle.lego_base.specs.declared.ids.Pid.{Pid}
use Rattle.lego_base.specs.declared.records.PageImage.{PageImage}
use Rattle.lego_base.specs.declared.records.Patch.{Patch}
use Rattle.lego_msg.proofs.Rows.{byte_patch, crash_after, cpu0, fill_marks, map_marks, mem, pid1, region, two}
use Rattle.lego_msg.specs.Files.{no_files}
use Rattle.lego_msg.specs.Maps.{page_in}
use Rattle.lego_msg.specs.Next.{played}
use Rattle.lego_msg.specs.Places.{memory}
use Rattle.lego_msg.specs.Run.{run}
use Rattle.lego_msg.specs.State.{Disk, Mem, empty_mem}
use Rattle.lego_msg.specs.Table.{stored}
use Rattle.lego_msg.specs.Track.{Track, is_pending, opened, start}
use Rattle.lego_msg.specs.declared.message.Message.{Message}
use Rattle.lego_msg.specs.declared.operation.Operation.TheVariants.{Copies}
use Rattle.lego_msg.specs.declared.place.Place.TheVariants.{Manager, Storage}
use Rattle.lego_rest.specs.Answers.{all_pending}
use Rattle.lego_rest.specs.Heals.{IsDrainedFor, count_drains, is_undone, open_clear, open_patch}
use Rattle.lego_msg.specs.declared.body.Body.TheVariants as body
use Rattle.lego_msg.specs.declared.place.Why.TheVariants as why

-- A DRAIN THAT WAITS. The owner is lost while its second write is open; the secondary's log still has the first one, whose
-- batch is on its way, so that the healing's first move, operation 5, waits there.

abbrev struck : Track
struck = run (start (two (2519 ∷ []) (crash_after 13 0)) (map_marks (fill_marks 7 (fill_marks 8 [])))) (played 38 (start (two (2519 ∷ []) (crash_after 13 0)) (map_marks (fill_marks 7 (fill_marks 8 [])))))

waits : count_drains 5 struck.mems ≡ 1
waits = refl

-- no message of it is pending
none_on_its_way : is_pending 5 (all_pending struck) ≡ false
none_on_its_way = refl

-- and yet it hasn't done its part: the log has a patch that isn't the open write's
abbrev log_at : Option Mem → List Patch
log_at None = []
log_at (Some s) = s.log

first_is_left : log_at (slice_get struck.mems 1) ≡ byte_patch 7 ∷ []
first_is_left = refl

second_is_open : open_patch struck.current ≡ Some (byte_patch 8)
second_is_open = refl

not_drained : IsDrainedFor (Some (byte_patch 8)) (byte_patch 7 ∷ []) → ⊥
not_drained drained =
    let same : 8 ∷ [] ≡ 7 ∷ [] = ap bytes_in drained.0 in
    cc same
  where
    bytes_in : Option Patch → List ℕ
    bytes_in None = []
    bytes_in (Some p) = p.bytes

waits_undone : is_undone 5 (all_pending struck) struck.mems ≡ true
waits_undone = refl

-- A REFUSAL: the memory didn't take what was handed over, though the answer is on its way
abbrev refusal : Message
refusal = record { from = memory 0; to = Manager; op = record { 0 = 9 }; body = body.Refused why.Full }

refused_undone : is_undone 9 (refusal ∷ []) (empty_mem 0 64 1 1 1 ∷ []) ≡ true
refused_undone = refl

answered_done : is_undone 9 (record refusal { body = body.Done } ∷ []) (empty_mem 0 64 1 1 1 ∷ []) ≡ false
answered_done = refl

-- IMAGES THAT ARE COPIED while the log over them is lost: the child's image becomes the parent's, whatever that is. So the
-- parent's must be whole then, before the healing has handed it over; it is, since a copy asks that no log has a patch of it.
abbrev pid2 : Pid
pid2 = record { 0 = 2 }

abbrev parent_image : PageImage
parent_image = record { pid = pid1; vpn = record { 0 = 16 }; bytes = 9 ∷ [] }

abbrev images_of_parent : Disk
images_of_parent = record { images = parent_image ∷ []; files = no_files 16 }

abbrev image_copy : Message
image_copy = record { from = cpu0; to = Storage; op = record { 0 = 5 }; body = body.ImageCopy pid1 pid2 (region 0 ∷ []) }

child_gets_it : page_in (stored images_of_parent image_copy).0.images 2 16 ≡ Some (9 ∷ [])
child_gets_it = refl

parent_is_clear : open_clear (Some (opened (two [] []) 5 cpu0 (Copies pid1 pid2 (region 0 ∷ []) (mem 0)))) 1 16 ≡ true
parent_is_clear = refl

unopened_clear : open_clear None 1 16 ≡ false
unopened_clear = refl
