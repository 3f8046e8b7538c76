-- More worked lists, by computation: files, a fork and the end of a space, the loss of an owner, askings for areas.
use Rattle.std.proofs.Common.{◌≡◌, [], ◌∷◌, ℕ, List, None, Option, Some, codes, drop, refl, slice_get}
use Rattle.lego_base.specs.Files.{file_bytes}
use Rattle.lego_base.specs.Keys.{find, key_at}
use Rattle.lego_base.specs.declared.ids.FileNo.{FileNo}
use Rattle.lego_base.specs.declared.ids.Pid.{Pid}
use Rattle.lego_base.specs.declared.records.Area.{Area}
use Rattle.lego_base.specs.declared.records.PageImage.{PageImage}
use Rattle.lego_msg.proofs.Coming.{played-is-legal}
use Rattle.lego_msg.proofs.Rows.{briefs, code_areas, complete, cpu0, crash_after, deliver, fill_marks, home, map_marks, mem, one_fill, other, pid1, region, send, turn, two}
use Rattle.lego_msg.specs.Legal.{Legal, May}
use Rattle.lego_msg.specs.Maps.{areas_at, page_key}
use Rattle.lego_msg.specs.Marks.{Call, Mark, Show, order}
use Rattle.lego_msg.specs.Next.{next, played}
use Rattle.lego_msg.specs.Places.{memory}
use Rattle.lego_msg.specs.Plain.{byte_at}
use Rattle.lego_msg.specs.Run.{run}
use Rattle.lego_msg.specs.State.{Mem}
use Rattle.lego_msg.specs.Track.{Track, start}
use Rattle.lego_msg.specs.declared.event.Event.{Event}
use Rattle.lego_msg.specs.declared.event.Event.TheVariants.{Out, Turn}
use Rattle.lego_msg.specs.declared.operation.Operation.TheVariants.{AsksAreas, AsksSize, Copies, CutsFile, Drains, Drops, MakesName, ReadsFile, SetsHome, Unmaps, WritesFile}
use Rattle.lego_msg.specs.declared.place.Place.TheVariants.{Manager, Storage}

-- FILES: a file is made and written, read twice, cut, and goes

abbrev pub file0 : FileNo
file0 = record { 0 = 0 }

abbrev pub file_marks : List Mark
file_marks =
    Show (Turn 0 (record { 0 = 0 }))
    ∷ Call (order Manager (MakesName (codes "f")))
    ∷ Call (order Manager (WritesFile file0 0 0 (codes "hi")))
    ∷ Call (order Manager (ReadsFile file0 0 0 2))
    ∷ Call (order Manager (ReadsFile file0 0 1 1))
    ∷ Call (order Manager (CutsFile file0 1))
    ∷ Call (order Manager (AsksSize file0))
    ∷ []

abbrev pub filing : Track
filing = start (two (0 ∷ []) []) file_marks

abbrev filed : Track
filed = run filing (played 60 filing)

-- the first read goes to storage, the second one is answered from the cache, and the cut goes to storage again
two_reads : drop 13 (briefs (played 60 filing)) ≡
    send 3 Manager (memory 0) (codes "FileRead")
    ∷ deliver 3 Manager (memory 0) (codes "FileRead")
    ∷ send 3 (memory 0) Storage (codes "BlockGet")
    ∷ deliver 3 (memory 0) Storage (codes "BlockGet")
    ∷ send 3 Storage (memory 0) (codes "BlockIs")
    ∷ deliver 3 Storage (memory 0) (codes "BlockIs")
    ∷ send 3 (memory 0) Manager (codes "FileBytes")
    ∷ deliver 3 (memory 0) Manager (codes "FileBytes")
    ∷ complete 3
    ∷ send 4 Manager (memory 0) (codes "FileRead")
    ∷ deliver 4 Manager (memory 0) (codes "FileRead")
    ∷ send 4 (memory 0) Manager (codes "FileBytes")
    ∷ deliver 4 (memory 0) Manager (codes "FileBytes")
    ∷ complete 4
    ∷ send 5 Manager (memory 0) (codes "FileCut")
    ∷ deliver 5 Manager (memory 0) (codes "FileCut")
    ∷ send 5 (memory 0) Storage (codes "BlockCut")
    ∷ deliver 5 (memory 0) Storage (codes "BlockCut")
    ∷ send 5 Storage Manager (codes "Done")
    ∷ deliver 5 Storage Manager (codes "Done")
    ∷ complete 5
    ∷ send 6 Manager Storage (codes "FileSize")
    ∷ deliver 6 Manager Storage (codes "FileSize")
    ∷ send 6 Storage Manager (codes "SizeIs")
    ∷ deliver 6 Storage Manager (codes "SizeIs")
    ∷ complete 6
    ∷ []
two_reads = refl

legal_files : Legal filing (played 60 filing)
legal_files = played-is-legal 60 filing refl

-- the file has one byte, at storage and in the plain map
stored_byte : file_bytes filed.disk.files.files 0 ≡ codes "h"
stored_byte = refl

one_byte : file_bytes filed.plain.files.files 0 ≡ codes "h"
one_byte = refl

-- A FORK, an unmapping and the end of a space: process 2 is the child of process 1

abbrev pub pid2 : Pid
pid2 = record { 0 = 2 }

abbrev pub fork_marks : List Mark → List Mark
fork_marks due =
    Call (record (order cpu0 (Drains (mem 1))) { owners = record { pid = pid2; region = region 0; owner = mem 0 } ∷ [] })
    ∷ Call (order cpu0 (SetsHome pid2 (region 0) (mem 0)))
    ∷ Call (order cpu0 (Copies pid1 pid2 (region 0 ∷ []) (mem 0)))
    ∷ due

abbrev pub unmap_marks : List Mark → List Mark
unmap_marks due = Call (order cpu0 (Drains (mem 1))) ∷ Call (order cpu0 (Unmaps pid1 (region 0) (record { 0 = 16 }) 1 [] (mem 0))) ∷ due

abbrev pub drop_marks : List Mark
drop_marks = Call (order cpu0 (Drains (mem 0))) ∷ Call (order cpu0 (Drains (mem 1))) ∷ Call (order cpu0 (Drops pid2)) ∷ []

abbrev pub begun_with : List Mark → Track
begun_with due = start (two (0 ∷ []) []) (map_marks (fill_marks 7 due))

abbrev ended_with : List Mark → Track
ended_with due = run (begun_with due) (played 150 (begun_with due))

-- the first byte of a page that a memory holds, where it holds it
abbrev byte_in : Option PageImage → Option ℕ
byte_in None = None
byte_in (Some p) = slice_get p.bytes 0

abbrev first_byte : Option Mem → ℕ → Option ℕ
first_byte None pid = None
first_byte (Some s) pid = byte_in (find page_key (key_at pid 16) s.pages)

abbrev image_byte : Track → ℕ → Option ℕ
image_byte t pid = byte_in (find page_key (key_at pid 16) t.disk.images)

abbrev lists_of : Option Mem → ℕ → List Area
lists_of None pid = []
lists_of (Some s) pid = areas_at s.main.areas pid 0

-- the child has the parent's page and areas: in the plain map, at the owner, and at storage
child_byte : byte_at (ended_with (fork_marks [])).plain 2 0x10000 ≡ 7
child_byte = refl

child_page : first_byte (slice_get (ended_with (fork_marks [])).mems 0) 2 ≡ Some 7
child_page = refl

child_image : image_byte (ended_with (fork_marks [])) 2 ≡ Some 7
child_image = refl

child_areas : lists_of (slice_get (ended_with (fork_marks [])).mems 0) 2 ≡ code_areas
child_areas = refl

-- the parent's page goes, and the child keeps its own
parent_unmapped : first_byte (slice_get (ended_with (fork_marks (unmap_marks []))).mems 0) 1 ≡ None
parent_unmapped = refl

parent_reads_zero : byte_at (ended_with (fork_marks (unmap_marks []))).plain 1 0x10000 ≡ 0
parent_reads_zero = refl

child_stays : image_byte (ended_with (fork_marks (unmap_marks []))) 2 ≡ Some 7
child_stays = refl

-- at the end of the child's space nothing of it is left, and its regions have no owner
abbrev over : Track
over = ended_with (fork_marks (unmap_marks drop_marks))

no_images : over.disk.images ≡ []
no_images = refl

owners_left : over.owners ≡ home 0 0 ∷ []
owners_left = refl

legal_fork : Legal (begun_with (fork_marks (unmap_marks drop_marks))) (played 150 (begun_with (fork_marks (unmap_marks drop_marks))))
legal_fork = played-is-legal 150 (begun_with (fork_marks (unmap_marks drop_marks))) refl

-- THE LOSS OF THE OWNER, after it wrote the page: storage and the secondary give it back

abbrev pub owner_lost : Track
owner_lost = one_fill (crash_after 10 0)

owner_healed : first_byte (slice_get (run owner_lost (played 150 owner_lost)).mems 0) 1 ≡ Some 7
owner_healed = refl

areas_healed : lists_of (slice_get (run owner_lost (played 150 owner_lost)).mems 0) 1 ≡ code_areas
areas_healed = refl

healing_ends : next (run owner_lost (played 150 owner_lost)) ≡ None
healing_ends = refl

legal_owner_lost : Legal owner_lost (played 150 owner_lost)
legal_owner_lost = played-is-legal 150 owner_lost refl

-- ASKINGS: the region's areas are asked for before the output

abbrev hello : Event
hello = Out 1 (codes "hi")

abbrev asking : Track
asking = start (two (0 ∷ []) []) (map_marks (Show (Turn 1 pid1) ∷ Call (order cpu0 (AsksAreas pid1 (region 0) (mem 0))) ∷ Show hello ∷ []))

asked : drop 19 (briefs (played 40 asking)) ≡
    turn 1
    ∷ send 3 cpu0 (memory 0) (codes "GetAreas")
    ∷ deliver 3 cpu0 (memory 0) (codes "GetAreas")
    ∷ send 3 (memory 0) cpu0 (codes "AreasAre")
    ∷ deliver 3 (memory 0) cpu0 (codes "AreasAre")
    ∷ complete 3
    ∷ other
    ∷ []
asked = refl

-- the output doesn't come before
not_before : May (run asking (played 20 asking)) hello → ⊥
not_before may = may.1
