-- The message table: what a component makes of a message, and what it sends, in order. One row a kind. A
-- kind without a row for its receiver changes nothing and sends nothing. An answer goes to the message's
-- sender with the same number.
use Rattle.std.specs.Prelude.{◌+◌, ◌*◌, ◌/◌, ◌%◌, ◌==◌, ◌&&◌, ◌||◌, if◌then◌else◌, [], ◌∷◌, ◌++◌, ℕ, Bool, List, None, Option, Some, drop, length, map, nat_le, nat_lt, take}
use Rattle.lego_base.specs.Files.{File, file_bytes, named}
use Rattle.lego_base.specs.Keys.{is_of, is_page_from, put, put_all, without}
use Rattle.lego_base.specs.Pieces.{piece}
use Rattle.lego_base.specs.Space.{perms_of}
use Rattle.lego_base.specs.declared.ids.FileNo.{FileNo}
use Rattle.lego_base.specs.declared.ids.Pid.{Pid}
use Rattle.lego_base.specs.declared.ids.RegionNo.{RegionNo}
use Rattle.lego_base.specs.declared.perms.Perms.{Perms}
use Rattle.lego_base.specs.declared.records.Area.{Area}
use Rattle.lego_base.specs.declared.records.HomeEntry.{HomeEntry}
use Rattle.lego_base.specs.declared.records.PageImage.{PageImage}
use Rattle.lego_base.specs.declared.records.Patch.{Patch}
use Rattle.lego_base.specs.declared.records.SpaceAreas.{SpaceAreas}
use Rattle.lego_msg.specs.Files.{block_of, file_cut, file_written, freed, is_file_room, is_room, made, unnamed}
use Rattle.lego_msg.specs.Maps.{areas_at, areas_key, copied_areas, copied_pages, home_key, overlaid, owner_of, page_at, page_key, pages_of, patched, with_all_areas, with_areas, with_pages}
use Rattle.lego_msg.specs.Places.{memory}
use Rattle.lego_msg.specs.State.{Block, Disk, Kept, Mem, Waiter, kept, with_kept}
use Rattle.lego_msg.specs.declared.body.Body.{Body}
use Rattle.lego_msg.specs.declared.body.Body.TheVariants.{AreasAre, BackedUp, Backup, BlockCut, BlockGet, BlockIs, BlockPut, CopySpace, Done, Drain, Drained, DropSpace, FileBytes, FileCut, FileFree, FileRead, FileSize, FileWrite, Find, GetAreas, ImageCopy, ImageDrop, ImageFree, Images, Line, LogFull, LogWrite, Meta, NameAll, NameCut, NameGet, NameIs, NameMake, Names, OwnerIs, PullImages, PullMeta, PullPages, PushImages, PushMeta, Read, Refused, ResetImages, SetAreas, SetHome, SizeIs, Unmap, Write, Wrote}
use Rattle.lego_msg.specs.declared.message.Message.{Message}
use Rattle.lego_msg.specs.declared.place.Place.{Place}
use Rattle.lego_msg.specs.declared.place.Role.{Role}
use Rattle.lego_msg.specs.declared.place.Role.TheVariants.{Main, Spare}
use Rattle.lego_msg.specs.declared.place.Why.TheVariants.{Full, NoArea, NoRoom, StoreFull}
use Rattle.lego_msg.specs.declared.place.Place.TheVariants as place

-- MEMORIES

-- the answer to a message, and nothing else
abbrev pub reply : Place → Message → Body → Message
reply me m body = record { from = me; to = m.from; op = m.op; body = body }

abbrev pub answers : Mem → Message → Body → Mem × List Message
answers s m body = (s, reply (memory s.id) m body ∷ [])

-- The log rule: a batch of the whole log goes to storage where no batch is out and the log, which isn't
-- empty, has half of its room filled, rounded up, or a drain waits.
abbrev pub is_batch_due : Mem → Bool
is_batch_due s = s.out == 0 && nat_lt 0 (length s.log) && (nat_le ((s.log_room + 1) / 2) (length s.log) || nat_lt 0 (length s.drains))

abbrev pub backup : Mem → Message
backup s = record { from = memory s.id; to = place.Storage; op = record { 0 = 0 }; body = Backup s.log }

-- the log rule, and then what is sent after the batch
abbrev pub batched : Mem → List Message → Mem × List Message
batched s after = if is_batch_due s then (record s { out = length s.log }, backup s ∷ after) else (s, after)

-- a change of pages, or the refusal where more pages would be present than there are frames
abbrev pub within_frames : Mem → Mem → Message → Body → Mem × List Message
within_frames s changed m body = if nat_le (length changed.pages) s.frames then answers changed m body else answers s m (Refused Full)

-- which memory owns a region?
abbrev pub find_row : Mem → Message → ℕ → ℕ → Mem × List Message
find_row s m pid region = answers s m (OwnerIs (owner_of s.main.homes pid region))

-- a line, where an area of its region has its page
abbrev pub line_answer : Option Perms → List ℕ → ℕ → Body
line_answer None page line = Refused NoArea
line_answer (Some perms) page line = Line perms (take 64 (drop (line % 64 * 64) page))

abbrev pub read_row : Mem → Message → ℕ → ℕ → Mem × List Message
read_row s m pid line = answers s m (line_answer (perms_of (areas_at s.main.areas pid (line / 32768)) (line / 64)) (page_at s.pages pid (line / 64)) line)

-- the page is written
abbrev pub write_row : Mem → Message → Patch → Mem × List Message
write_row s m patch = within_frames s (record s { pages = patched patch s.pages }) m Wrote

-- the patch goes to the end of the log, where it has room
abbrev pub log_row : Mem → Message → Patch → Mem × List Message
log_row s m patch = if nat_lt (length s.log) s.log_room then batched (record s { log = s.log ++ patch ∷ [] }) (reply (memory s.id) m Wrote ∷ []) else answers s m LogFull

-- an empty log is drained; else the drain waits
abbrev pub drain_row : Mem → Message → Mem × List Message
drain_row s m = if length s.log == 0 then answers s m Drained else batched (record s { drains = s.drains ++ record { place = m.from; op = m.op.0 } ∷ [] }) []

abbrev pub drained : ℕ → Waiter → Message
drained id w = record { from = memory id; to = w.place; op = record { 0 = w.op }; body = Drained }

-- once a batch was removed: all waiting drains are answered where the log is empty
abbrev pub batch_gone : Mem → Mem × List Message
batch_gone s = if length s.log == 0 then (record s { drains = [] }, map (drained s.id) s.drains) else batched s []

-- the batch that was out is removed
abbrev pub backed_up_row : Mem → Mem × List Message
backed_up_row s = if s.out == 0 then (s, []) else batch_gone (record s { log = drop s.out s.log; out = 0 })

abbrev pub with_home : Kept → HomeEntry → Kept
with_home k e = record k { homes = put home_key e k.homes }

-- a region's owner is set
abbrev pub set_home_row : Mem → Message → HomeEntry → Role → Mem × List Message
set_home_row s m e role = answers (with_kept s role (with_home (kept s role) e)) m Done

-- the list of a region
abbrev pub areas_set : Mem → Role → Pid → RegionNo → List Area → Mem
areas_set s role pid region areas = with_kept s role (record (kept s role) { areas = with_areas pid region areas (kept s role).areas })

abbrev pub set_areas_row : Mem → Message → Pid → RegionNo → List Area → Role → Mem × List Message
set_areas_row s m pid region areas role = answers (areas_set s role pid region areas) m Done

abbrev pub get_areas_row : Mem → Message → ℕ → ℕ → Mem × List Message
get_areas_row s m pid region = answers s m (AreasAre (areas_at s.main.areas pid region))

-- the list is set, and the memory for whose own sake it is drops the pages
abbrev pub pages_dropped : Mem → Role → ℕ → ℕ → ℕ → Mem
pages_dropped s Main pid first pages = record s { pages = without page_key (is_page_from pid first pages) s.pages }
pages_dropped s Spare pid first pages = s

abbrev pub unmap_row : Mem → Message → Pid → RegionNo → ℕ → ℕ → List Area → Role → Mem × List Message
unmap_row s m pid region first pages areas role = answers (pages_dropped (areas_set s role pid region areas) role pid.0 first pages) m Done

-- the child's lists become the parent's, and the pages of the memory for whose own sake it is
abbrev pub areas_copied : Mem → Role → Pid → Pid → List RegionNo → Mem
areas_copied s role parent child regions = with_kept s role (record (kept s role) { areas = copied_areas parent.0 child regions (kept s role).areas })

abbrev pub copy_row : Mem → Message → Pid → Pid → List RegionNo → Role → Mem × List Message
copy_row s m parent child regions Main = within_frames s (record (areas_copied s Main parent child regions) { pages = copied_pages parent.0 child regions s.pages }) m Done
copy_row s m parent child regions Spare = answers (areas_copied s Spare parent child regions) m Done

-- entries, lists and pages of the process are dropped in both roles
abbrev pub kept_without : ℕ → Kept → Kept
kept_without pid k = record { homes = without home_key (is_of pid) k.homes; areas = without areas_key (is_of pid) k.areas }

abbrev pub drop_row : Mem → Message → ℕ → Mem × List Message
drop_row s m pid = answers (record s { main = kept_without pid s.main; spare = kept_without pid s.spare; pages = without page_key (is_of pid) s.pages }) m Done

-- blocks: whether one is the block that is named
abbrev pub is_block : ℕ → ℕ → Block → Bool
is_block file block b = b.file == file && b.block == block

abbrev pub block_in : ℕ → ℕ → List Block → Option (List ℕ)
block_in file block [] = None
block_in file block (b ∷ blocks) = if is_block file block b then Some b.bytes else block_in file block blocks

abbrev pub without_block : ℕ → ℕ → List Block → List Block
without_block file block [] = []
without_block file block (b ∷ blocks) = if is_block file block b then without_block file block blocks else b ∷ without_block file block blocks

abbrev pub without_blocks : ℕ → List Block → List Block
without_blocks file [] = []
without_blocks file (b ∷ blocks) = if b.file == file then without_blocks file blocks else b ∷ without_blocks file blocks

-- the block stands first; where there are too many, the last ones go
abbrev pub with_block : Mem → ℕ → ℕ → List ℕ → Mem
with_block s file block bytes = record s { blocks = take s.cache_room (record { file = file; block = block; bytes = bytes } ∷ without_block file block s.blocks) }

-- what a memory sends on behalf of who asked
abbrev pub asks_storage : Mem → Message → Body → Mem × List Message
asks_storage s m body = (s, record { from = memory s.id; to = place.Storage; op = m.op; body = body } ∷ [])

-- a cached block answers, and stands first then; else storage is asked for it
abbrev pub read_block : Option (List ℕ) → Mem → Message → FileNo → ℕ → ℕ → ℕ → Mem × List Message
read_block (Some bytes) s m file block off len = answers (with_block s file.0 block bytes) m (FileBytes (piece bytes off len))
read_block None s m file block off len = asks_storage s m (BlockGet file block off len m.from)

abbrev pub file_read_row : Mem → Message → FileNo → ℕ → ℕ → ℕ → Mem × List Message
file_read_row s m file block off len = read_block (block_in file.0 block s.blocks) s m file block off len

-- the block is cached, and the asker gets its bytes
abbrev pub block_is_row : Mem → Message → ℕ → ℕ → ℕ → ℕ → Place → List ℕ → Mem × List Message
block_is_row s m file block off len asker bytes = (with_block s file block bytes, record { from = memory s.id; to = asker; op = m.op; body = FileBytes (piece bytes off len) } ∷ [])

-- the cached block goes, and storage is asked to write
abbrev pub file_write_row : Mem → Message → FileNo → ℕ → ℕ → List ℕ → Mem × List Message
file_write_row s m file block off bytes = asks_storage (record s { blocks = without_block file.0 block s.blocks }) m (BlockPut file block off bytes m.from)

-- the file's cached blocks go, and storage is asked to set the size
abbrev pub file_cut_row : Mem → Message → FileNo → ℕ → Mem × List Message
file_cut_row s m file size = asks_storage (record s { blocks = without_blocks file.0 s.blocks }) m (BlockCut file size m.from)

-- what is kept in a role is given, or becomes this
abbrev pub pull_meta_row : Mem → Message → Role → Mem × List Message
pull_meta_row s m role = answers s m (Meta (kept s role).homes (kept s role).areas)

abbrev pub push_meta_row : Mem → Message → Role → List HomeEntry → List SpaceAreas → Mem × List Message
push_meta_row s m role homes areas = answers (with_kept s role (record { homes = put_all home_key homes []; areas = with_all_areas areas [] })) m Done

-- the pages of a region are given, or become these
abbrev pub pull_pages_row : Mem → Message → ℕ → ℕ → Mem × List Message
pull_pages_row s m pid region = answers s m (Images (pages_of pid region s.pages))

abbrev pub push_images_row : Mem → Message → ℕ → ℕ → List PageImage → Mem × List Message
push_images_row s m pid region pages = within_frames s (record s { pages = with_pages pid region pages s.pages }) m Done

-- what a memory makes of a message, and what it sends
abbrev pub handled_body : Mem → Message → Body → Mem × List Message
handled_body s m (Find pid region) = find_row s m pid.0 region.0
handled_body s m (Read pid line) = read_row s m pid.0 line.0
handled_body s m (Write patch) = write_row s m patch
handled_body s m (LogWrite patch) = log_row s m patch
handled_body s m Drain = drain_row s m
handled_body s m BackedUp = backed_up_row s
handled_body s m (SetHome pid region owner role) = set_home_row s m (record { pid = pid; region = region; owner = owner }) role
handled_body s m (SetAreas pid region areas role) = set_areas_row s m pid region areas role
handled_body s m (GetAreas pid region) = get_areas_row s m pid.0 region.0
handled_body s m (Unmap pid region first pages areas role) = unmap_row s m pid region first.0 pages areas role
handled_body s m (CopySpace parent child regions role) = copy_row s m parent child regions role
handled_body s m (DropSpace pid) = drop_row s m pid.0
handled_body s m (FileRead file block off len) = file_read_row s m file block off len
handled_body s m (BlockIs file block off len asker bytes) = block_is_row s m file.0 block off len asker bytes
handled_body s m (FileWrite file block off bytes) = file_write_row s m file block off bytes
handled_body s m (FileCut file size) = file_cut_row s m file size
handled_body s m (PullMeta of role) = pull_meta_row s m role
handled_body s m (PushMeta role homes areas) = push_meta_row s m role homes areas
handled_body s m (PullPages pid region) = pull_pages_row s m pid.0 region.0
handled_body s m (PushImages pid region pages) = push_images_row s m pid.0 region.0 pages
handled_body s m other = (s, [])

abbrev pub handled : Mem → Message → Mem × List Message
handled s m = handled_body s m m.body

-- STORAGE

abbrev pub says : Disk → Message → Body → Disk × List Message
says d m body = (d, reply place.Storage m body ∷ [])

-- what storage tells who asked, past the memory that sent the message
abbrev pub tells : Disk → Message → Place → Body → Disk × List Message
tells d m asker body = (d, record { from = place.Storage; to = asker; op = m.op; body = body } ∷ [])

-- the batch is laid over the images
abbrev pub backup_row : Disk → Message → List Patch → Disk × List Message
backup_row d m patches = says (record d { images = overlaid patches d.images }) m BackedUp

-- images are dropped, copied, freed, given and set
abbrev pub image_drop_row : Disk → Message → ℕ → ℕ → ℕ → Disk × List Message
image_drop_row d m pid first pages = says (record d { images = without page_key (is_page_from pid first pages) d.images }) m Done

abbrev pub image_copy_row : Disk → Message → ℕ → Pid → List RegionNo → Disk × List Message
image_copy_row d m parent child regions = says (record d { images = copied_pages parent child regions d.images }) m Done

abbrev pub image_free_row : Disk → Message → ℕ → Disk × List Message
image_free_row d m pid = says (record d { images = without page_key (is_of pid) d.images }) m Done

abbrev pub pull_images_row : Disk → Message → ℕ → ℕ → Disk × List Message
pull_images_row d m pid region = says d m (Images (pages_of pid region d.images))

abbrev pub reset_images_row : Disk → Message → ℕ → ℕ → List PageImage → Disk × List Message
reset_images_row d m pid region pages = says (record d { images = with_pages pid region pages d.images }) m Done

-- a block is given, written, or the size is set; the files may not need more blocks than storage has
abbrev pub block_get_row : Disk → Message → FileNo → ℕ → ℕ → ℕ → Place → Disk × List Message
block_get_row d m file block off len asker = says d m (BlockIs file block off len asker (block_of (file_bytes d.files.files file.0) block))

abbrev pub within_blocks : Disk → Message → Place → List File → Body → Disk × List Message
within_blocks d m asker files body = if is_room d.files files then tells (record d { files = record d.files { files = files } }) m asker body else tells d m asker (Refused StoreFull)

abbrev pub block_put_row : Disk → Message → ℕ → ℕ → ℕ → List ℕ → Place → Disk × List Message
block_put_row d m file block off bytes asker = within_blocks d m asker (file_written d.files file block off bytes) Wrote

abbrev pub block_cut_row : Disk → Message → ℕ → ℕ → Place → Disk × List Message
block_cut_row d m file size asker = within_blocks d m asker (file_cut d.files file size) Done

abbrev pub file_size_row : Disk → Message → ℕ → Disk × List Message
file_size_row d m file = says d m (SizeIs (length (file_bytes d.files.files file)))

-- names are looked up, made, removed and listed
abbrev pub name_get_row : Disk → Message → List ℕ → Disk × List Message
name_get_row d m name = says d m (NameIs (named d.files.names name))

abbrev pub made_name : Option FileNo → Disk → Message → List ℕ → Disk × List Message
made_name (Some file) d m name = says d m (NameIs (Some file))
made_name None d m name = if is_file_room d.files then says (record d { files = made d.files name }) m (NameIs (Some (record { 0 = d.files.next }))) else says d m (Refused NoRoom)

abbrev pub name_make_row : Disk → Message → List ℕ → Disk × List Message
name_make_row d m name = made_name (named d.files.names name) d m name

abbrev pub name_cut_row : Disk → Message → List ℕ → Disk × List Message
name_cut_row d m name = says (record d { files = unnamed d.files name }) m Done

abbrev pub name_all_row : Disk → Message → Disk × List Message
name_all_row d m = says d m (Names d.files.names)

-- a file without a name is removed
abbrev pub file_free_row : Disk → Message → ℕ → Disk × List Message
file_free_row d m file = says (record d { files = freed d.files file }) m Done

-- what storage makes of a message, and what it sends
abbrev pub stored_body : Disk → Message → Body → Disk × List Message
stored_body d m (Backup patches) = backup_row d m patches
stored_body d m (ImageDrop pid first pages) = image_drop_row d m pid.0 first.0 pages
stored_body d m (ImageCopy parent child regions) = image_copy_row d m parent.0 child regions
stored_body d m (ImageFree pid) = image_free_row d m pid.0
stored_body d m (PullImages pid region) = pull_images_row d m pid.0 region.0
stored_body d m (ResetImages pid region pages) = reset_images_row d m pid.0 region.0 pages
stored_body d m (BlockGet file block off len asker) = block_get_row d m file block off len asker
stored_body d m (BlockPut file block off bytes asker) = block_put_row d m file.0 block off bytes asker
stored_body d m (BlockCut file size asker) = block_cut_row d m file.0 size asker
stored_body d m (FileSize file) = file_size_row d m file.0
stored_body d m (NameGet name) = name_get_row d m name
stored_body d m (NameMake name) = name_make_row d m name
stored_body d m (NameCut name) = name_cut_row d m name
stored_body d m NameAll = name_all_row d m
stored_body d m (FileFree file) = file_free_row d m file.0
stored_body d m other = (d, [])

abbrev pub stored : Disk → Message → Disk × List Message
stored d m = stored_body d m m.body
