-- Whom the messages of a row are from: the memory, or storage.
use Rattle.std.proofs.Common.{◌≡◌, ◌==◌, [], ◌∷◌, ◌++◌, ℕ, Bool, List, None, Option, Some, cond, drop, false, leb, length, ltb, map, refl, true}
use Rattle.std.specs.List.{AllByRecursion}
use Rattle.lego_base.specs.Files.{File, named}
use Rattle.lego_base.specs.declared.ids.FileNo.{FileNo}
use Rattle.lego_msg.specs.Files.{file_cut, file_written, is_file_room, is_room, made}
use Rattle.lego_msg.specs.Maps.{copied_areas, copied_pages, patched, with_pages}
use Rattle.lego_msg.specs.Places.{memory}
use Rattle.lego_msg.specs.State.{Disk, Mem, Waiter}
use Rattle.lego_msg.specs.Table.{answers, batch_gone, batched, block_in, drained, handled_body, made_name, read_block, reply, stored_body, within_blocks, within_frames}
use Rattle.lego_msg.specs.declared.body.Body.{Body}
use Rattle.lego_msg.specs.declared.body.Body.TheVariants.{AreasAre, BackedUp, Backup, BlockCut, BlockGet, BlockIs, BlockPut, CopySpace, Done, Drain, Drained, DropSpace, FileBytes, FileCut, FileFree, FileRead, FileSize, FileWrite, Find, GetAreas, ImageCopy, ImageDrop, ImageFree, Images, Line, LogFull, LogWrite, Meta, NameAll, NameCut, NameGet, NameIs, NameMake, Names, OwnerIs, PullImages, PullMeta, PullPages, PushImages, PushMeta, Read, Refused, ResetImages, SetAreas, SetHome, SizeIs, Unmap, Write, Wrote}
use Rattle.lego_msg.specs.declared.message.Message.{Message}
use Rattle.lego_msg.specs.declared.place.Place.{Place}
use Rattle.lego_msg.specs.declared.place.Role.TheVariants.{Main, Spare}
use Rattle.rest_laws.proofs.kinds.Logging.{by_rule, logging}
use Rattle.lego_msg.specs.declared.place.Place.TheVariants as place
use Rattle.lego_msg.specs.declared.place.Why.TheVariants as why

abbrev pub AllFrom : Place → List Message → Type 0
AllFrom p out = AllByRecursion (λ (r : Message). r.from ≡ p) out

within_from : (s changed : Mem) (m : Message) (told : Body) → changed.id ≡ s.id → AllFrom (memory s.id) (within_frames s changed m told).1
within_from s changed m told same = by (leb (length changed.pages) s.frames)
  where
    by : (b : Bool) → AllFrom (memory s.id) (cond {A = Mem × List Message} b (answers changed m told) (answers s m (Refused why.Full))).1
    by true = ((λ i. memory (same i)), tt)
    by false = (refl, tt)

ruled_from : (s : Mem) (out : List Message) → AllFrom (memory s.id) out → AllFrom (memory s.id) (batched s out).1
ruled_from s out all = by_rule (λ (p : Mem × List Message). AllFrom (memory s.id) p.1) s out (λ due. (refl, all)) (λ waits. all)

drained_from : (id : ℕ) (drains : List Waiter) → AllFrom (memory id) (map (drained id) drains)
drained_from id [] = tt
drained_from id (w ∷ drains) = (refl, drained_from id drains)

pub memory_sends : (s : Mem) (m : Message) (told : Body) → AllFrom (memory s.id) (handled_body s m told).1
memory_sends s m (Find pid region) = (refl, tt)
memory_sends s m (Read pid line) = (refl, tt)
memory_sends s m (Write patch) = within_from s (record s { pages = patched patch s.pages }) m Wrote refl
memory_sends s m (LogWrite patch) = by (ltb (length s.log) s.log_room)
  where
    by : (b : Bool) → AllFrom (memory s.id) (cond b (batched (logging s (s.log ++ patch ∷ []) s.out s.drains) (reply (memory s.id) m Wrote ∷ [])) (answers s m LogFull)).1
    by true = ruled_from (logging s (s.log ++ patch ∷ []) s.out s.drains) (reply (memory s.id) m Wrote ∷ []) (refl, tt)
    by false = (refl, tt)
memory_sends s m Drain = by (length s.log == 0)
  where
    by : (b : Bool) → AllFrom (memory s.id) (cond b (answers s m Drained) (batched (logging s s.log s.out (s.drains ++ record { place = m.from; op = m.op.0 } ∷ [])) [])).1
    by true = (refl, tt)
    by false = ruled_from (logging s s.log s.out (s.drains ++ record { place = m.from; op = m.op.0 } ∷ [])) [] tt
memory_sends s m BackedUp = by (s.out == 0)
  where
    under : (b : Bool) → AllFrom (memory s.id) (cond b (logging s (drop s.out s.log) 0 [], map (drained s.id) s.drains) (batched (logging s (drop s.out s.log) 0 s.drains) [])).1
    under true = drained_from s.id s.drains
    under false = ruled_from (logging s (drop s.out s.log) 0 s.drains) [] tt

    by : (b : Bool) → AllFrom (memory s.id) (cond b (s, []) (batch_gone (logging s (drop s.out s.log) 0 s.drains))).1
    by true = tt
    by false = under (length (drop s.out s.log) == 0)
memory_sends s m (SetHome pid region owner Main) = (refl, tt)
memory_sends s m (SetHome pid region owner Spare) = (refl, tt)
memory_sends s m (SetAreas pid region areas Main) = (refl, tt)
memory_sends s m (SetAreas pid region areas Spare) = (refl, tt)
memory_sends s m (GetAreas pid region) = (refl, tt)
memory_sends s m (Unmap pid region first pages areas Main) = (refl, tt)
memory_sends s m (Unmap pid region first pages areas Spare) = (refl, tt)
memory_sends s m (CopySpace parent child regions Main) = within_from s (record s { main = record { homes = s.main.homes; areas = copied_areas parent.0 child regions s.main.areas }; pages = copied_pages parent.0 child regions s.pages }) m Done refl
memory_sends s m (CopySpace parent child regions Spare) = (refl, tt)
memory_sends s m (DropSpace pid) = (refl, tt)
memory_sends s m (FileRead file block off len) = by (block_in file.0 block s.blocks)
  where
    by : (c : Option (List ℕ)) → AllFrom (memory s.id) (read_block c s m file block off len).1
    by None = (refl, tt)
    by (Some bytes) = (refl, tt)
memory_sends s m (BlockIs file block off len asker bytes) = (refl, tt)
memory_sends s m (FileWrite file block off bytes) = (refl, tt)
memory_sends s m (FileCut file size) = (refl, tt)
memory_sends s m (PullMeta of role) = (refl, tt)
memory_sends s m (PushMeta Main homes areas) = (refl, tt)
memory_sends s m (PushMeta Spare homes areas) = (refl, tt)
memory_sends s m (PullPages pid region) = (refl, tt)
memory_sends s m (PushImages pid region pages) = within_from s (record s { pages = with_pages pid.0 region.0 pages s.pages }) m Done refl
memory_sends s m (ImageDrop pid first pages) = tt
memory_sends s m (ImageCopy parent child regions) = tt
memory_sends s m (ImageFree pid) = tt
memory_sends s m (PullImages pid region) = tt
memory_sends s m (ResetImages pid region pages) = tt
memory_sends s m (FileSize file) = tt
memory_sends s m (NameGet name) = tt
memory_sends s m (NameMake name) = tt
memory_sends s m (NameCut name) = tt
memory_sends s m NameAll = tt
memory_sends s m (FileFree file) = tt
memory_sends s m (Backup patches) = tt
memory_sends s m (BlockGet file block off len asker) = tt
memory_sends s m (BlockPut file block off bytes asker) = tt
memory_sends s m (BlockCut file size asker) = tt
memory_sends s m (OwnerIs owner) = tt
memory_sends s m (Line perms bytes) = tt
memory_sends s m LogFull = tt
memory_sends s m Drained = tt
memory_sends s m Wrote = tt
memory_sends s m Done = tt
memory_sends s m (AreasAre areas) = tt
memory_sends s m (FileBytes bytes) = tt
memory_sends s m (SizeIs size) = tt
memory_sends s m (NameIs file) = tt
memory_sends s m (Names names) = tt
memory_sends s m (Meta homes areas) = tt
memory_sends s m (Images pages) = tt
memory_sends s m (Refused reason) = tt

-- STORAGE
blocks_from : (d : Disk) (m : Message) (asker : Place) (files : List File) (told : Body) → AllFrom place.Storage (within_blocks d m asker files told).1
blocks_from d m asker files told = by (is_room d.files files)
  where
    by : (b : Bool) → AllFrom place.Storage (cond {A = Disk × List Message} b (record d { files = record d.files { files = files } }, record { from = place.Storage; to = asker; op = m.op; body = told } ∷ []) (d, record { from = place.Storage; to = asker; op = m.op; body = Refused why.StoreFull } ∷ [])).1
    by true = (refl, tt)
    by false = (refl, tt)

named_from : (found : Option FileNo) (d : Disk) (m : Message) (name : List ℕ) → AllFrom place.Storage (made_name found d m name).1
named_from (Some file) d m name = (refl, tt)
named_from None d m name = by (is_file_room d.files)
  where
    by : (b : Bool) → AllFrom place.Storage (cond {A = Disk × List Message} b (record d { files = made d.files name }, reply place.Storage m (NameIs (Some (record { 0 = d.files.next }))) ∷ []) (d, reply place.Storage m (Refused why.NoRoom) ∷ [])).1
    by true = (refl, tt)
    by false = (refl, tt)

pub storage_sends : (d : Disk) (m : Message) (told : Body) → AllFrom place.Storage (stored_body d m told).1
storage_sends d m (Find pid region) = tt
storage_sends d m (Read pid line) = tt
storage_sends d m (Write patch) = tt
storage_sends d m (LogWrite patch) = tt
storage_sends d m Drain = tt
storage_sends d m BackedUp = tt
storage_sends d m (SetHome pid region owner role) = tt
storage_sends d m (SetAreas pid region areas role) = tt
storage_sends d m (GetAreas pid region) = tt
storage_sends d m (Unmap pid region first pages areas role) = tt
storage_sends d m (CopySpace parent child regions role) = tt
storage_sends d m (DropSpace pid) = tt
storage_sends d m (FileRead file block off len) = tt
storage_sends d m (BlockIs file block off len asker bytes) = tt
storage_sends d m (FileWrite file block off bytes) = tt
storage_sends d m (FileCut file size) = tt
storage_sends d m (PullMeta of role) = tt
storage_sends d m (PushMeta role homes areas) = tt
storage_sends d m (PullPages pid region) = tt
storage_sends d m (PushImages pid region pages) = tt
storage_sends d m (ImageDrop pid first pages) = (refl, tt)
storage_sends d m (ImageCopy parent child regions) = (refl, tt)
storage_sends d m (ImageFree pid) = (refl, tt)
storage_sends d m (PullImages pid region) = (refl, tt)
storage_sends d m (ResetImages pid region pages) = (refl, tt)
storage_sends d m (FileSize file) = (refl, tt)
storage_sends d m (NameGet name) = (refl, tt)
storage_sends d m (NameMake name) = named_from (named d.files.names name) d m name
storage_sends d m (NameCut name) = (refl, tt)
storage_sends d m NameAll = (refl, tt)
storage_sends d m (FileFree file) = (refl, tt)
storage_sends d m (Backup patches) = (refl, tt)
storage_sends d m (BlockGet file block off len asker) = (refl, tt)
storage_sends d m (BlockPut file block off bytes asker) = blocks_from d m asker (file_written d.files file.0 block off bytes) Wrote
storage_sends d m (BlockCut file size asker) = blocks_from d m asker (file_cut d.files file.0 size) Done
storage_sends d m (OwnerIs owner) = tt
storage_sends d m (Line perms bytes) = tt
storage_sends d m LogFull = tt
storage_sends d m Drained = tt
storage_sends d m Wrote = tt
storage_sends d m Done = tt
storage_sends d m (AreasAre areas) = tt
storage_sends d m (FileBytes bytes) = tt
storage_sends d m (SizeIs size) = tt
storage_sends d m (NameIs file) = tt
storage_sends d m (Names names) = tt
storage_sends d m (Meta homes areas) = tt
storage_sends d m (Images pages) = tt
storage_sends d m (Refused reason) = tt
