-- Which messages of the message table refuse, and why; and that no row changes a memory's frames.
use Rattle.std.proofs.Common.{◌≡◌, ◌⊎◌, ◌/◌, ◌<◌, ◌==◌, ◌||◌, [], ◌∷◌, ◌++◌, ℕ, Bool, List, None, Option, Some, ap, cond, drop, false, inl, inr, leb, length, ltb, map, refl, sym, true}
use Rattle.std.proofs.lemmas.Bool.{leb-false}
use Rattle.std.specs.List.{list_any}
use Rattle.lego_base.specs.Files.{named}
use Rattle.lego_base.specs.Space.{perms_of}
use Rattle.lego_base.specs.declared.ids.FileNo.{FileNo}
use Rattle.lego_base.specs.declared.perms.Perms.{Perms}
use Rattle.lego_base.specs.declared.records.PageImage.{PageImage}
use Rattle.lego_base.specs.declared.records.Patch.{Patch}
use Rattle.lego_msg.specs.Deliveries.{reaction_of, stops}
use Rattle.lego_msg.specs.Files.{file_cut, file_written, is_file_room, is_room, made}
use Rattle.lego_msg.specs.Maps.{areas_at, copied_areas, copied_pages, page_at, patched, with_pages}
use Rattle.lego_msg.specs.Places.{memory}
use Rattle.lego_msg.specs.State.{Disk, Kept, Mem, Waiter}
use Rattle.lego_msg.specs.Table.{answers, batch_gone, batched, block_in, drained, handled_body, line_answer, made_name, read_block, reply, says, stored_body, tells, within_frames}
use Rattle.lego_msg.specs.declared.body.Body.{Body}
use Rattle.lego_msg.specs.declared.body.Body.TheVariants.{AreasAre, BackedUp, Backup, BlockCut, BlockGet, BlockIs, BlockPut, CopySpace, Done, Drain, Drained, DropSpace, FileBytes, FileCut, FileFree, FileRead, FileSize, FileWrite, Find, GetAreas, ImageCopy, ImageDrop, ImageFree, Images, Line, LogFull, LogWrite, Meta, NameAll, NameCut, NameGet, NameIs, NameMake, Names, OwnerIs, PullImages, PullMeta, PullPages, PushImages, PushMeta, Read, Refused, ResetImages, SetAreas, SetHome, SizeIs, Unmap, Write, Wrote}
use Rattle.lego_msg.specs.declared.message.Message.{Message}
use Rattle.lego_msg.specs.declared.place.Role.TheVariants.{Main, Spare}
use Rattle.rest_laws.proofs.Following.{is_asked, is_filed}
use Rattle.rest_laws.proofs.Replied.{keeping}
use Rattle.rest_laws.proofs.kinds.Logging.{by_rule, logging}
use Rattle.lego_msg.specs.declared.place.Why.TheVariants as why

abbrev pub any_stops : List Message → Bool
any_stops out = list_any (λ (r : Message). stops r.body) out

-- the pages that a memory would hold after a message
abbrev pub Exceeds : Mem → Body → Type 0
Exceeds s (Write patch) = s.frames < length (patched patch s.pages)
Exceeds s (CopySpace parent child regions Main) = s.frames < length (copied_pages parent.0 child regions s.pages)
Exceeds s (PushImages pid region pages) = s.frames < length (with_pages pid.0 region.0 pages s.pages)
Exceeds s other = ⊥

within_refuses : {P : Type 0} (s : Mem) (main spare : Kept) (pages : List PageImage) (m : Message) (told : Body) → stops told ≡ false → (s.frames < length pages → P) → (any_stops (within_frames s (keeping s main spare pages) m told).1 ≡ false) ⊎ P
within_refuses {P} s main spare pages m told goes more = by (leb (length pages) s.frames) refl
  where
    by : (b : Bool) → leb (length pages) s.frames ≡ b → (any_stops (cond b (answers (keeping s main spare pages) m told) (answers s m (Refused why.Full))).1 ≡ false) ⊎ P
    by true e = inl (ap (λ (b : Bool). b || false) goes)
    by false e = inr (more (leb-false (length pages) s.frames e))

within_frames_same : (s : Mem) (main spare : Kept) (pages : List PageImage) (m : Message) (told : Body) → (within_frames s (keeping s main spare pages) m told).0.frames ≡ s.frames
within_frames_same s main spare pages m told = by (leb (length pages) s.frames)
  where
    by : (b : Bool) → (cond b (answers (keeping s main spare pages) m told) (answers s m (Refused why.Full))).0.frames ≡ s.frames
    by true = refl
    by false = refl

batched_goes : (s : Mem) (sent : List Message) → any_stops sent ≡ false → any_stops (batched s sent).1 ≡ false
batched_goes s sent none = by_rule (λ (p : Mem × List Message). any_stops p.1 ≡ false) s sent (λ due. none) (λ waits. none)

batched_frames : (s : Mem) (sent : List Message) → (batched s sent).0.frames ≡ s.frames
batched_frames s sent = by_rule (λ (p : Mem × List Message). p.0.frames ≡ s.frames) s sent (λ due. refl) (λ waits. refl)

drained_goes : (id : ℕ) (drains : List Waiter) → any_stops (map (drained id) drains) ≡ false
drained_goes id [] = refl
drained_goes id (w ∷ drains) = drained_goes id drains

pub row_refuses : (s : Mem) (m : Message) (told : Body) → (any_stops (handled_body s m told).1 ≡ false) ⊎ Exceeds s told
row_refuses s m (Find pid region) = inl refl
row_refuses s m (Read pid line) = inl (by (perms_of (areas_at s.main.areas pid.0 (line.0 / 32768)) (line.0 / 64)))
  where
    by : (perms : Option Perms) → (stops (line_answer perms (page_at s.pages pid.0 (line.0 / 64)) line.0) || false) ≡ false
    by None = refl
    by (Some perms) = refl
row_refuses s m (Write patch) = within_refuses s s.main s.spare (patched patch s.pages) m Wrote refl (λ more. more)
row_refuses s m (LogWrite patch) = inl (by (ltb (length s.log) s.log_room))
  where
    by : (b : Bool) → any_stops (cond b (batched (logging s (s.log ++ patch ∷ []) s.out s.drains) (reply (memory s.id) m Wrote ∷ [])) (answers s m LogFull)).1 ≡ false
    by true = batched_goes (logging s (s.log ++ patch ∷ []) s.out s.drains) (reply (memory s.id) m Wrote ∷ []) refl
    by false = refl
row_refuses s m Drain = inl (by (length s.log == 0))
  where
    by : (b : Bool) → any_stops (cond b (answers s m Drained) (batched (logging s s.log s.out (s.drains ++ record { place = m.from; op = m.op.0 } ∷ [])) [])).1 ≡ false
    by true = refl
    by false = batched_goes (logging s s.log s.out (s.drains ++ record { place = m.from; op = m.op.0 } ∷ [])) [] refl
row_refuses s m BackedUp = inl (by (s.out == 0))
  where
    under : (b : Bool) → any_stops (cond b (logging s (drop s.out s.log) 0 [], map (drained s.id) s.drains) (batched (logging s (drop s.out s.log) 0 s.drains) [])).1 ≡ false
    under true = drained_goes s.id s.drains
    under false = batched_goes (logging s (drop s.out s.log) 0 s.drains) [] refl

    by : (b : Bool) → any_stops (cond b (s, []) (batch_gone (logging s (drop s.out s.log) 0 s.drains))).1 ≡ false
    by true = refl
    by false = under (length (drop s.out s.log) == 0)
row_refuses s m (SetHome pid region owner Main) = inl refl
row_refuses s m (SetHome pid region owner Spare) = inl refl
row_refuses s m (SetAreas pid region areas Main) = inl refl
row_refuses s m (SetAreas pid region areas Spare) = inl refl
row_refuses s m (GetAreas pid region) = inl refl
row_refuses s m (Unmap pid region first pages areas Main) = inl refl
row_refuses s m (Unmap pid region first pages areas Spare) = inl refl
row_refuses s m (CopySpace parent child regions Main) = within_refuses s (record { homes = s.main.homes; areas = copied_areas parent.0 child regions s.main.areas }) s.spare (copied_pages parent.0 child regions s.pages) m Done refl (λ more. more)
row_refuses s m (CopySpace parent child regions Spare) = inl refl
row_refuses s m (DropSpace pid) = inl refl
row_refuses s m (FileRead file block off len) = inl (by (block_in file.0 block s.blocks))
  where
    by : (c : Option (List ℕ)) → any_stops (read_block c s m file block off len).1 ≡ false
    by None = refl
    by (Some bytes) = refl
row_refuses s m (BlockIs file block off len asker bytes) = inl refl
row_refuses s m (FileWrite file block off bytes) = inl refl
row_refuses s m (FileCut file size) = inl refl
row_refuses s m (PullMeta of role) = inl refl
row_refuses s m (PushMeta Main homes areas) = inl refl
row_refuses s m (PushMeta Spare homes areas) = inl refl
row_refuses s m (PullPages pid region) = inl refl
row_refuses s m (PushImages pid region pages) = within_refuses s s.main s.spare (with_pages pid.0 region.0 pages s.pages) m Done refl (λ more. more)
row_refuses s m (ImageDrop pid first pages) = inl refl
row_refuses s m (ImageCopy parent child regions) = inl refl
row_refuses s m (ImageFree pid) = inl refl
row_refuses s m (PullImages pid region) = inl refl
row_refuses s m (ResetImages pid region pages) = inl refl
row_refuses s m (FileSize file) = inl refl
row_refuses s m (NameGet name) = inl refl
row_refuses s m (NameMake name) = inl refl
row_refuses s m (NameCut name) = inl refl
row_refuses s m NameAll = inl refl
row_refuses s m (FileFree file) = inl refl
row_refuses s m (Backup patches) = inl refl
row_refuses s m (BlockGet file block off len asker) = inl refl
row_refuses s m (BlockPut file block off bytes asker) = inl refl
row_refuses s m (BlockCut file size asker) = inl refl
row_refuses s m (OwnerIs owner) = inl refl
row_refuses s m (Line perms bytes) = inl refl
row_refuses s m (Refused why) = inl refl
row_refuses s m Wrote = inl refl
row_refuses s m LogFull = inl refl
row_refuses s m Drained = inl refl
row_refuses s m Done = inl refl
row_refuses s m (AreasAre areas) = inl refl
row_refuses s m (FileBytes bytes) = inl refl
row_refuses s m (SizeIs size) = inl refl
row_refuses s m (NameIs file) = inl refl
row_refuses s m (Names list) = inl refl
row_refuses s m (Meta homes areas) = inl refl
row_refuses s m (Images pages) = inl refl

pub row_frames : (s : Mem) (m : Message) (told : Body) → (handled_body s m told).0.frames ≡ s.frames
row_frames s m (Find pid region) = refl
row_frames s m (Read pid line) = refl
row_frames s m (Write patch) = within_frames_same s s.main s.spare (patched patch s.pages) m Wrote
row_frames s m (LogWrite patch) = by (ltb (length s.log) s.log_room)
  where
    by : (b : Bool) → (cond b (batched (logging s (s.log ++ patch ∷ []) s.out s.drains) (reply (memory s.id) m Wrote ∷ [])) (answers s m LogFull)).0.frames ≡ s.frames
    by true = batched_frames (logging s (s.log ++ patch ∷ []) s.out s.drains) (reply (memory s.id) m Wrote ∷ [])
    by false = refl
row_frames s m Drain = by (length s.log == 0)
  where
    by : (b : Bool) → (cond b (answers s m Drained) (batched (logging s s.log s.out (s.drains ++ record { place = m.from; op = m.op.0 } ∷ [])) [])).0.frames ≡ s.frames
    by true = refl
    by false = batched_frames (logging s s.log s.out (s.drains ++ record { place = m.from; op = m.op.0 } ∷ [])) []
row_frames s m BackedUp = by (s.out == 0)
  where
    under : (b : Bool) → (cond b (logging s (drop s.out s.log) 0 [], map (drained s.id) s.drains) (batched (logging s (drop s.out s.log) 0 s.drains) [])).0.frames ≡ s.frames
    under true = refl
    under false = batched_frames (logging s (drop s.out s.log) 0 s.drains) []

    by : (b : Bool) → (cond b (s, []) (batch_gone (logging s (drop s.out s.log) 0 s.drains))).0.frames ≡ s.frames
    by true = refl
    by false = under (length (drop s.out s.log) == 0)
row_frames s m (SetHome pid region owner Main) = refl
row_frames s m (SetHome pid region owner Spare) = refl
row_frames s m (SetAreas pid region areas Main) = refl
row_frames s m (SetAreas pid region areas Spare) = refl
row_frames s m (GetAreas pid region) = refl
row_frames s m (Unmap pid region first pages areas Main) = refl
row_frames s m (Unmap pid region first pages areas Spare) = refl
row_frames s m (CopySpace parent child regions Main) = within_frames_same s (record { homes = s.main.homes; areas = copied_areas parent.0 child regions s.main.areas }) s.spare (copied_pages parent.0 child regions s.pages) m Done
row_frames s m (CopySpace parent child regions Spare) = refl
row_frames s m (DropSpace pid) = refl
row_frames s m (FileRead file block off len) = by (block_in file.0 block s.blocks)
  where
    by : (c : Option (List ℕ)) → (read_block c s m file block off len).0.frames ≡ s.frames
    by None = refl
    by (Some bytes) = refl
row_frames s m (BlockIs file block off len asker bytes) = refl
row_frames s m (FileWrite file block off bytes) = refl
row_frames s m (FileCut file size) = refl
row_frames s m (PullMeta of role) = refl
row_frames s m (PushMeta Main homes areas) = refl
row_frames s m (PushMeta Spare homes areas) = refl
row_frames s m (PullPages pid region) = refl
row_frames s m (PushImages pid region pages) = within_frames_same s s.main s.spare (with_pages pid.0 region.0 pages s.pages) m Done
row_frames s m (ImageDrop pid first pages) = refl
row_frames s m (ImageCopy parent child regions) = refl
row_frames s m (ImageFree pid) = refl
row_frames s m (PullImages pid region) = refl
row_frames s m (ResetImages pid region pages) = refl
row_frames s m (FileSize file) = refl
row_frames s m (NameGet name) = refl
row_frames s m (NameMake name) = refl
row_frames s m (NameCut name) = refl
row_frames s m NameAll = refl
row_frames s m (FileFree file) = refl
row_frames s m (Backup patches) = refl
row_frames s m (BlockGet file block off len asker) = refl
row_frames s m (BlockPut file block off bytes asker) = refl
row_frames s m (BlockCut file size asker) = refl
row_frames s m (OwnerIs owner) = refl
row_frames s m (Line perms bytes) = refl
row_frames s m (Refused why) = refl
row_frames s m Wrote = refl
row_frames s m LogFull = refl
row_frames s m Drained = refl
row_frames s m Done = refl
row_frames s m (AreasAre areas) = refl
row_frames s m (FileBytes bytes) = refl
row_frames s m (SizeIs size) = refl
row_frames s m (NameIs file) = refl
row_frames s m (Names list) = refl
row_frames s m (Meta homes areas) = refl
row_frames s m (Images pages) = refl

-- the files would need more blocks than there are
abbrev pub Overflows : Disk → Body → Type 0
Overflows d (BlockPut file block off bytes asker) = is_room d.files (file_written d.files file.0 block off bytes) ≡ false
Overflows d (BlockCut file size asker) = is_room d.files (file_cut d.files file.0 size) ≡ false
Overflows d other = ⊥

pub file_refuses : (d : Disk) (m : Message) (told : Body) → (any_stops (stored_body d m told).1 ≡ false) ⊎ Overflows d told
file_refuses d m (Find pid region) = inl refl
file_refuses d m (Read pid line) = inl refl
file_refuses d m (Write patch) = inl refl
file_refuses d m (LogWrite patch) = inl refl
file_refuses d m Drain = inl refl
file_refuses d m BackedUp = inl refl
file_refuses d m (SetHome pid region owner role) = inl refl
file_refuses d m (SetAreas pid region areas role) = inl refl
file_refuses d m (GetAreas pid region) = inl refl
file_refuses d m (Unmap pid region first pages areas role) = inl refl
file_refuses d m (CopySpace parent child regions role) = inl refl
file_refuses d m (DropSpace pid) = inl refl
file_refuses d m (FileRead file block off len) = inl refl
file_refuses d m (BlockIs file block off len asker bytes) = inl refl
file_refuses d m (FileWrite file block off bytes) = inl refl
file_refuses d m (FileCut file size) = inl refl
file_refuses d m (PullMeta of role) = inl refl
file_refuses d m (PushMeta Main homes areas) = inl refl
file_refuses d m (PushMeta Spare homes areas) = inl refl
file_refuses d m (PullPages pid region) = inl refl
file_refuses d m (PushImages pid region pages) = inl refl
file_refuses d m (ImageDrop pid first pages) = inl refl
file_refuses d m (ImageCopy parent child regions) = inl refl
file_refuses d m (ImageFree pid) = inl refl
file_refuses d m (PullImages pid region) = inl refl
file_refuses d m (ResetImages pid region pages) = inl refl
file_refuses d m (FileSize file) = inl refl
file_refuses d m (NameGet name) = inl refl
file_refuses d m (NameMake name) = inl (by (named d.files.names name) (is_file_room d.files))
  where
    room : (b : Bool) → any_stops (cond b (says (record d { files = made d.files name }) m (NameIs (Some (record { 0 = d.files.next })))) (says d m (Refused why.NoRoom))).1 ≡ false
    room true = refl
    room false = refl

    by : (c : Option FileNo) (b : Bool) → any_stops (made_name c d m name).1 ≡ false
    by (Some file) b = refl
    by None b = room (is_file_room d.files)
file_refuses d m (NameCut name) = inl refl
file_refuses d m NameAll = inl refl
file_refuses d m (FileFree file) = inl refl
file_refuses d m (Backup patches) = inl refl
file_refuses d m (BlockGet file block off len asker) = inl refl
file_refuses d m (BlockPut file block off bytes asker) = by (is_room d.files (file_written d.files file.0 block off bytes)) refl
  where
    by : (b : Bool) → is_room d.files (file_written d.files file.0 block off bytes) ≡ b → (any_stops (cond b (tells (record d { files = record d.files { files = file_written d.files file.0 block off bytes } }) m asker Wrote) (tells d m asker (Refused why.StoreFull))).1 ≡ false) ⊎ (is_room d.files (file_written d.files file.0 block off bytes) ≡ false)
    by true e = inl refl
    by false e = inr e
file_refuses d m (BlockCut file size asker) = by (is_room d.files (file_cut d.files file.0 size)) refl
  where
    by : (b : Bool) → is_room d.files (file_cut d.files file.0 size) ≡ b → (any_stops (cond b (tells (record d { files = record d.files { files = file_cut d.files file.0 size } }) m asker Done) (tells d m asker (Refused why.StoreFull))).1 ≡ false) ⊎ (is_room d.files (file_cut d.files file.0 size) ≡ false)
    by true e = inl refl
    by false e = inr e
file_refuses d m (OwnerIs owner) = inl refl
file_refuses d m (Line perms bytes) = inl refl
file_refuses d m (Refused why) = inl refl
file_refuses d m Wrote = inl refl
file_refuses d m LogFull = inl refl
file_refuses d m Drained = inl refl
file_refuses d m Done = inl refl
file_refuses d m (AreasAre areas) = inl refl
file_refuses d m (FileBytes bytes) = inl refl
file_refuses d m (SizeIs size) = inl refl
file_refuses d m (NameIs file) = inl refl
file_refuses d m (Names list) = inl refl
file_refuses d m (Meta homes areas) = inl refl
file_refuses d m (Images pages) = inl refl

-- what is asked doesn't refuse, and neither does what an issuer reacts with
pub asked_goes : (told : Body) → is_asked told ≡ true → stops told ≡ false
asked_goes (Find pid region) is = refl
asked_goes (Read pid line) is = refl
asked_goes (Write patch) is = refl
asked_goes (LogWrite patch) is = refl
asked_goes Drain is = refl
asked_goes BackedUp is = refl
asked_goes (SetHome pid region owner role) is = refl
asked_goes (SetAreas pid region areas role) is = refl
asked_goes (GetAreas pid region) is = refl
asked_goes (Unmap pid region first pages areas role) is = refl
asked_goes (CopySpace parent child regions role) is = refl
asked_goes (DropSpace pid) is = refl
asked_goes (FileRead file block off len) is = refl
asked_goes (BlockIs file block off len asker bytes) is = refl
asked_goes (FileWrite file block off bytes) is = refl
asked_goes (FileCut file size) is = refl
asked_goes (PullMeta of role) is = refl
asked_goes (PushMeta Main homes areas) is = refl
asked_goes (PushMeta Spare homes areas) is = refl
asked_goes (PullPages pid region) is = refl
asked_goes (PushImages pid region pages) is = refl
asked_goes (ImageDrop pid first pages) is = refl
asked_goes (ImageCopy parent child regions) is = refl
asked_goes (ImageFree pid) is = refl
asked_goes (PullImages pid region) is = refl
asked_goes (ResetImages pid region pages) is = refl
asked_goes (FileSize file) is = refl
asked_goes (NameGet name) is = refl
asked_goes (NameMake name) is = refl
asked_goes (NameCut name) is = refl
asked_goes NameAll is = refl
asked_goes (FileFree file) is = refl
asked_goes (Backup patches) is = refl
asked_goes (BlockGet file block off len asker) is = refl
asked_goes (BlockPut file block off bytes asker) is = refl
asked_goes (BlockCut file size asker) is = refl
asked_goes (OwnerIs owner) is = refl
asked_goes (Line perms bytes) is = refl
asked_goes (Refused why) is = cc is
asked_goes Wrote is = refl
asked_goes LogFull is = refl
asked_goes Drained is = refl
asked_goes Done is = refl
asked_goes (AreasAre areas) is = refl
asked_goes (FileBytes bytes) is = refl
asked_goes (SizeIs size) is = refl
asked_goes (NameIs file) is = refl
asked_goes (Names list) is = refl
asked_goes (Meta homes areas) is = refl
asked_goes (Images pages) is = refl

pub filed_goes : (told : Body) → is_filed told ≡ true → stops told ≡ false
filed_goes (Find pid region) is = refl
filed_goes (Read pid line) is = refl
filed_goes (Write patch) is = refl
filed_goes (LogWrite patch) is = refl
filed_goes Drain is = refl
filed_goes BackedUp is = refl
filed_goes (SetHome pid region owner role) is = refl
filed_goes (SetAreas pid region areas role) is = refl
filed_goes (GetAreas pid region) is = refl
filed_goes (Unmap pid region first pages areas role) is = refl
filed_goes (CopySpace parent child regions role) is = refl
filed_goes (DropSpace pid) is = refl
filed_goes (FileRead file block off len) is = refl
filed_goes (BlockIs file block off len asker bytes) is = refl
filed_goes (FileWrite file block off bytes) is = refl
filed_goes (FileCut file size) is = refl
filed_goes (PullMeta of role) is = refl
filed_goes (PushMeta Main homes areas) is = refl
filed_goes (PushMeta Spare homes areas) is = refl
filed_goes (PullPages pid region) is = refl
filed_goes (PushImages pid region pages) is = refl
filed_goes (ImageDrop pid first pages) is = refl
filed_goes (ImageCopy parent child regions) is = refl
filed_goes (ImageFree pid) is = refl
filed_goes (PullImages pid region) is = refl
filed_goes (ResetImages pid region pages) is = refl
filed_goes (FileSize file) is = refl
filed_goes (NameGet name) is = refl
filed_goes (NameMake name) is = refl
filed_goes (NameCut name) is = refl
filed_goes NameAll is = refl
filed_goes (FileFree file) is = refl
filed_goes (Backup patches) is = refl
filed_goes (BlockGet file block off len asker) is = refl
filed_goes (BlockPut file block off bytes asker) is = refl
filed_goes (BlockCut file size asker) is = refl
filed_goes (OwnerIs owner) is = refl
filed_goes (Line perms bytes) is = refl
filed_goes (Refused why) is = cc is
filed_goes Wrote is = refl
filed_goes LogFull is = refl
filed_goes Drained is = refl
filed_goes Done is = refl
filed_goes (AreasAre areas) is = refl
filed_goes (FileBytes bytes) is = refl
filed_goes (SizeIs size) is = refl
filed_goes (NameIs file) is = refl
filed_goes (Names list) is = refl
filed_goes (Meta homes areas) is = refl
filed_goes (Images pages) is = refl

same_body : (a b : Body) → Some a ≡ Some b → a ≡ b
same_body a b e = cc e

pub reaction_goes : (patch : Option Patch) (told what : Body) → reaction_of patch told ≡ Some what → stops what ≡ false
reaction_goes None told what e = cc e
reaction_goes (Some patch) (Find pid region) what e = cc e
reaction_goes (Some patch) (Read pid line) what e = cc e
reaction_goes (Some patch) (Write p) what e = cc e
reaction_goes (Some patch) (LogWrite p) what e = cc e
reaction_goes (Some patch) Drain what e = cc e
reaction_goes (Some patch) BackedUp what e = cc e
reaction_goes (Some patch) (SetHome pid region owner role) what e = cc e
reaction_goes (Some patch) (SetAreas pid region areas role) what e = cc e
reaction_goes (Some patch) (GetAreas pid region) what e = cc e
reaction_goes (Some patch) (Unmap pid region first pages areas role) what e = cc e
reaction_goes (Some patch) (CopySpace parent child regions role) what e = cc e
reaction_goes (Some patch) (DropSpace pid) what e = cc e
reaction_goes (Some patch) (FileRead file block off len) what e = cc e
reaction_goes (Some patch) (BlockIs file block off len asker bytes) what e = cc e
reaction_goes (Some patch) (FileWrite file block off bytes) what e = cc e
reaction_goes (Some patch) (FileCut file size) what e = cc e
reaction_goes (Some patch) (PullMeta of role) what e = cc e
reaction_goes (Some patch) (PushMeta Main homes areas) what e = cc e
reaction_goes (Some patch) (PushMeta Spare homes areas) what e = cc e
reaction_goes (Some patch) (PullPages pid region) what e = cc e
reaction_goes (Some patch) (PushImages pid region pages) what e = cc e
reaction_goes (Some patch) (ImageDrop pid first pages) what e = cc e
reaction_goes (Some patch) (ImageCopy parent child regions) what e = cc e
reaction_goes (Some patch) (ImageFree pid) what e = cc e
reaction_goes (Some patch) (PullImages pid region) what e = cc e
reaction_goes (Some patch) (ResetImages pid region pages) what e = cc e
reaction_goes (Some patch) (FileSize file) what e = cc e
reaction_goes (Some patch) (NameGet name) what e = cc e
reaction_goes (Some patch) (NameMake name) what e = cc e
reaction_goes (Some patch) (NameCut name) what e = cc e
reaction_goes (Some patch) NameAll what e = cc e
reaction_goes (Some patch) (FileFree file) what e = cc e
reaction_goes (Some patch) (Backup patches) what e = cc e
reaction_goes (Some patch) (BlockGet file block off len asker) what e = cc e
reaction_goes (Some patch) (BlockPut file block off bytes asker) what e = cc e
reaction_goes (Some patch) (BlockCut file size asker) what e = cc e
reaction_goes (Some patch) (OwnerIs owner) what e = cc e
reaction_goes (Some patch) (Line perms bytes) what e = cc e
reaction_goes (Some patch) (Refused why) what e = cc e
reaction_goes (Some patch) Wrote what e = cc e
reaction_goes (Some patch) LogFull what e = ap stops (sym (same_body Drain what e))
reaction_goes (Some patch) Drained what e = ap stops (sym (same_body (LogWrite patch) what e))
reaction_goes (Some patch) Done what e = cc e
reaction_goes (Some patch) (AreasAre areas) what e = cc e
reaction_goes (Some patch) (FileBytes bytes) what e = cc e
reaction_goes (Some patch) (SizeIs size) what e = cc e
reaction_goes (Some patch) (NameIs file) what e = cc e
reaction_goes (Some patch) (Names list) what e = cc e
reaction_goes (Some patch) (Meta homes areas) what e = cc e
reaction_goes (Some patch) (Images pages) what e = cc e
