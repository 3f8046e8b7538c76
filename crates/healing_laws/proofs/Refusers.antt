-- Who refuses so that the run stops, and in which words: a memory that is full, or storage.
use Rattle.std.proofs.Common.{◌≡◌, ◌||◌, [], ◌∷◌, ℕ, Bool, List, cond, false, inl, inr, leb, length, refl, true}
use Rattle.std.specs.List.{AllByRecursion}
use Rattle.lego_base.specs.Files.{File}
use Rattle.lego_msg.specs.Deliveries.{stops}
use Rattle.lego_msg.specs.Files.{file_cut, file_written, is_room}
use Rattle.lego_msg.specs.Maps.{copied_areas, copied_pages, patched, with_pages}
use Rattle.lego_msg.specs.Places.{memory}
use Rattle.lego_msg.specs.State.{Disk, Mem}
use Rattle.lego_msg.specs.Table.{handled, handled_body, stored, stored_body, within_blocks, within_frames}
use Rattle.lego_msg.specs.declared.body.Body.{Body}
use Rattle.lego_msg.specs.declared.body.Body.TheVariants.{AreasAre, BackedUp, Backup, BlockCut, BlockGet, BlockIs, BlockPut, CopySpace, Done, Drain, Drained, DropSpace, FileBytes, FileCut, FileFree, FileRead, FileSize, FileWrite, Find, GetAreas, ImageCopy, ImageDrop, ImageFree, Images, Line, LogFull, LogWrite, Meta, NameAll, NameCut, NameGet, NameIs, NameMake, Names, OwnerIs, PullImages, PullMeta, PullPages, PushImages, PushMeta, Read, Refused, ResetImages, SetAreas, SetHome, SizeIs, Unmap, Write, Wrote}
use Rattle.lego_msg.specs.declared.message.Message.{Message}
use Rattle.lego_msg.specs.declared.place.Place.{Place}
use Rattle.lego_msg.specs.declared.place.Role.TheVariants.{Main, Spare}
use Rattle.rest_laws.proofs.Refusing.{Exceeds, Overflows, any_stops, file_refuses, row_refuses}
use Rattle.lego_msg.specs.declared.place.Place.TheVariants as place
use Rattle.lego_msg.specs.declared.place.Why.TheVariants as why

never : (b : Bool) → b ≡ false → b ≡ true → ⊥
never true e f = cc e
never false e f = cc f

-- what doesn't refuse needs no cause
pub all_quiet : (P : Message → Type 0) → (out : List Message) → any_stops out ≡ false → AllByRecursion (λ (r : Message). stops r.body ≡ true → P r) out
all_quiet P [] none = tt
all_quiet P (r ∷ out) none = by (stops r.body) refl none (all_quiet P out)
  where
    by : (b : Bool) → stops r.body ≡ b → (b || any_stops out) ≡ false → (any_stops out ≡ false → AllByRecursion (λ (x : Message). stops x.body ≡ true → P x) out) → (stops r.body ≡ true → P r) × AllByRecursion (λ (x : Message). stops x.body ≡ true → P x) out
    by true e none more = cc none
    by false e none more = (λ stop. absurd (never (stops r.body) e stop), more none)

-- A MEMORY
abbrev pub MemoryRefuses : ℕ → Message → Type 0
MemoryRefuses k r = (r.from ≡ memory k) × (r.body ≡ Refused why.Full)

within_from : (s changed : Mem) (m : Message) (told : Body) → stops told ≡ false → AllByRecursion (λ (r : Message). stops r.body ≡ true → MemoryRefuses s.id r) (within_frames s changed m told).1
within_from s changed m told goes = by (leb (length changed.pages) s.frames)
  where
    by : (b : Bool) → AllByRecursion (λ (r : Message). stops r.body ≡ true → MemoryRefuses s.id r) (cond {A = Mem × List Message} b (changed, record { from = memory changed.id; to = m.from; op = m.op; body = told } ∷ []) (s, record { from = memory s.id; to = m.from; op = m.op; body = Refused why.Full } ∷ [])).1
    by true = (λ stop. absurd (never (stops told) goes stop), tt)
    by false = (λ stop. (refl, refl), tt)

exceeding_from : (s : Mem) (m : Message) (told : Body) → Exceeds s told → AllByRecursion (λ (r : Message). stops r.body ≡ true → MemoryRefuses s.id r) (handled_body s m told).1
exceeding_from s m (Find pid region) more = absurd more
exceeding_from s m (Read pid line) more = absurd more
exceeding_from s m (Write patch) more = within_from s (record s { pages = patched patch s.pages }) m Wrote refl
exceeding_from s m (LogWrite patch) more = absurd more
exceeding_from s m Drain more = absurd more
exceeding_from s m BackedUp more = absurd more
exceeding_from s m (SetHome pid region owner role) more = absurd more
exceeding_from s m (SetAreas pid region areas role) more = absurd more
exceeding_from s m (GetAreas pid region) more = absurd more
exceeding_from s m (Unmap pid region first pages areas role) more = absurd more
exceeding_from s m (CopySpace parent child regions Main) more = within_from s (record s { main = record { homes = s.main.homes; areas = copied_areas parent.0 child regions s.main.areas }; pages = copied_pages parent.0 child regions s.pages }) m Done refl
exceeding_from s m (CopySpace parent child regions Spare) more = absurd more
exceeding_from s m (DropSpace pid) more = absurd more
exceeding_from s m (FileRead file block off len) more = absurd more
exceeding_from s m (BlockIs file block off len asker bytes) more = absurd more
exceeding_from s m (FileWrite file block off bytes) more = absurd more
exceeding_from s m (FileCut file size) more = absurd more
exceeding_from s m (PullMeta of role) more = absurd more
exceeding_from s m (PushMeta role homes areas) more = absurd more
exceeding_from s m (PullPages pid region) more = absurd more
exceeding_from s m (PushImages pid region pages) more = within_from s (record s { pages = with_pages pid.0 region.0 pages s.pages }) m Done refl
exceeding_from s m (ImageDrop pid first pages) more = absurd more
exceeding_from s m (ImageCopy parent child regions) more = absurd more
exceeding_from s m (ImageFree pid) more = absurd more
exceeding_from s m (PullImages pid region) more = absurd more
exceeding_from s m (ResetImages pid region pages) more = absurd more
exceeding_from s m (FileSize file) more = absurd more
exceeding_from s m (NameGet name) more = absurd more
exceeding_from s m (NameMake name) more = absurd more
exceeding_from s m (NameCut name) more = absurd more
exceeding_from s m NameAll more = absurd more
exceeding_from s m (FileFree file) more = absurd more
exceeding_from s m (Backup patches) more = absurd more
exceeding_from s m (BlockGet file block off len asker) more = absurd more
exceeding_from s m (BlockPut file block off bytes asker) more = absurd more
exceeding_from s m (BlockCut file size asker) more = absurd more
exceeding_from s m (OwnerIs owner) more = absurd more
exceeding_from s m (Line perms bytes) more = absurd more
exceeding_from s m LogFull more = absurd more
exceeding_from s m Drained more = absurd more
exceeding_from s m Wrote more = absurd more
exceeding_from s m Done more = absurd more
exceeding_from s m (AreasAre areas) more = absurd more
exceeding_from s m (FileBytes bytes) more = absurd more
exceeding_from s m (SizeIs size) more = absurd more
exceeding_from s m (NameIs file) more = absurd more
exceeding_from s m (Names names) more = absurd more
exceeding_from s m (Meta homes areas) more = absurd more
exceeding_from s m (Images pages) more = absurd more
exceeding_from s m (Refused reason) more = absurd more

pub memory_from : (s : Mem) (m : Message) → AllByRecursion (λ (r : Message). stops r.body ≡ true → MemoryRefuses s.id r) (handled s m).1
memory_from s m = elim (row_refuses s m m.body) [
  | inl none ↦ all_quiet (MemoryRefuses s.id) (handled s m).1 none
  | inr more ↦ exceeding_from s m m.body more
]

-- STORAGE
abbrev pub StorageRefuses : Message → Type 0
StorageRefuses r = (r.from ≡ place.Storage) × (r.body ≡ Refused why.StoreFull)

blocks_from : (d : Disk) (m : Message) (asker : Place) (files : List File) (told : Body) → stops told ≡ false → AllByRecursion (λ (r : Message). stops r.body ≡ true → StorageRefuses r) (within_blocks d m asker files told).1
blocks_from d m asker files told goes = by (is_room d.files files)
  where
    by : (b : Bool) → AllByRecursion (λ (r : Message). stops r.body ≡ true → StorageRefuses r) (cond {A = Disk × List Message} b (record d { files = record d.files { files = files } }, record { from = place.Storage; to = asker; op = m.op; body = told } ∷ []) (d, record { from = place.Storage; to = asker; op = m.op; body = Refused why.StoreFull } ∷ [])).1
    by true = (λ stop. absurd (never (stops told) goes stop), tt)
    by false = (λ stop. (refl, refl), tt)

overflowing_from : (d : Disk) (m : Message) (told : Body) → Overflows d told → AllByRecursion (λ (r : Message). stops r.body ≡ true → StorageRefuses r) (stored_body d m told).1
overflowing_from d m (Find pid region) more = absurd more
overflowing_from d m (Read pid line) more = absurd more
overflowing_from d m (Write patch) more = absurd more
overflowing_from d m (LogWrite patch) more = absurd more
overflowing_from d m Drain more = absurd more
overflowing_from d m BackedUp more = absurd more
overflowing_from d m (SetHome pid region owner role) more = absurd more
overflowing_from d m (SetAreas pid region areas role) more = absurd more
overflowing_from d m (GetAreas pid region) more = absurd more
overflowing_from d m (Unmap pid region first pages areas role) more = absurd more
overflowing_from d m (CopySpace parent child regions role) more = absurd more
overflowing_from d m (DropSpace pid) more = absurd more
overflowing_from d m (FileRead file block off len) more = absurd more
overflowing_from d m (BlockIs file block off len asker bytes) more = absurd more
overflowing_from d m (FileWrite file block off bytes) more = absurd more
overflowing_from d m (FileCut file size) more = absurd more
overflowing_from d m (PullMeta of role) more = absurd more
overflowing_from d m (PushMeta role homes areas) more = absurd more
overflowing_from d m (PullPages pid region) more = absurd more
overflowing_from d m (PushImages pid region pages) more = absurd more
overflowing_from d m (ImageDrop pid first pages) more = absurd more
overflowing_from d m (ImageCopy parent child regions) more = absurd more
overflowing_from d m (ImageFree pid) more = absurd more
overflowing_from d m (PullImages pid region) more = absurd more
overflowing_from d m (ResetImages pid region pages) more = absurd more
overflowing_from d m (FileSize file) more = absurd more
overflowing_from d m (NameGet name) more = absurd more
overflowing_from d m (NameMake name) more = absurd more
overflowing_from d m (NameCut name) more = absurd more
overflowing_from d m NameAll more = absurd more
overflowing_from d m (FileFree file) more = absurd more
overflowing_from d m (Backup patches) more = absurd more
overflowing_from d m (BlockGet file block off len asker) more = absurd more
overflowing_from d m (BlockPut file block off bytes asker) more = blocks_from d m asker (file_written d.files file.0 block off bytes) Wrote refl
overflowing_from d m (BlockCut file size asker) more = blocks_from d m asker (file_cut d.files file.0 size) Done refl
overflowing_from d m (OwnerIs owner) more = absurd more
overflowing_from d m (Line perms bytes) more = absurd more
overflowing_from d m LogFull more = absurd more
overflowing_from d m Drained more = absurd more
overflowing_from d m Wrote more = absurd more
overflowing_from d m Done more = absurd more
overflowing_from d m (AreasAre areas) more = absurd more
overflowing_from d m (FileBytes bytes) more = absurd more
overflowing_from d m (SizeIs size) more = absurd more
overflowing_from d m (NameIs file) more = absurd more
overflowing_from d m (Names names) more = absurd more
overflowing_from d m (Meta homes areas) more = absurd more
overflowing_from d m (Images pages) more = absurd more
overflowing_from d m (Refused reason) more = absurd more

pub storage_from : (d : Disk) (m : Message) → AllByRecursion (λ (r : Message). stops r.body ≡ true → StorageRefuses r) (stored d m).1
storage_from d m = elim (file_refuses d m m.body) [
  | inl none ↦ all_quiet StorageRefuses (stored d m).1 none
  | inr more ↦ overflowing_from d m m.body more
]
