-- What storage's row of the message table sends has the number of the message.
use Rattle.std.proofs.Common.{◌≡◌, Bool, List, None, Option, Some, cond, false, refl, true}
use Rattle.std.specs.List.{AllByRecursion}
use Rattle.lego_base.specs.declared.ids.FileNo.{FileNo}
use Rattle.lego_base.specs.Files.{File, named}
use Rattle.lego_msg.specs.State.{Disk}
use Rattle.lego_msg.specs.Files.{file_cut, file_written, is_file_room, is_room, made}
use Rattle.lego_msg.specs.declared.place.Place.{Place}
use Rattle.lego_msg.specs.Table.{made_name, says, stored, stored_body, tells, within_blocks}
use Rattle.lego_msg.specs.declared.body.Body.{Body}
use Rattle.lego_msg.specs.declared.body.Body.TheVariants.{AreasAre, BackedUp, Backup, BlockCut, BlockGet, BlockIs, BlockPut, CopySpace, Done, Drain, Drained, DropSpace, FileBytes, FileCut, FileFree, FileRead, FileSize, FileWrite, Find, GetAreas, ImageCopy, ImageDrop, ImageFree, Images, Line, LogFull, LogWrite, Meta, NameAll, NameCut, NameGet, NameIs, NameMake, Names, OwnerIs, PullImages, PullMeta, PullPages, PushImages, PushMeta, Read, Refused, ResetImages, SetAreas, SetHome, SizeIs, Unmap, Write, Wrote}
use Rattle.lego_msg.specs.declared.message.Message.{Message}
use Rattle.lego_msg.specs.declared.place.Why.TheVariants as why

either_numbers : (m : Message) (b : Bool) (x y : Disk × List Message) → AllByRecursion (λ (r : Message). r.op.0 ≡ m.op.0) x.1 → AllByRecursion (λ (r : Message). r.op.0 ≡ m.op.0) y.1 → AllByRecursion (λ (r : Message). r.op.0 ≡ m.op.0) (cond b x y).1
either_numbers m true x y one other = one
either_numbers m false x y one other = other

-- one message with its number
one_number : (m : Message) → (m.op.0 ≡ m.op.0) × Unit {0}
one_number m = (refl, tt)

within : (d : Disk) (m : Message) (asker : Place) (files : List File) (told : Body) → AllByRecursion (λ (r : Message). r.op.0 ≡ m.op.0) (within_blocks d m asker files told).1
within d m asker files told = either_numbers m (is_room d.files files) (tells (record d { files = record d.files { files = files } }) m asker told) (tells d m asker (Refused why.StoreFull)) (one_number m) (one_number m)

numbers_body : (d : Disk) (m : Message) (told : Body) → AllByRecursion (λ (r : Message). r.op.0 ≡ m.op.0) (stored_body d m told).1
numbers_body d m (Find pid region) = tt
numbers_body d m (Read pid line) = tt
numbers_body d m (Write patch) = tt
numbers_body d m (LogWrite patch) = tt
numbers_body d m Drain = tt
numbers_body d m BackedUp = tt
numbers_body d m (SetHome pid region owner role) = tt
numbers_body d m (SetAreas pid region areas role) = tt
numbers_body d m (GetAreas pid region) = tt
numbers_body d m (Unmap pid region first pages areas role) = tt
numbers_body d m (CopySpace parent child regions role) = tt
numbers_body d m (DropSpace pid) = tt
numbers_body d m (FileRead file block off len) = tt
numbers_body d m (BlockIs file block off len asker bytes) = tt
numbers_body d m (FileWrite file block off bytes) = tt
numbers_body d m (FileCut file size) = tt
numbers_body d m (PullMeta of role) = tt
numbers_body d m (PushMeta role homes areas) = tt
numbers_body d m (PullPages pid region) = tt
numbers_body d m (PushImages pid region pages) = tt
numbers_body d m (ImageDrop pid first pages) = (refl, tt)
numbers_body d m (ImageCopy parent child regions) = (refl, tt)
numbers_body d m (ImageFree pid) = (refl, tt)
numbers_body d m (PullImages pid region) = (refl, tt)
numbers_body d m (ResetImages pid region pages) = (refl, tt)
numbers_body d m (FileSize file) = (refl, tt)
numbers_body d m (NameGet name) = (refl, tt)
numbers_body d m (NameMake name) = by (named d.files.names name)
  where
    by : (c : Option FileNo) → AllByRecursion (λ (r : Message). r.op.0 ≡ m.op.0) (made_name c d m name).1
    by (Some file) = (refl, tt)
    by None = either_numbers m (is_file_room d.files) (says (record d { files = made d.files name }) m (NameIs (Some (record { 0 = d.files.next })))) (says d m (Refused why.NoRoom)) (one_number m) (one_number m)
numbers_body d m (NameCut name) = (refl, tt)
numbers_body d m NameAll = (refl, tt)
numbers_body d m (FileFree file) = (refl, tt)
numbers_body d m (Backup patches) = (refl, tt)
numbers_body d m (BlockGet file block off len asker) = (refl, tt)
numbers_body d m (BlockPut file block off bytes asker) = within d m asker (file_written d.files file.0 block off bytes) Wrote
numbers_body d m (BlockCut file size asker) = within d m asker (file_cut d.files file.0 size) Done
numbers_body d m (OwnerIs owner) = tt
numbers_body d m (Line perms bytes) = tt
numbers_body d m (Refused why) = tt
numbers_body d m Wrote = tt
numbers_body d m LogFull = tt
numbers_body d m Drained = tt
numbers_body d m Done = tt
numbers_body d m (AreasAre areas) = tt
numbers_body d m (FileBytes bytes) = tt
numbers_body d m (SizeIs size) = tt
numbers_body d m (NameIs file) = tt
numbers_body d m (Names list) = tt
numbers_body d m (Meta homes areas) = tt
numbers_body d m (Images pages) = tt

pub stored_numbers : (d : Disk) (m : Message) → AllByRecursion (λ (r : Message). r.op.0 ≡ m.op.0) (stored d m).1
stored_numbers d m = numbers_body d m m.body
